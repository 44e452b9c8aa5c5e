use Rattle.std.proofs.Common.{◌≡◌, ◌+◌, ◌++◌, ◌∷◌, ◌∙◌, List, ℕ, ap, subst, sym, arith}
use Rattle.plan.specs.Line.{line_text, step_words}
use Rattle.plan.specs.Record.{IsNextEntryFault}
use Rattle.plan.specs.Values.{StepValue}
use Rattle.plan.proofs.Entries.{first_entry, next_entries, step_entry_fault, whole_record, end_entry_fault}
use Rattle.plan.proofs.Lines.{nothing_left}
use Rattle.plan.proofs.record.read_entries.Goals as goal

pub returns-in-Err-clause-fault : goal.returns-in-Err-clause-fault
returns-in-Err-clause-fault g c =
    let name : c.as_bytes.result.now ≡ c.step-item.result.name = c.as_bytes.ensures.value ∙ ap (λ (s : StepValue). s.name) c.step.view_is in
    step_entry_fault c.args.steps.now c.loop-step.step-index c.args.text.now c.loop-step.rest.now c.loop-step.digests.items c.step-item.result (c.len.result + 2) c.in-Err.fault c.at.result
    c.requires.valid c.loop-step.invariant c.loop-step-test.true c.step-item.is (λ more. subst (λ (n : List ℕ). IsNextEntryFault (n ∷ more) c.loop-step.rest.now c.in-Err.fault) name (c.in-Err.ensures more))
    (omega (arith, c.len.ensures, c.loop-step.digests.ok)) c.at.ensures

pub loop-step-preserved : goal.loop-step-preserved
loop-step-preserved g c =
    let name : c.as_bytes.result.now ≡ c.step-item.result.name = c.as_bytes.ensures.value ∙ ap (λ (s : StepValue). s.name) c.step.view_is in
    let begins : c.loop-step.rest.now ≡ line_text (step_words c.step-item.result.name c.in-Ok.line.digest) ++ c.in-Ok.line.behind.now = subst (λ (n : List ℕ). c.loop-step.rest.now ≡ line_text (step_words n c.in-Ok.line.digest) ++ c.in-Ok.line.behind.now) name c.in-Ok.ensures.1 in
    next_entries c.args.steps.now c.loop-step.step-index c.args.text.now c.loop-step.rest.now c.in-Ok.line.behind.now c.loop-step.digests.items c.push.new.self.items c.in-Ok.line.digest c.step-item.result
    c.loop-step.invariant c.loop-step-test.true c.step-item.is c.in-Ok.ensures.0 begins (c.in_ok-push-in-Ok.ensures {u = tt}).items

pub returns-then-is_empty-clause-found : goal.returns-then-is_empty-clause-found
returns-then-is_empty-clause-found g c =
    let none = nothing_left c.loop-step.rest.now (sym c.is_empty.ensures ∙ c.if-is_empty.true) in
    whole_record c.args.steps.now c.loop-step.step-index c.args.text.now c.loop-step.rest.now c.loop-step.digests.items c.requires.valid c.loop-step-test.false c.loop-step.invariant none

pub returns-clause-fault : goal.returns-clause-fault
returns-clause-fault g c =
    end_entry_fault c.args.steps.now c.loop-step.step-index c.args.text.now c.loop-step.rest.now c.loop-step.digests.items (c.len-2.result + 2) c.end_fault.result c.at-2.result c.requires.valid c.loop-step-test.false c.loop-step.invariant c.end_fault.ensures
    (omega (arith, c.len-2.ensures, c.loop-step.digests.ok)) c.at-2.ensures

pub returns-in_err-push-in-Ok-clause-late : goal.returns-in_err-push-in-Ok-clause-late
returns-in_err-push-in-Ok-clause-late g c = λ memory.
    let name : c.as_bytes.result.now ≡ c.step-item.result.name = c.as_bytes.ensures.value ∙ ap (λ (s : StepValue). s.name) c.step.view_is in
    let begins : c.loop-step.rest.now ≡ line_text (step_words c.step-item.result.name c.in-Ok.line.digest) ++ c.in-Ok.line.behind.now = subst (λ (n : List ℕ). c.loop-step.rest.now ≡ line_text (step_words n c.in-Ok.line.digest) ++ c.in-Ok.line.behind.now) name c.in-Ok.ensures.1 in
    first_entry c.args.steps.now c.loop-step.step-index c.args.text.now c.loop-step.rest.now c.in-Ok.line.behind.now c.loop-step.digests.items c.in-Ok.line.digest c.step-item.result
    c.requires.valid c.loop-step.invariant c.loop-step-test.true c.step-item.is c.in-Ok.ensures.0 begins
