use Rattle.std.proofs.Common.{◌≡◌, ◌≢◌, ◌+◌, ◌++◌, ◌∷◌, ◌∙◌, [], List, ℕ, ap, sym, length, arith}
use Rattle.plan.specs.declared.error.Fault.TheVariants as faults
use Rattle.plan.specs.Faults.{HasStep, IsFaultBehind}
use Rattle.plan.specs.Parts.{IsLinesFault}
use Rattle.plan.specs.Plan.{plan_header, lines_text}
use Rattle.plan.specs.Values.{StepValue}
use Rattle.plan.proofs.Beginnings.{step_fault, is_step, handed_on, lines_of_step, shorter, step_with, next_front}
use Rattle.plan.proofs.Directories.{no_lines}
use Rattle.plan.proofs.Early.{on_err, step_at}
use Rattle.plan.proofs.StepNames.{found_name, new_name}
use Rattle.plan.proofs.StepTexts.{count_few}
use Rattle.plan.proofs.plan.read_steps.Goals as goal

pub returns-then-is_some-clause-fault : goal.returns-then-is_some-clause-fault
returns-then-is_some-clause-fault g c =
    let first = c.in-Some.ensures in
    let has : HasStep c.loop-line.steps c.in-Some.line.name.now = found_name c.loop-line.steps c.in-Some.line.name.now c.number_of.result c.number_of.ensures (sym c.is_some.ensures ∙ c.if-is_some.true) in
    step_fault c.args.version c.args.text.now c.loop-line.rest.now c.in-Some.line.behind.now c.loop-line.steps c.in-Some.line.name.now c.in-Some.line.digest c.loop-line.number faults.SameStep c.at.result
    c.loop-line.invariant.few c.loop-line.invariant.valid c.loop-line.invariant.apart c.loop-line.invariant.cut c.loop-line.invariant.counted ((first.0, first.1), (c.in-Some.line.behind.now, first.2)) has c.at.ensures

pub returns-then-len-eq-MOST_STEPS-clause-fault : goal.returns-then-len-eq-MOST_STEPS-clause-fault
returns-then-len-eq-MOST_STEPS-clause-fault g c =
    let first = c.in-Some.ensures in
    let new = new_name c.loop-line.steps c.in-Some.line.name.now c.number_of.result c.number_of.ensures (sym c.is_some.ensures ∙ c.if-is_some.false) in
    let full : length c.loop-line.steps ≡ 4096 = omega (arith, c.if-len-eq-MOST_STEPS.true, c.len.ensures) in
    step_fault c.args.version c.args.text.now c.loop-line.rest.now c.in-Some.line.behind.now c.loop-line.steps c.in-Some.line.name.now c.in-Some.line.digest c.loop-line.number faults.TooMany c.at-then-len-eq-MOST_STEPS.result
    c.loop-line.invariant.few c.loop-line.invariant.valid c.loop-line.invariant.apart c.loop-line.invariant.cut c.loop-line.invariant.counted ((first.0, first.1), (c.in-Some.line.behind.now, first.2)) (new, full) c.at-then-len-eq-MOST_STEPS.ensures

pub overflow_add-number : goal.overflow_add-number
overflow_add-number g c = omega (arith, count_few [] c.loop-line.steps c.loop-line.invariant.valid, c.loop-line.invariant.few, c.loop-line.invariant.counted)

pub read_lines-requires-clause-first_fits : goal.read_lines-requires-clause-first_fits
read_lines-requires-clause-first_fits g c = omega (arith, count_few [] c.loop-line.steps c.loop-line.invariant.valid, c.loop-line.invariant.few, c.loop-line.invariant.counted)

pub returns-in_err-lines-clause-fault : goal.returns-in_err-lines-clause-fault
returns-in_err-lines-clause-fault g c =
    let first = c.in-Some.ensures in
    let new = new_name c.loop-line.steps c.in-Some.line.name.now c.number_of.result c.number_of.ensures (sym c.is_some.ensures ∙ c.if-is_some.false) in
    let few : length c.loop-line.steps ≢ 4096 = λ e. c.if-len-eq-MOST_STEPS.false (omega (arith, e, c.len.ensures)) in
    let is = is_step c.loop-line.steps (step_with c.in-Some.line.name.now c.in-Some.line.digest []) new first.0 first.1 (no_lines (length c.loop-line.steps)) in
    handed_on c.from_residual.result c.in_err-lines.field-0.0 (IsLinesFault c.args.version c.loop-line.steps (c.loop-line.number + 1) c.in-Some.line.behind.now) (IsFaultBehind (plan_header c.args.version ++ c.args.text.now)) c.from_residual.ensures.1
    (λ e h. lines_of_step c.args.version c.args.text.now c.loop-line.rest.now c.in-Some.line.behind.now c.loop-line.steps c.in-Some.line.name.now c.in-Some.line.digest (c.loop-line.number + 1) e (omega (arith, few, c.loop-line.invariant.few)) c.loop-line.invariant.valid c.loop-line.invariant.apart c.loop-line.invariant.cut
    (omega (arith, c.loop-line.invariant.counted)) first.2 is h)
    c.in_err-lines.ensures.fault

pub overflow_add-number-in-Some-2 : goal.overflow_add-number-in-Some-2
overflow_add-number-in-Some-2 g c =
    let many = c.in_ok-lines.ensures.found.0.few in
    omega (arith, count_few [] c.loop-line.steps c.loop-line.invariant.valid, c.loop-line.invariant.few, c.loop-line.invariant.counted, c.len-in-Some.ensures, c.in_ok-lines.lines.ok, many)

pub with-requires : goal.with-requires
with-requires g c =
    let new = new_name c.loop-line.steps c.in-Some.line.name.now c.number_of.result c.number_of.ensures (sym c.is_some.ensures ∙ c.if-is_some.false) in
    rw c.in_ok-of_valid.ensures new

pub loop-line-smaller : goal.loop-line-smaller
loop-line-smaller g c =
    let found = c.in_ok-lines.ensures.found in
    shorter c.in-Some.line.name.now c.in-Some.line.digest c.loop-line.rest.now c.in-Some.line.behind.now (lines_text c.loop-line.steps c.in_ok-lines.lines.items) c.in_ok-lines.behind.now c.in-Some.ensures.2 found.1

pub loop-line-preserved : goal.loop-line-preserved
loop-line-preserved g c =
    let first = c.in-Some.ensures in
    let found = c.in_ok-lines.ensures.found in
    let new = new_name c.loop-line.steps c.in-Some.line.name.now c.number_of.result c.number_of.ensures (sym c.is_some.ensures ∙ c.if-is_some.false) in
    let step : StepValue = step_with c.in-Some.line.name.now c.in-Some.line.digest c.in_ok-lines.lines.items in
    let is = is_step c.loop-line.steps (step_with c.in-Some.line.name.now c.in-Some.line.digest c.in_ok-lines.lines.items) new first.0 first.1 found.0 in
    let next : c.in_ok-steps.steps ≡ c.loop-line.steps ++ step_with c.in-Some.line.name.now c.in-Some.line.digest c.in_ok-lines.lines.items ∷ [] = c.in_ok-steps.ensures ∙ ap (λ (n : List ℕ). c.loop-line.steps ++ step_with n c.in-Some.line.digest c.in_ok-lines.lines.items ∷ []) c.in_ok-of_valid.ensures in
    next_front c.args.version c.args.text.now c.loop-line.rest.now c.in-Some.line.behind.now c.in_ok-lines.behind.now c.loop-line.steps (step_with c.in-Some.line.name.now c.in-Some.line.digest c.in_ok-lines.lines.items) c.in_ok-steps.steps c.loop-line.number (c.loop-line.number + (1 + c.len-in-Some.result))
    c.loop-line.invariant.few (λ e. c.if-len-eq-MOST_STEPS.false (omega (arith, e, c.len.ensures))) c.loop-line.invariant.valid c.loop-line.invariant.apart is c.in_ok-lines.ensures.apart c.loop-line.invariant.cut c.loop-line.invariant.counted first.2 found.1 c.in_ok-lines.ensures.none next (omega (arith, c.len-in-Some.ensures, c.in_ok-lines.lines.ok))

pub returns-then-is_some-clause-late : goal.returns-then-is_some-clause-late
returns-then-is_some-clause-late g c = step_at c.args.text.now c.loop-line.rest.now c.in-Some.line.behind.now c.loop-line.steps c.in-Some.line.name.now c.in-Some.line.digest c.loop-line.invariant.valid c.loop-line.invariant.cut c.in-Some.ensures

pub returns-then-len-eq-MOST_STEPS-clause-late : goal.returns-then-len-eq-MOST_STEPS-clause-late
returns-then-len-eq-MOST_STEPS-clause-late g c = step_at c.args.text.now c.loop-line.rest.now c.in-Some.line.behind.now c.loop-line.steps c.in-Some.line.name.now c.in-Some.line.digest c.loop-line.invariant.valid c.loop-line.invariant.cut c.in-Some.ensures

pub returns-in_err-lines-clause-late : goal.returns-in_err-lines-clause-late
returns-in_err-lines-clause-late g c = on_err c.from_residual.result (step_at c.args.text.now c.loop-line.rest.now c.in-Some.line.behind.now c.loop-line.steps c.in-Some.line.name.now c.in-Some.line.digest c.loop-line.invariant.valid c.loop-line.invariant.cut c.in-Some.ensures)

pub returns-in_err-of_valid-clause-late : goal.returns-in_err-of_valid-clause-late
returns-in_err-of_valid-clause-late g c = on_err c.from_residual-in_err-of_valid.result (step_at c.args.text.now c.loop-line.rest.now c.in-Some.line.behind.now c.loop-line.steps c.in-Some.line.name.now c.in-Some.line.digest c.loop-line.invariant.valid c.loop-line.invariant.cut c.in-Some.ensures)

pub returns-in_err-steps-clause-late : goal.returns-in_err-steps-clause-late
returns-in_err-steps-clause-late g c = on_err c.from_residual-in_err-steps.result (step_at c.args.text.now c.loop-line.rest.now c.in-Some.line.behind.now c.loop-line.steps c.in-Some.line.name.now c.in-Some.line.digest c.loop-line.invariant.valid c.loop-line.invariant.cut c.in-Some.ensures)
