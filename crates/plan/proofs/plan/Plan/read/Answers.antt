use Rattle.std.proofs.Common.{◌≡◌, ℕ, ◌+◌, ◌++◌, ◌∙◌, [], List, ap, refl, inl, sym, subst, arith, Err}
use Rattle.plan.specs.Faults.{IsFaultBehind, IsPlanFault}
use Rattle.plan.specs.Parts.{IsLinesFault}
use Rattle.plan.specs.Plan.{IsPlan, plan_header, plan_text}
use Rattle.plan.specs.Reading.{FaultyUnlessMemory}
use Rattle.plan.specs.Values.{StepValue}
use Rattle.plan.proofs.Beginnings.{root_fault, lines_of_root, end_fault, handed_on, plan_with}
use Rattle.plan.proofs.Chains.{plan_one, no_fault}
use Rattle.plan.proofs.Early.{not_early, root_at, told}
use Rattle.plan.proofs.Lines.{nothing_left, some_left}
use Rattle.plan.proofs.Reading.{lifted, lifted_error, only_error, only_handed, no_header, small_number, whole_plan}
use Rattle.plan.proofs.plan.Plan.read.Goals as goal

pub returns-in_default-clause-only : goal.returns-in_default-clause-only
returns-in_default-clause-only g c = λ plan is e. absurd (no_header c.args.text.now plan e c.in_default.ensures)

pub returns-in_err-front-clause-fault : goal.returns-in_err-front-clause-fault
returns-in_err-front-clause-fault g c =
    handed_on c.from_residual.result c.in_err-front.field-0.0 (IsFaultBehind (plan_header c.in-Some.version ++ c.in-Some.rest.now)) (IsPlanFault c.args.text.now) c.from_residual.ensures.1
    (λ x h. lifted c.in-Some.version c.args.text.now c.in-Some.rest.now x c.in-Some.ensures h) c.in_err-front.ensures.fault

pub returns-in_err-front-clause-only : goal.returns-in_err-front-clause-only
returns-in_err-front-clause-only g c = λ plan is e. only_handed c.args.text.now c.from_residual.result plan c.from_residual.ensures.0 is e (returns-in_err-front-clause-fault g c)

pub returns-in_default-strip-clause-fault : goal.returns-in_default-strip-clause-fault
returns-in_default-strip-clause-fault g c =
    lifted_error c.in-Some.version c.args.text.now c.in-Some.rest.now c.at-in_default-strip.result c.in-Some.ensures
    (root_fault c.in-Some.version c.in-Some.rest.now c.in_ok-front.front.rest.now c.in_ok-front.front.steps c.in_ok-front.front.number c.at-in_default-strip.result c.in_ok-front.ensures.found c.in_default-strip.ensures c.at-in_default-strip.ensures)

pub returns-in_default-strip-clause-only : goal.returns-in_default-strip-clause-only
returns-in_default-strip-clause-only g c = λ plan is e. only_error c.args.text.now c.at-in_default-strip.result plan is e (returns-in_default-strip-clause-fault g c)

pub overflow_add-first : goal.overflow_add-first
overflow_add-first g c = omega (arith, small_number c.in-Some.version c.in-Some.rest.now c.in_ok-front.front.rest.now c.in_ok-front.front.steps c.in_ok-front.front.number c.in_ok-front.ensures.found)

pub read_lines-requires-clause-first_fits : goal.read_lines-requires-clause-first_fits
read_lines-requires-clause-first_fits g c = omega (arith, small_number c.in-Some.version c.in-Some.rest.now c.in_ok-front.front.rest.now c.in_ok-front.front.steps c.in_ok-front.front.number c.in_ok-front.ensures.found)

pub returns-in_err-root-clause-fault : goal.returns-in_err-root-clause-fault
returns-in_err-root-clause-fault g c =
    let e1 = c.in_err-root.ensures.fault in
    let s2 = c.in-Some-strip.ensures in
    handed_on c.from_residual-in_err-root.result c.in_err-root.field-0.0 (IsLinesFault c.in-Some.version c.in_ok-front.front.steps (c.in_ok-front.front.number + 1) c.in-Some-strip.rest.now) (IsPlanFault c.args.text.now) c.from_residual-in_err-root.ensures.1
    (λ x h. lifted c.in-Some.version c.args.text.now c.in-Some.rest.now x c.in-Some.ensures (lines_of_root c.in-Some.version c.in-Some.rest.now c.in_ok-front.front.rest.now c.in-Some-strip.rest.now c.in_ok-front.front.steps c.in_ok-front.front.number x c.in_ok-front.ensures.found c.in-Some-strip.ensures h))
    c.in_err-root.ensures.fault

pub returns-in_err-root-clause-only : goal.returns-in_err-root-clause-only
returns-in_err-root-clause-only g c = λ plan is e. only_handed c.args.text.now c.from_residual-in_err-root.result plan c.from_residual-in_err-root.ensures.0 is e (returns-in_err-root-clause-fault g c)

pub overflow_add-first-then-not-is_empty : goal.overflow_add-first-then-not-is_empty
overflow_add-first-then-not-is_empty g c =
    let found = (c.in_ok-root.ensures {u = tt}).found in
    let few = found.0.few in
    omega (arith, small_number c.in-Some.version c.in-Some.rest.now c.in_ok-front.front.rest.now c.in_ok-front.front.steps c.in_ok-front.front.number c.in_ok-front.ensures.found, few, c.len.ensures, c.in_ok-root.root.ok)

pub returns-then-not-is_empty-clause-fault : goal.returns-then-not-is_empty-clause-fault
returns-then-not-is_empty-clause-fault g c =
    let found = (c.in_ok-root.ensures {u = tt}).found in
    let some = some_left c.in_ok-root.rest.now (sym c.is_empty.ensures ∙ c.if-not-is_empty.true) in
    lifted_error c.in-Some.version c.args.text.now c.in-Some.rest.now c.at-then-not-is_empty.result c.in-Some.ensures
    (end_fault c.in-Some.version c.in-Some.rest.now c.in_ok-front.front.rest.now c.in-Some-strip.rest.now c.in_ok-root.rest.now c.in_ok-front.front.steps c.in_ok-root.root.items c.in_ok-front.front.number (c.in_ok-front.front.number + 1 + c.len.result) c.at-then-not-is_empty.result
    c.in_ok-front.ensures.found c.in-Some-strip.ensures found.0 (c.in_ok-root.ensures {u = tt}).apart found.1 some (c.in_ok-root.ensures {u = tt}).none (omega (arith, c.len.ensures, c.in_ok-root.root.ok)) c.at-then-not-is_empty.ensures)

pub returns-then-not-is_empty-clause-only : goal.returns-then-not-is_empty-clause-only
returns-then-not-is_empty-clause-only g c = λ plan is e. only_error c.args.text.now c.at-then-not-is_empty.result plan is e (returns-then-not-is_empty-clause-fault g c)

pub invariant_of-result : goal.invariant_of-result
invariant_of-result g c =
    let found = (c.in_ok-root.ensures {u = tt}).found in
    let is : IsPlan (plan_with c.in-Some.version c.in_ok-front.front.steps c.in_ok-root.root.items) = record {
      few = c.in_ok-front.ensures.found.few;
      steps = c.in_ok-front.ensures.found.valid;
      root_lines = found.0;
      apart = c.in_ok-front.ensures.found.apart;
      root_apart = (c.in_ok-root.ensures {u = tt}).apart;
    } in
    subst (λ (steps : List StepValue). IsPlan (plan_with c.in-Some.version steps c.in_ok-root.root.items)) (sym c.into_vec.ensures) is

pub returns-clause-found : goal.returns-clause-found
returns-clause-found g c =
    let found = (c.in_ok-root.ensures {u = tt}).found in
    let none : c.in_ok-root.rest.now ≡ [] = nothing_left c.in_ok-root.rest.now (sym c.is_empty.ensures ∙ c.if-not-is_empty.false) in
    let whole = whole_plan c.in-Some.version c.args.text.now c.in-Some.rest.now c.in_ok-front.front.rest.now c.in-Some-strip.rest.now c.in_ok-root.rest.now c.in_ok-front.front.steps c.in_ok-root.root.items c.in_ok-front.front.number c.in-Some.ensures c.in_ok-front.ensures.found c.in-Some-strip.ensures found.0 (c.in_ok-root.ensures {u = tt}).apart found.1 none in
    subst (λ (steps : List StepValue). IsPlan (plan_with c.in-Some.version steps c.in_ok-root.root.items) × (c.args.text.now ≡ plan_text (plan_with c.in-Some.version steps c.in_ok-root.root.items))) (sym c.into_vec.ensures) whole

pub returns-clause-only : goal.returns-clause-only
returns-clause-only g c = λ plan is e.
    let found = returns-clause-found g c in
    plan_one (plan_with c.in-Some.version c.into_vec.result.items c.in_ok-root.root.items) plan found.0 is (sym found.1 ∙ e)

pub returns-in_default-clause-early : goal.returns-in_default-clause-early
returns-in_default-clause-early g c = λ e f few. ap Err (told c.args.text.now c.at.result _ e c.at.ensures (subst (FaultyUnlessMemory (IsPlanFault c.args.text.now)) (sym c.at.ensures) (inl (refl, c.in_default.ensures))) f)

pub returns-in_err-front-clause-early : goal.returns-in_err-front-clause-early
returns-in_err-front-clause-early g c = λ e f few. absurd (not_early c.in-Some.version c.args.text.now c.in-Some.rest.now e c.in-Some.ensures c.in_err-front.ensures.late f few)

pub returns-in_default-strip-clause-early : goal.returns-in_default-strip-clause-early
returns-in_default-strip-clause-early g c = λ e f few. ap Err (told c.args.text.now c.at-in_default-strip.result _ e c.at-in_default-strip.ensures (returns-in_default-strip-clause-fault g c) f)

pub returns-in_err-root-clause-early : goal.returns-in_err-root-clause-early
returns-in_err-root-clause-early g c = λ e f few.
    let two = root_at c.in-Some.version c.in-Some.rest.now c.in_ok-front.front.rest.now c.in-Some-strip.rest.now c.in_ok-front.front.steps c.in_ok-front.front.number c.in_ok-front.ensures.found c.in-Some-strip.ensures in
    absurd (not_early c.in-Some.version c.args.text.now c.in-Some.rest.now e c.in-Some.ensures two f few)

pub returns-then-not-is_empty-clause-early : goal.returns-then-not-is_empty-clause-early
returns-then-not-is_empty-clause-early g c = λ e f few. ap Err (told c.args.text.now c.at-then-not-is_empty.result _ e c.at-then-not-is_empty.ensures (returns-then-not-is_empty-clause-fault g c) f)

pub returns-clause-early : goal.returns-clause-early
returns-clause-early g c = λ e f few.
    let found = returns-clause-found g c in
    absurd (no_fault (plan_with c.in-Some.version c.into_vec.result.items c.in_ok-root.root.items) e found.0 (subst (λ (t : List ℕ). IsPlanFault t e) found.1 f))
