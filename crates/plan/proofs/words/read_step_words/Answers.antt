-- A step's line has its name before the first space behind `step `, and its digest behind it.
use Rattle.std.proofs.Common.{sym, ◌∙◌}
use Rattle.plan.specs.Line.{IsStepName}
use Rattle.plan.proofs.Lines.{step_parts, step_has_space}
use Rattle.plan.proofs.words.read_step_words.Goals as goal

pub returns-in_err-name : goal.returns-in_err-name
returns-in_err-name c =
    rw c.from_residual-in_err-name.ensures
    (λ name digest named valid e. c.in_err-name.ensures {u = tt} (step_has_space c.args.words.now c.in_ok-rest.rest.now name digest (c.in_ok-rest.ensures {u = tt}) e))

pub returns-then-not-is_step_name : goal.returns-then-not-is_step_name
returns-then-not-is_step_name c = λ name digest named valid e.
    let split = c.in_ok-name.ensures {u = tt} in
    let parts = step_parts c.args.words.now c.in_ok-rest.rest.now c.in_ok-name.name.now c.in_ok-name.digest.now name digest (c.in_ok-rest.ensures {u = tt}) split.0 split.1 named e in
    let is : IsStepName c.in_ok-name.name.now = rw parts.0 named in
    cc (sym c.if-not-is_step_name.true ∙ c.is_step_name.ensures.1 is)

pub returns-in-Err : goal.returns-in-Err
returns-in-Err c = λ name digest named valid e.
    let split = c.in_ok-name.ensures {u = tt} in
    let parts = step_parts c.args.words.now c.in_ok-rest.rest.now c.in_ok-name.name.now c.in_ok-name.digest.now name digest (c.in_ok-rest.ensures {u = tt}) split.0 split.1 named e in
    cc (c.in-Err.ensures.only digest valid parts.1)
