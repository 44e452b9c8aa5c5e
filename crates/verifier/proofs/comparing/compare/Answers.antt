use Rattle.std.proofs.Common.{◌≡◌, ◌∙◌, sym, subst, true, false, arith}
use Rattle.actions.specs.Outcome.{outputs_form}
use Rattle.verifier.specs.Compared.{RecordedStepValue, IsFirstDifference}
use Rattle.verifier.proofs.Differences.{alike_next, step_got}
use Rattle.verifier.proofs.comparing.compare.Goals as goal

pub returns-then-not-same_action : goal.returns-then-not-same_action
returns-then-not-same_action g c =
    let each = c.requires.each in let lt = c.loop-index-test.true in
    let s : RecordedStepValue = record { action = c.one.inside.action; outcome = c.one.inside.outcome } in
    let t : RecordedStepValue = record { action = c.other.inside.action; outcome = c.other.inside.outcome } in (
      c.loop-index.invariant,
      s,
      t,
      (
        step_got c.args.ones.now c.loop-index.index c.index-ones-index.result s lt c.index-ones-index.is c.one.view_is,
        step_got c.args.others.now c.loop-index.index c.index-others-step.result t (omega (arith, each, lt)) c.index-others-step.is c.other.view_is,
      ),
      λ same. let yes = c.same_action.ensures.1 same in let no = c.if-not-same_action.true in let both : true ≡ false = sym yes ∙ no in cc,
    )

pub returns-in-Some : goal.returns-in-Some
returns-in-Some g c =
    let each = c.requires.each in let lt = c.loop-index-test.true in
    let s : RecordedStepValue = record { action = c.one.inside.action; outcome = c.one.inside.outcome } in
    let t : RecordedStepValue = record { action = c.other.inside.action; outcome = c.other.inside.outcome } in (
      c.loop-index.invariant,
      s,
      t,
      (
        step_got c.args.ones.now c.loop-index.index c.index-ones-index.result s lt c.index-ones-index.is c.one.view_is,
        step_got c.args.others.now c.loop-index.index c.index-others-step.result t (omega (arith, each, lt)) c.index-others-step.is c.other.view_is,
      ),
      c.same_action.ensures.0 c.if-not-same_action.false,
      subst (IsFirstDifference (outputs_form s.outcome.outputs) (outputs_form t.outcome.outputs)) c.in-Some.is (c.in_ok-path.ensures {u = tt}),
    )

pub loop-index-preserved : goal.loop-index-preserved
loop-index-preserved g c =
    let each = c.requires.each in let lt = c.loop-index-test.true in
    let s : RecordedStepValue = record { action = c.one.inside.action; outcome = c.one.inside.outcome } in
    let t : RecordedStepValue = record { action = c.other.inside.action; outcome = c.other.inside.outcome } in
    alike_next c.args.ones.now c.args.others.now c.loop-index.index s t
    (step_got c.args.ones.now c.loop-index.index c.index-ones-index.result s lt c.index-ones-index.is c.one.view_is)
    (step_got c.args.others.now c.loop-index.index c.index-others-step.result t (omega (arith, each, lt)) c.index-others-step.is c.other.view_is)
    c.requires.one c.requires.other (c.same_action.ensures.0 c.if-not-same_action.false)
    (subst (IsFirstDifference (outputs_form s.outcome.outputs) (outputs_form t.outcome.outputs)) c.in_default.is (c.in_ok-path.ensures {u = tt}))
    c.loop-index.invariant

pub returns : goal.returns
returns g c = let past = c.loop-index-test.false in λ i s t lt stand. c.loop-index.invariant i s t (omega (arith, past, lt)) stand
