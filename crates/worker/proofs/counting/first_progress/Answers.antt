use Rattle.std.proofs.Common.{◌≡◌, ◌+◌, true, false, length, refl, ap, sym, ◌∙◌, take_all, arith, inl, inr}
use Rattle.std.specs.Prelude.{◌⊎◌}
use Rattle.plan.specs.Values.{PlanValue}
use Rattle.worker.specs.Watching.{finished_count}
use Rattle.worker.proofs.Counts.{counted_next, next_le}
use Rattle.worker.proofs.counting.first_progress.Goals as goal
use Rattle.worker.proofs.counting.first_progress.Goals.{then-finished, else-finished}

pub loop-step-preserved : goal.loop-step-preserved
loop-step-preserved g c =
    let e = c.args.engine.now in
    let i = c.loop-step.step in
    let by : ((c.finished.result ≡ true) × (c.if-finished.finished ≡ c.loop-step.finished + 1)) ⊎ ((c.finished.result ≡ false) × (c.if-finished.finished ≡ c.loop-step.finished)) =
    elim c.if-finished.branch [ then-finished w ↦ inl (w.if-finished.true, w.finished-is) | else-finished w ↦ inr (w.if-finished.false, w.finished-is) ] in
    let steps = ap length c.steps-steps.ensures.value ∙ ap (λ (p : PlanValue). length p.steps) c.plan.ensures.value in
    let count = c.plan.ensures.valid.count in
    let lt = c.loop-step-test.true in
    let le = next_le c.loop-step.finished c.if-finished.finished c.finished.result by in
    let few = c.loop-step.invariant.few in
    record {
      counted = counted_next e.finished i c.loop-step.finished c.if-finished.finished c.finished.result (omega (arith, steps, count, lt)) c.finished.ensures.value by c.loop-step.invariant.counted;
      few = omega (arith, le, few);
    }

pub returns : goal.returns
returns g c =
    let e = c.args.engine.now in
    let steps = ap length c.steps-steps.ensures.value ∙ ap (λ (p : PlanValue). length p.steps) c.plan.ensures.value in
    let count = c.plan.ensures.valid.count in
    let end = c.loop-step-test.false in
    let whole = ap finished_count (take_all c.loop-step.step e.finished (omega (arith, steps, count, end))) in
    record {
      all = steps;
      done = c.loop-step.invariant.counted ∙ whole;
      from_store = refl;
      no_more = omega arith;
      jobs = sym c.requires;
      first = refl;
    }
