use Rattle.std.proofs.Common.{◌≡◌, ◌≤◌, true, false, length, ap, sym, ◌∙◌, subst, arith, inl, inr}
use Rattle.std.specs.Prelude.{◌⊎◌, not}
use Rattle.plan.specs.Values.{PlanValue}
use Rattle.worker.specs.Going.{IsJobOf}
use Rattle.worker.specs.Watching.{first_step}
use Rattle.worker.proofs.Counts.{bit_le, comes_of, count_le, count_next, taken_of}
use Rattle.worker.proofs.Jobs.{jobs_count}
use Rattle.worker.proofs.counting.progress_after.Goals as goal
use Rattle.worker.proofs.counting.progress_after.Goals.{then-finished, else-finished, then-comes, else-comes}

pub returns : goal.returns
returns g c old calls all is had only counts order =
    let new = c.args.engine.now in
    let comes = c.if-finished.comes in
    let by : ((c.finished.result ≡ true) × (comes ≡ not c.args.turn.had_finished)) ⊎ ((c.finished.result ≡ false) × (comes ≡ c.finished.result)) =
    elim c.if-finished.branch [ then-finished w ↦ inl (w.if-finished.true, w.comes-is) | else-finished w ↦ inr (w.if-finished.false, w.comes-is) ] in
    let follows : c.if-comes.is_taken ≡ true → comes ≡ true =
    λ t. elim c.if-comes.branch [ then-comes w ↦ w.if-comes.true | else-comes w ↦ sym w.is_taken-is ∙ t ] in
    let both = comes_of c.finished.result c.args.turn.had_finished comes c.finished.ensures.value had by in
    let k = c.plan.ensures.valid in
    let count = k.count in
    let steps = ap length c.steps.ensures.value ∙ ap (λ (p : PlanValue). length p.steps) c.plan.ensures.value in
    let few : length c.steps.result.now ≤ 4096 = subst (λ n. n ≤ 4096) (sym (ap length c.steps.ensures.value)) c.steps.ensures.valid.few in
    let within = c.requires.within in
    let len = only.count in
    let next = count_next old.finished new.finished c.args.turn.step (omega (arith, within, count, len)) len only.others comes both.0 both.1 only.still in
    let le = count_le new.finished in
    let done = is.done in
    let taken = is.no_more in
    let bit = bit_le c.if-comes.is_taken comes follows in
    let by_taken : ((comes ≡ true) × (c.if-comes.is_taken ≡ c.args.turn.is_start)) ⊎ ((comes ≡ false) × (c.if-comes.is_taken ≡ comes)) =
    elim c.if-comes.branch [ then-comes w ↦ inl (w.if-comes.true, w.is_taken-is) | else-comes w ↦ inr (w.if-comes.false, w.is_taken-is) ] in
    let from = taken_of c.args.turn.is_start comes c.if-comes.is_taken c.args.turn.step old new by_taken both.0 both.1 in
    let was = is.from_store in
    let finished_is = c.counted.ensures (omega (arith, next, le, done, steps, few, count)) in
    let taken_is = c.counted-2.ensures (omega (arith, next, le, done, steps, few, count, taken, bit)) in
    let jobs = jobs_count IsJobOf c.args.children.now.items new.jobs c.requires.there in
    let ok = c.args.children.now.ok in
    let length_is = c.len.ensures in
    record {
      all = steps;
      done = omega (arith, finished_is, next, done);
      from_store = omega (arith, taken_is, from, was, counts);
      no_more = omega (arith, finished_is, taken_is, taken, bit);
      jobs = omega (arith, jobs, ok, length_is);
      first = c.longest.ensures ∙ ap first_step (sym order);
    }
