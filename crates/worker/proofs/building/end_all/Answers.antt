use Rattle.std.proofs.Common.{arith, refl}
use Rattle.worker.proofs.Taking.{jobs_now, lost_jobs, lost_goes, lost_count, loses_none}
use Rattle.worker.proofs.Failures.{counts_risen}
use Rattle.worker.proofs.building.end_all.Goals as goal

pub lose-requires : goal.lose-requires
lose-requires g c =
    let jobs = jobs_now c.loop-child.engine c.loop-child.engine c.in-Some.child c.loop-child.rest.items c.pop_front.new.self.items c.in-Some.ensures.items c.loop-child.invariant.there in (jobs.0, jobs.1)

pub loop-child-preserved : goal.loop-child-preserved
loop-child-preserved g c =
    let lost = c.lose.ensures in
    record {
      none = λ h. absurd (let none = (c.loop-child.invariant.none h).0 in let some = c.in-Some.ensures.items in cc);
      device = let was = c.loop-child.invariant.device in let now = counts_risen c.finish.result c.finish.ensures.counted in omega (arith, was, now);
      no_more = λ ran h. c.loop-child.invariant.no_more ran (c.finish.ensures.no_more ran h);
      there = lost_jobs c.loop-child.engine c.lose.new.engine c.in-Some.child c.loop-child.rest.items c.pop_front.new.self.items c.in-Some.ensures.items c.loop-child.invariant.there lost;
      going = λ entry s t most first h. let was = c.loop-child.invariant.going entry s t most first h in lost_goes c.loop-child.engine c.lose.new.engine c.in-Some.child c.loop-child.rest.items c.pop_front.new.self.items c.in-Some.ensures.items c.loop-child.invariant.there g.row.A.Denot (g.N.Runner.yields entry) g.N.Runner.may_give lost (g.N.Runner.starts entry) (g.N.Runner.starts c.loop-child.runner) (g.N.Runner.starts c.finish.new.self) c.finish.ensures.unlisted s t most first c.args.engine.now h.led.built.led.calls was.0 was.1;
      alive = λ count h. lost_count c.in-Some.child c.loop-child.rest.items c.pop_front.new.self.items c.in-Some.ensures.items count _ _ (c.loop-child.invariant.alive count h) c.finish.ensures.closed;
    }

pub returns-clause-alive : goal.returns-clause-alive
returns-clause-alive g c count h =
    let empty = (c.in_default.ensures {u = tt}).cases.0 in
    let all = c.loop-child.invariant.alive count h in
    let ok = c.loop-child.rest.ok in
    omega (arith, empty, all, ok)

pub returns-clause-led : goal.returns-clause-led
returns-clause-led g c = λ entry before t most first h. let on = c.loop-child.invariant.going entry before t most first h in (on.0.led, on.1)

pub loop-child-init : goal.loop-child-init
loop-child-init g c = record {
  none = λ h. (h, refl);
  device = omega arith;
  no_more = λ ran h. h;
  there = c.requires.there;
  going = λ entry s t most first h. (h, loses_none);
  alive = λ count h. h;
}

pub returns-clause-none : goal.returns-clause-none
returns-clause-none g c h = (c.loop-child.invariant.none h).1
