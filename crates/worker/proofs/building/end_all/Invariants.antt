use Rattle.std.proofs.Common.{◌≡◌, ◌+◌, ◌≤◌, ℕ, [], length}
use Rattle.blob_source.specs.Source.{Telling}
use Rattle.runs.specs.Engine.{EngineValue}
use Rattle.worker.specs.Going.{AreJobsOf, IsJobOf, IsGoing}
use Rattle.worker.specs.Stopped.{LosesRest}
use Rattle.worker.specs.Values.{SaysNoMore}
use Rattle.worker.proofs.building.end_all.Given as goal

abbrev pub invariant-loop-child : goal.invariant-loop-child
invariant-loop-child g l =
    let yields = g.N.Runner.yields in
    let may = g.N.Runner.may_give in
    let starts = g.N.Runner.starts in
    record {
      none : l.fn.children.items ≡ [] → (l.rest.items ≡ []) × (g.N.Runner.failures l.runner ≡ g.N.Runner.failures l.fn.runner);
      device : g.N.Runner.failures l.fn.runner ≤ g.N.Runner.failures l.runner;
      no_more : SaysNoMore (g.N.Runner.ran l.runner) (g.N.Runner.ran l.fn.runner);
      there : AreJobsOf IsJobOf l.engine.jobs l.rest.items;
      going : (entry : g.row.N.Denot) (s t : Telling) (most : ℕ) (first : EngineValue) → (g0 : IsGoing g.row.A.Denot (yields entry) may (starts entry) (starts l.fn.runner) s t most first l.fn.engine l.fn.children.items)
          → (h : IsGoing g.row.A.Denot (yields entry) may (starts entry) (starts l.runner) s t most first l.engine l.rest.items) × LosesRest g.row.A.Denot (yields entry) t most g0.led.built.led.calls h.led.built.led.calls l.fn.engine l.engine;
      alive : (count : ℕ) → g.N.Runner.alive l.fn.runner ≡ count + length l.fn.children.items → g.N.Runner.alive l.runner ≡ count + length l.rest.items;
    }

abbrev pub decreases-loop-child : goal.decreases-loop-child
decreases-loop-child g l = length l.rest.items
