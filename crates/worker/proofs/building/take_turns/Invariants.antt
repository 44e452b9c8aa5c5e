use Rattle.std.proofs.Common.{◌≡◌, ◌+◌, ◌++◌, length}
use Rattle.blob_source.specs.Sink.{KeepsRight}
use Rattle.worker.specs.Storing.{Remembers, StaysRemembered, StoresSteps}
use Rattle.worker.specs.Outcomes.{YieldsNoMore}
use Rattle.worker.specs.Calls.{AreTurns, came_of}
use Rattle.worker.specs.Going.{IsGoing, IsOfTurns, turns_left}
use Rattle.worker.specs.Watching.{IsProgress, IsProgressOf, IsWatched, turns_in}
use Rattle.worker.specs.Stored.{KeepsAllBut}
use Rattle.worker.specs.Values.{SaysNoMore}
use Rattle.worker.proofs.building.take_turns.Given as goal

abbrev pub invariant-loop-turn : goal.invariant-loop-turn
invariant-loop-turn g l =
    let tells = g.S.BlobSource.tells in
    let yields = g.N.Runner.yields in
    let told = g.W.Watcher.told in
    record {
      going : (h : IsGoing g.row.A.Denot (yields l.fn.runner) g.N.Runner.may_give (g.N.Runner.starts l.fn.runner) (g.N.Runner.starts l.runner) (tells l.fn.sink) (tells l.sink) l.jobs l.fn.engine l.engine l.underway.children.items)
          × IsProgressOf h.led.built.led.calls l.engine l.progress
          × IsWatched (IsProgress g.row.A.Denot (yields l.fn.runner) (tells l.sink) l.jobs l.fn.engine h.led.built.led.calls) (turns_in h.led.built.led.calls) (told l.fn.watcher) (told l.watcher)
          × AreTurns h.led.built.led.calls × ((tells l.sink).puts ≡ (tells l.fn.sink).puts ++ came_of h.led.built.led.calls);
      within : YieldsNoMore (yields l.runner) (yields l.fn.runner);
      right : KeepsRight (tells l.fn.sink).blobs (tells l.sink).blobs;
      blobs : KeepsAllBut (IsOfTurns g.row.A.Denot (yields l.fn.runner) (tells l.sink).blobs l.engine) (tells l.fn.sink).blobs (tells l.sink).blobs;
      stored : StoresSteps (tells l.fn.sink) l.fn.engine → StoresSteps (tells l.sink) l.engine;
      fetched : (tells l.sink).failures ≡ (tells l.fn.sink).failures;
      device : g.N.Runner.failures l.runner ≡ g.N.Runner.failures l.fn.runner;
      stays : StaysRemembered l.fn.underway.remembered l.underway.remembered;
      knows : Remembers l.underway.remembered (tells l.sink).blobs;
      no_more : SaysNoMore (g.N.Runner.ran l.runner) (g.N.Runner.ran l.fn.runner);
      alive : g.N.Runner.alive l.runner ≡ g.N.Runner.alive l.fn.runner + length l.underway.children.items;
    }

abbrev pub decreases-loop-turn : goal.decreases-loop-turn
decreases-loop-turn g l = turns_left l.engine l.underway.children.items
