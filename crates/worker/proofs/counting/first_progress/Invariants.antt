use Rattle.std.proofs.Common.{◌≡◌, ◌≤◌, take}
use Rattle.worker.specs.Watching.{finished_count}
use Rattle.worker.proofs.counting.first_progress.Given as goal

abbrev pub invariant-loop-step : goal.invariant-loop-step
invariant-loop-step g l =
    record {
      counted : l.finished ≡ finished_count (take l.step l.engine.finished);
      few : l.finished ≤ l.step;
    }
