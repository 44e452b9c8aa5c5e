use Rattle.std.proofs.Common.{◌≡◌, ◌+◌, ◌≤◌, length, take}
use Rattle.std.specs.List.{AllByRecursion}
use Rattle.actions.specs.Outcome.{outputs_in}
use Rattle.worker.specs.Stored.{IsKept, PutsNoOther}
use Rattle.worker.specs.Outcomes.{HasTree, tree_blobs}
use Rattle.worker.proofs.putting.put_trees.Given as goal

abbrev pub invariant-loop-output : goal.invariant-loop-output
invariant-loop-output g l =
    let tells = g.S.BlobSource.tells in
    record {
      kept : IsKept (tells l.fn.sink) (tells l.sink);
      once : (tells l.sink).calls ≤ (tells l.fn.sink).calls + length (tree_blobs (outputs_in (take l.output-index l.output-items)));
      only : PutsNoOther (tree_blobs l.outcome.outputs) (tells l.fn.sink).blobs (tells l.sink).blobs;
      fetched : (tells l.sink).failures ≡ (tells l.fn.sink).failures;
      held : AllByRecursion (HasTree (tells l.sink).blobs) (outputs_in (take l.output-index l.output-items));
    }
