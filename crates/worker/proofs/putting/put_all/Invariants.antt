use Rattle.std.proofs.Common.{◌≡◌, ◌+◌, ◌≤◌, length, take}
use Rattle.worker.specs.Stored.{IsKept, PutsNoOther}
use Rattle.worker.specs.Outcomes.{HasAllRight}
use Rattle.tree.specs.Folded.{items_of}
use Rattle.worker.proofs.putting.put_all.Given as goal

abbrev pub invariant-loop-blob : goal.invariant-loop-blob
invariant-loop-blob g l =
    let tells = g.S.BlobSource.tells in
    record {
      kept : IsKept (tells l.fn.sink) (tells l.sink);
      fetched : (tells l.sink).failures ≡ (tells l.fn.sink).failures;
      held : HasAllRight (tells l.sink).blobs (items_of (take l.blob-index l.blobs));
      only : PutsNoOther (items_of l.blobs) (tells l.fn.sink).blobs (tells l.sink).blobs;
      once : (tells l.sink).calls ≤ (tells l.fn.sink).calls + l.blob-index;
      within : l.blob-index ≤ length l.blobs;
    }
