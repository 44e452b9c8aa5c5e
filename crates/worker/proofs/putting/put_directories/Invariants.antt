use Rattle.std.proofs.Common.{◌≡◌, ◌∷◌, ◌+◌, ◌≤◌, length, take}
use Rattle.std.specs.Prelude.{map}
use Rattle.messages.specs.Directory.{directory_bytes}
use Rattle.worker.specs.Stored.{IsKept, PutsNoOther}
use Rattle.worker.specs.Outcomes.{HasAllRight, directories_of}
use Rattle.worker.proofs.putting.put_directories.Given as goal

abbrev pub invariant-loop-child : goal.invariant-loop-child
invariant-loop-child g l =
    let tells = g.S.BlobSource.tells in
    record {
      kept : IsKept (tells l.fn.sink) (tells l.sink);
      only : PutsNoOther (directories_of l.tree) (tells l.fn.sink).blobs (tells l.sink).blobs;
      once : (tells l.sink).calls ≤ (tells l.fn.sink).calls + 1 + l.child-index;
      within : l.child-index ≤ length l.child-items;
      fetched : (tells l.sink).failures ≡ (tells l.fn.sink).failures;
      held : HasAllRight (tells l.sink).blobs (directory_bytes l.tree.root ∷ map directory_bytes (take l.child-index l.child-items));
    }
