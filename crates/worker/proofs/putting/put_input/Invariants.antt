use Rattle.std.proofs.Common.{◌≡◌, ◌≤◌, ◌+◌, ◌∷◌, take}
use Rattle.blob_digest.specs.Digest.{digest_of}
use Rattle.action_messages.specs.Action.{action_bytes}
use Rattle.blob_source.specs.Sink.{HasRight}
use Rattle.worker.specs.Stored.{IsKept, PutsNoOther}
use Rattle.worker.specs.Storing.{HasPutAll, StaysPut, WerePut, not_put}
use Rattle.worker.specs.Outcomes.{HasAllRight}
use Rattle.tree.specs.Folded.{items_of}
use Rattle.worker.proofs.putting.put_input.Given as goal

abbrev pub invariant-loop-directory : goal.invariant-loop-directory
invariant-loop-directory g l =
    let tells = g.S.BlobSource.tells in
    record {
      put : WerePut l.put (tells l.sink).blobs;
      kept : IsKept (tells l.fn.sink) (tells l.sink);
      only : PutsNoOther (action_bytes l.job.action ∷ items_of l.job.input.directories.items) (tells l.fn.sink).blobs (tells l.sink).blobs;
      fetched : (tells l.sink).failures ≡ (tells l.fn.sink).failures;
      held : HasRight (tells l.sink).blobs (digest_of (action_bytes l.job.action));
      stays : StaysPut l.fn.put l.put;
      listed : HasPutAll l.put (items_of (take l.directory-index l.job.input.directories.items));
      once : (tells l.sink).calls ≤ (tells l.fn.sink).calls + 1 + not_put l.fn.put (items_of (take l.directory-index l.job.input.directories.items));
      input : HasAllRight (tells l.sink).blobs (items_of (take l.directory-index l.job.input.directories.items));
    }
