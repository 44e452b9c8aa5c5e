use Rattle.std.proofs.Common.{◌≤◌, ◌+◌, length}
use Rattle.blob_source.specs.Called.{Called}
use Rattle.tree.specs.FlatTree.{path_values}
use Rattle.worker.specs.Values.{contents_of}
use Rattle.worker.proofs.Gathering.{GoesOn}
use Rattle.worker.proofs.laying_out.gather.Given as goal

abbrev pub invariant-loop-path : goal.invariant-loop-path
invariant-loop-path g l =
    let tells = g.S.BlobSource.tells in
    record {
      called : Called (tells l.fn.source) (tells l.source) ⊥;
      goes : GoesOn (tells l.source).blobs (path_values l.fn.entries.items) l.folders.items (contents_of l.files.items) (path_values l.path-iterator.rest.items);
      few : (tells l.source).calls ≤ (tells l.fn.source).calls + length l.files.items;
    }
