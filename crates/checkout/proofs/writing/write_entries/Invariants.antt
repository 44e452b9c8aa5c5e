use Rattle.blob_source.specs.Called.{Called}
use Rattle.tree.specs.FlatTree.{path_values}
use Rattle.checkout.specs.Folder.{Tries}
use Rattle.checkout.proofs.Entries.{SoFar}
use Rattle.checkout.proofs.writing.write_entries.Given as goal

abbrev pub invariant-loop-below : goal.invariant-loop-below
invariant-loop-below g l =
    let tells = g.S.BlobSource.tells in
    record {
      called : Called (tells l.fn.source) (tells l.source) ⊥;
      so_far : SoFar g.W.FolderWriter.has (Tries g.W.FolderWriter.tried l.fn.writer l.writer) (tells l.fn.source) (tells l.source) l.fn.folder l.folder l.path (path_values l.fn.entries.items) (path_values l.below-iterator.rest.items);
    }
