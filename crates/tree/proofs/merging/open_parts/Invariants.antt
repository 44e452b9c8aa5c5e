use Rattle.blob_source.specs.Called.{Called}
use Rattle.tree.specs.Memo.{Learns, known_by}
use Rattle.tree.specs.Merging.{AreHeld}
use Rattle.tree.specs.MergeLooks.{OpenedLooksAt}
use Rattle.tree.specs.MergeParts.{part_values, within_of}
use Rattle.tree.proofs.MergeSteps.{OpensOn}
use Rattle.tree.proofs.MergeLooking.{OpensLooking}
use Rattle.tree.proofs.merging.open_parts.Given as goal

abbrev pub invariant-loop-part : goal.invariant-loop-part
invariant-loop-part g l =
    let tells = g.S.BlobSource.tells in
    let W = within_of l.fn.lines in
    record {
      called : Called (tells l.fn.source) (tells l.source) ⊥;
      opens : OpensOn (tells l.source).blobs (part_values W l.below.items) (part_values W l.part-iterator.rest.items) (part_values W l.fn.parts.items);
      looking : OpensLooking (tells l.source).blobs (part_values W l.part-iterator.rest.items) (part_values W l.fn.parts.items);
      held : AreHeld (part_values W l.part-iterator.rest.items);
      learned : Learns (OpenedLooksAt (tells l.source).blobs (part_values W l.fn.parts.items)) ⊥ (known_by l.fn.memo) (known_by l.memo) (tells l.fn.source) (tells l.source);
    }
