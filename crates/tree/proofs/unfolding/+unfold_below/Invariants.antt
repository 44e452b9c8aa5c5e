use Rattle.std.proofs.Common.{◌+◌, ◌-◌, ◌≤◌, length}
use Rattle.blob_source.specs.Called.{Called}
use Rattle.tree.specs.FlatTree.{flat_value}
use Rattle.tree.specs.Lookup.{names_in}
use Rattle.tree.specs.LooksAt.{UnfoldLooksAt}
use Rattle.tree.specs.Memo.{AsksNoOther}
use Rattle.tree.specs.Unfolded.{directories_in}
use Rattle.tree.specs.Unfolding.{child_values}
use Rattle.tree.proofs.UnfoldSteps.{Unfolds}
use Rattle.tree.proofs.unfolding.+unfold_below.Given as goal

abbrev pub decreases-unfold_below : goal.decreases-unfold_below
decreases-unfold_below g l = 65 - length (names_in l.above.now)

abbrev pub invariant-loop-name : goal.invariant-loop-name
invariant-loop-name g l =
    let tells = g.S.BlobSource.tells in
    record {
      next : (goal.iterator-loop-name g).can_next l.name-iterator;
      finite : (goal.iterator-loop-name g).is_finite l.name-iterator;
      called : Called (tells l.fn.source) (tells l.source) ⊥;
      only : AsksNoOther (UnfoldLooksAt (tells l.source).blobs l.digest) (tells l.fn.source) (tells l.source);
      few : (tells l.source).calls + directories_in (flat_value l.fn.entries.items) ≤ (tells l.fn.source).calls + 1 + directories_in (flat_value l.entries.items);
      unfolds : Unfolds (tells l.source).blobs l.digest (names_in l.above) (flat_value l.fn.entries.items) (flat_value l.entries.items) (child_values l.name-iterator);
    }
