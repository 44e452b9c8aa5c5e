use Rattle.std.proofs.Common.{◌-◌, ◌*◌, ◌+◌}
use Rattle.blob_source.specs.Called.{Called}
use Rattle.tree.specs.Lookup.{names_in}
use Rattle.tree.specs.Memo.{Learns, known_by}
use Rattle.tree.specs.Merging.{grouped}
use Rattle.tree.specs.MergeLooks.{MergeLooksIn}
use Rattle.tree.specs.MergeParts.{part_values, group_values, within_of}
use Rattle.tree.specs.Visiting.{children_directory, tops_in}
use Rattle.tree.proofs.MergeSteps.{MergesOn}
use Rattle.tree.proofs.MergeLooking.{LooksOn}
use Rattle.tree.proofs.MergeBelow.{at_name, look_name, GroupsHeld}
use Rattle.tree.proofs.merging.+merge_below.Given as goal

abbrev pub decreases-meet : goal.decreases-meet
decreases-meet g l = 2 * l.deeper + 1

abbrev pub decreases-merge_below : goal.decreases-merge_below
decreases-merge_below g l = 2 * l.deeper

abbrev pub invariant-merge_below-loop-name : goal.invariant-merge_below-loop-name
invariant-merge_below-loop-name g l =
    let tells = g.S.BlobSource.tells in
    let W = within_of l.lines in
    let path = names_in l.above in
    let all = grouped (part_values W l.fn.parts.items) in
    let rest = group_values W l.name-iterator in
    record {
      next : (goal.iterator-merge_below-loop-name g).can_next l.name-iterator;
      finite : (goal.iterator-merge_below-loop-name g).is_finite l.name-iterator;
      called : Called (tells l.fn.source) (tells l.source) ⊥;
      merges : MergesOn (at_name (l.deeper - 1) path) (tells l.source).blobs (children_directory l.children) (tops_in l.children) rest all;
      looking : LooksOn (at_name (l.deeper - 1) path) (look_name (l.deeper - 1) path) (tells l.source).blobs rest all;
      held : GroupsHeld rest;
      learned : Learns (MergeLooksIn (tells l.source).blobs l.deeper path (part_values W l.fn.parts.items)) ⊥ (known_by l.fn.memo) (known_by l.memo) (tells l.fn.source) (tells l.source);
    }
