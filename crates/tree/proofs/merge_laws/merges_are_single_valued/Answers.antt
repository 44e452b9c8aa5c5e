use Rattle.std.proofs.Common.{[]}
use Rattle.tree.specs.Merging.{merged}
use Rattle.tree.specs.MergeLooks.{MergeLooksAt}
use Rattle.tree.proofs.MergeStages.{once_merged_in}
use Rattle.tree.proofs.MergeHeld.{total_merged_in}
use Rattle.tree.proofs.MergeApart.{graft_passes, looks_at_nothing, all_named, are_apart}
use Rattle.tree.proofs.merge_laws.merges_are_single_valued.Goals as goal

pub returns-clause-tree : goal.returns-clause-tree
unfolding merged
returns-clause-tree c = λ blobs lines t u h k. (once_merged_in blobs 64 [] lines).value t u h k

pub returns-clause-faults : goal.returns-clause-faults
unfolding merged
returns-clause-faults c = λ blobs lines f g h k. (once_merged_in blobs 64 [] lines).why f g h k

pub returns-clause-excluded : goal.returns-clause-excluded
unfolding merged
returns-clause-excluded c = λ blobs lines t f h k. (once_merged_in blobs 64 [] lines).either t f h k

pub returns-clause-always : goal.returns-clause-always
unfolding merged
returns-clause-always c = λ blobs lines held none fine. (total_merged_in blobs 64 [] lines held).ends none fine

pub returns-clause-grafts : goal.returns-clause-grafts
unfolding merged
returns-clause-grafts c = λ blobs lines apart few. graft_passes blobs 64 [] lines (all_named lines apart) (are_apart lines apart) few

pub returns-clause-nothing : goal.returns-clause-nothing
unfolding MergeLooksAt
returns-clause-nothing c = λ blobs lines apart a h. looks_at_nothing blobs 64 [] lines (are_apart lines apart) a h
