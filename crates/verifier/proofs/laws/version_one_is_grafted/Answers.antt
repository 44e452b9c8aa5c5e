use Rattle.std.proofs.Common.{[]}
use Rattle.tree.specs.Merging.{merged}
use Rattle.tree.specs.MergeLooks.{MergeLooksAt}
use Rattle.tree.proofs.MergeApart.{graft_passes, looks_at_nothing, all_named, are_apart}
use Rattle.verifier.proofs.Targets.{apart_grafted, lines_apart, lines_paths, resolved_targets, targets_apart, targets_few}
use Rattle.verifier.proofs.laws.version_one_is_grafted.Goals as goal

pub returns-clause-nodes : goal.returns-clause-nodes
unfolding merged
returns-clause-nodes c = λ blobs sources outcomes plan lines nodes valid one of resolved.
    let paths = lines_paths plan lines valid of in
    let targets = resolved_targets blobs sources outcomes lines nodes resolved in
    let apart = targets_apart lines nodes targets paths (lines_apart plan lines valid one of) in
    graft_passes blobs 64 [] nodes (all_named nodes apart) (are_apart nodes apart) (targets_few lines nodes targets paths)

pub returns-clause-nothing : goal.returns-clause-nothing
unfolding MergeLooksAt
returns-clause-nothing c = λ blobs sources outcomes plan lines nodes valid one of resolved a h.
    let paths = lines_paths plan lines valid of in
    let targets = resolved_targets blobs sources outcomes lines nodes resolved in
    let apart = targets_apart lines nodes targets paths (lines_apart plan lines valid one of) in
    looks_at_nothing blobs 64 [] nodes (are_apart nodes apart) a h

pub returns-clause-trees : goal.returns-clause-trees
returns-clause-trees c = λ plan lines t s valid one of ordered outcomes.
    apart_grafted t s ordered outcomes lines (lines_paths plan lines valid of) (lines_apart plan lines valid one of)
