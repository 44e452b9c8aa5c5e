-- In a plan of version 1 what lines resolve to is always put together, and no Directory is read for it.
use Rattle.std.proofs.Common.{◌≡◌, List, []}
use Rattle.plan.specs.declared.version.Version.TheVariants.{One}
use Rattle.plan.specs.Plan.{IsPlan}
use Rattle.plan.specs.Values.{LineValue}
use Rattle.tree.specs.Tree.{Tree}
use Rattle.tree.specs.Form.{NodeValue}
use Rattle.tree.specs.Graft.{graft}
use Rattle.tree.specs.Merging.{MergeLines, nodes_in, merged}
use Rattle.tree.proofs.MergeApart.{graft_passes, all_named, are_apart}
use Rattle.blob_source.specs.Source.{Blobs}
use Rattle.verifier.specs.Build.{AreLinesOf}
use Rattle.verifier.specs.Together.{Resolves}
use Rattle.verifier.proofs.Targets.{lines_paths, lines_apart, resolved_targets, targets_apart, targets_few}
use Rattle.runs.specs.Engine.{EngineValue}
use Rattle.runs.specs.Looking.{outcomes_in}

pub apart_merges : (B : Blobs) (e : EngineValue) → IsPlan e.plan → e.plan.version ≡ One → (ls : List LineValue) → AreLinesOf e.plan ls → (xs : MergeLines) → Resolves B e.sources (outcomes_in e.finished) ls xs → (u : Tree NodeValue) × (merged B xs).passes u
unfolding merged
apart_merges B e plan one ls of_plan xs r =
    let targets = resolved_targets B e.sources (outcomes_in e.finished) ls xs r in
    let paths = lines_paths e.plan ls plan of_plan in
    let apart = targets_apart ls xs targets paths (lines_apart e.plan ls plan one of_plan) in
    (graft (nodes_in xs), graft_passes B 64 [] xs (all_named xs apart) (are_apart xs apart) (targets_few ls xs targets paths))
