use Rattle.tree.proofs.MergeLaws.{merge_once, graft_merges}
use Rattle.tree.proofs.MergeTotal.{tells_merge}
use Rattle.tree.proofs.merge_laws.merges_are_unions.Goals as goal

pub returns-clause-one : goal.returns-clause-one
returns-clause-one c = merge_once

pub returns-clause-grafts : goal.returns-clause-grafts
returns-clause-grafts c = graft_merges

pub returns-clause-decided : goal.returns-clause-decided
returns-clause-decided c = tells_merge
