-- A new memo knows nothing.
use Rattle.tree.proofs.Learning.{known_nothing}
use Rattle.test_builds.proofs.calls.root.Goals as goal

pub root_over-requires : goal.root_over-requires
root_over-requires g c = known_nothing c.new-memo.ensures
