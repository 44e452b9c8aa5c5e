-- A new memo knows nothing.
use Rattle.tree.proofs.Learning.{known_nothing}
use Rattle.test_builds.proofs.calls.start.Goals as goal

pub start_over-requires : goal.start_over-requires
start_over-requires g c = known_nothing c.new-memo.ensures
