-- A new memo knows nothing.
use Rattle.tree.proofs.Learning.{known_nothing}
use Rattle.test_builds.proofs.memos.asked_thrice.Goals as goal

pub asked-first-requires : goal.asked-first-requires
asked-first-requires c = known_nothing c.new-memo.ensures
