use Rattle.std.proofs.lemmas.Result.{IfOk-weaker}
use Rattle.tree.proofs.Learning.{known_nothing}
use Rattle.test_messages.proofs.merges.merged.Goals as goal

pub merge-requires-clause-known : goal.merge-requires-clause-known
merge-requires-clause-known g c = known_nothing c.new-memo.ensures

pub returns : goal.returns
returns g c = IfOk-weaker c.merge.result _ _ (λ f h. (h.0, h.2)) c.merge.ensures.merged
