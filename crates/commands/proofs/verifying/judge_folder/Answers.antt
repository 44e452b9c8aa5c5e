use Rattle.std.proofs.Common.{◌≡◌, length, subst, sym}
use Rattle.std.proofs.Math.Logic.{∥∥₁_map}
use Rattle.remote.specs.Folder.{telling_of}
use Rattle.commands.proofs.Placed.{asked_first}
use Rattle.commands.proofs.verifying.judge_folder.Goals as goal

pub returns-then-confirms-clause-answered : goal.returns-then-confirms-clause-answered
returns-then-confirms-clause-answered g c =
    let store = c.answer_question-answered.new.source.source in
    let first : (telling_of c.new-source.result.source.store).calls ≡ 0 = subst (λ s. (telling_of s.store).calls ≡ 0) (sym c.new-source.ensures.source) c.new-store.ensures.calls in (
      telling_of store.store,
      ∥∥₁_map store.told (λ is. is.told),
      c.in-Ok.ensures.answered,
      c.confirms.ensures c.if-confirms.true,
      λ list covers. asked_first (telling_of c.new-source.result.source.store).calls (telling_of store.store).calls (length list) first (c.answer_question-answered.ensures.few list covers),
    )
