use Rattle.std.proofs.Common.{◌≡◌, length, refl, subst, sym}
use Rattle.std.proofs.Math.Logic.{∥∥₁_map₂}
use Rattle.remote.specs.Folder as folders
use Rattle.remote.specs.Remote.{connection_of, telling_of}
use Rattle.commands.specs.Places.{told_by_parts}
use Rattle.commands.proofs.Placed.{asked_first}
use Rattle.commands.proofs.verifying.judge_parts.Goals as goal

pub returns-then-confirms-clause-answered : goal.returns-then-confirms-clause-answered
returns-then-confirms-clause-answered g c =
    let parts = c.answer_question-answered.new.source.source in
    let first : c.new-source.result.source.calls ≡ 0 = subst (λ s. s.calls ≡ 0) (sym c.new-source.ensures.source) c.new-parts.ensures.uncalled in
    let remote = parts.blobs.remote in (
      told_by_parts (telling_of remote) (folders.telling_of parts.results.store) parts.calls parts.failures,
      ∥∥₁_map₂ parts.blobs.over parts.results.told (λ over is. record {
        answered = telling_of remote;
        over = (connection_of g.S.Stream.flow remote, over);
        blobs = refl;
        few = parts.few;
        results = is.told.results;
      }),
      c.in-Ok.ensures.answered,
      c.confirms.ensures c.if-confirms.true,
      λ list covers. asked_first c.new-source.result.source.calls parts.calls (length list) first (c.answer_question-answered.ensures.few list covers),
    )
