use Rattle.std.proofs.Common.{◌≡◌, inl, length, refl, string_bytes, subst, sym}
use Rattle.std.proofs.Math.Logic.{∥∥₁_map}
use Rattle.remote.specs.Remote.{connection_of, telling_of}
use Rattle.commands.specs.Faults.{OrMemory}
use Rattle.commands.specs.Places.{FailsOver, gets_alone}
use Rattle.commands.proofs.Exits.{exit_by}
use Rattle.commands.proofs.Placed.{asked_first}
use Rattle.commands.proofs.verifying.judge_over.Goals as goal

pub returns-in-Ok-clause-answered : goal.returns-in-Ok-clause-answered
returns-in-Ok-clause-answered g c =
    let client = c.answer_question-answered.new.source.source in
    let made : (telling_of c.new-client.result.remote).calls ≡ 0 = subst (λ r. (telling_of r).calls ≡ 0) (sym c.new-client.ensures.remote) c.requires.fresh.calls in
    let first : (telling_of c.new-source.result.source.remote).calls ≡ 0 = subst (λ s. (telling_of s.remote).calls ≡ 0) (sym c.new-source.ensures.source) made in (
      telling_of client.remote,
      ∥∥₁_map client.over (λ over. (connection_of g.S.Stream.flow client.remote, over)),
      c.in-Ok.ensures.answered,
      c.in_ok-confirm_lack-in-Ok.ensures.lacked,
      λ list covers. asked_first (telling_of c.new-source.result.source.remote).calls (telling_of client.remote).calls (length list) first (c.answer_question-answered.ensures.few list covers),
    )

-- memory ran out
pub returns-in_err-error-in-Err-Fetch-clause-fault : goal.returns-in_err-error-in-Err-Fetch-clause-fault
returns-in_err-error-in-Err-Fetch-clause-fault g c =
    exit_by (OrMemory (λ e. ∥ FailsOver gets_alone g.K.Opened.start (string_bytes c.args.server.now.address) e ∥₁)) _ c.from_residual-in_err-error-in-Err-Fetch.ensures.1 (inl refl)

pub returns : goal.returns
returns g c = record { answered = tt; fault = inl refl }
