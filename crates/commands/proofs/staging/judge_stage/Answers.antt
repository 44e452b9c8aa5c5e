use Rattle.std.proofs.Common.{◌∙◌, subst}
use Rattle.commands.specs.Printed.{JudgesAsked}
use Rattle.commands.specs.Refusal.{FailsToJudge}
use Rattle.commands.specs.Stages.{stage_options}
use Rattle.commands.proofs.Asked.{same_options}
use Rattle.commands.proofs.Exits.{exit_by}
use Rattle.commands.proofs.staging.judge_stage.Goals as goal

pub returns-clause-judged : goal.returns-clause-judged
returns-clause-judged g c =
    let sees = g.W.World.sees c.args.world.now in
    subst (λ rows. JudgesAsked sees rows c.in_ok-answer.answer.verdict)
    (c.in_ok-options.ensures ∙ same_options (g.M.Options.rows c.args.said.now) c.args.evidence.now _ _ _ _ _ _ (c.as_str.ensures.value ∙ c.in_ok-folder.ensures) c.in_ok-sources.ensures c.in_ok-claim.ensures)
    c.in_ok-answer.ensures.judged.judges

pub returns-in_err-answer-clause-fault : goal.returns-in_err-answer-clause-fault
returns-in_err-answer-clause-fault g c =
    let sees = g.W.World.sees c.args.world.now in
    exit_by (FailsToJudge sees (stage_options (g.M.Options.rows c.args.said.now) c.args.evidence.now c.args.stage c.args.digests.now.sources c.args.digests.now.claim)) _ c.from_residual-in_err-answer.ensures.1
    (subst (λ rows. FailsToJudge sees rows c.in_err-answer.field-0.0)
    (c.in_ok-options.ensures ∙ same_options (g.M.Options.rows c.args.said.now) c.args.evidence.now _ _ _ _ _ _ (c.as_str.ensures.value ∙ c.in_ok-folder.ensures) c.in_ok-sources.ensures c.in_ok-claim.ensures)
    c.in_err-answer.ensures.refused)
