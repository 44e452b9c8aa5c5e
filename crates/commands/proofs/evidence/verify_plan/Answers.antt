use Rattle.std.proofs.Common.{codes, string_bytes, subst, sym}
use Rattle.std.proofs.lemmas.Result.{IfOk-weaker}
use Rattle.std.specs.Prelude.{option_map}
use Rattle.clap.specs.Words.{first_of}
use Rattle.commands.specs.FolderRead.{IsArtifact, value_of_read}
use Rattle.commands.specs.Evidence.{FailsStated, options_in}
use Rattle.commands.specs.Refusal.{FailsToJudge}
use Rattle.commands.specs.Verified.{AnswersClaim, FailsInside}
use Rattle.commands.specs.Verified.FailsInside.{in_digests, in_memory, in_plans}
use Rattle.commands.specs.Verified.OnPlans.{of_one}
use Rattle.commands.proofs.Asked.{ok_stated, stated}
use Rattle.commands.proofs.Exits.{err_weaker, exit_by}
use Rattle.commands.proofs.OfFolder.{claim_stated}
use Rattle.commands.proofs.Refused.{or_memory}
use Rattle.commands.proofs.evidence.verify_plan.Goals as goal

pub returns-in_err-stated-clause-refused : goal.returns-in_err-stated-clause-refused
returns-in_err-stated-clause-refused g c =
    let outside = g.V.World.sees c.args.outside.now in
    let sees = g.W.World.sees c.args.world.now in
    let rows = g.M.Options.rows c.args.said.now in
    exit_by (FailsInside outside sees rows c.args.evidence.now) _ c.from_residual.ensures.1
    (or_memory (FailsStated outside sees rows c.args.evidence.now) (FailsInside outside sees rows c.args.evidence.now) _ in_memory (in_digests c.requires) c.in_err-stated.ensures.fault)

pub returns-clause-answered : goal.returns-clause-answered
returns-clause-answered g c =
    let outside = g.V.World.sees c.args.outside.now in
    let sees = g.W.World.sees c.args.world.now in
    let made = options_in (g.M.Options.rows c.in_ok-stated.stated.options.said.now) c.in_ok-stated.stated.options in
    ok_stated outside sees (g.M.Options.rows c.args.said.now) c.args.evidence.now made (λ j o. AnswersClaim outside (g.M.Options.rows c.args.said.now) sees o (string_bytes j.line) j.ended)
    c.verify_asked.result c.in_ok-stated.ensures.stated
    (IfOk-weaker c.verify_asked.result _ _ (λ j h. record {
      read = option_map value_of_read c.in_ok-stated.stated.folder;
      is_read = subst (λ t. IsArtifact (first_of (codes "artifact") (g.M.Options.rows c.args.said.now)) outside (g.M.Options.rows c.args.said.now) t (option_map value_of_read c.in_ok-stated.stated.folder))
          (sym (claim_stated (g.M.Options.rows c.in_ok-stated.stated.options.said.now) c.in_ok-stated.stated.options)) c.in_ok-stated.ensures.folder;
      on = h;
    }) c.verify_asked.ensures.answered)

pub returns-clause-refused : goal.returns-clause-refused
returns-clause-refused g c =
    let outside = g.V.World.sees c.args.outside.now in
    let sees = g.W.World.sees c.args.world.now in
    let rows = g.M.Options.rows c.args.said.now in
    let made = options_in (g.M.Options.rows c.in_ok-stated.stated.options.said.now) c.in_ok-stated.stated.options in
    err_weaker c.verify_asked.result (FailsToJudge sees made) (FailsInside outside sees rows c.args.evidence.now)
    (λ e fails. in_plans (of_one c.requires (stated outside sees rows c.args.evidence.now made (λ o. FailsToJudge sees o e) c.in_ok-stated.ensures.stated fails))) c.verify_asked.ensures.refused
