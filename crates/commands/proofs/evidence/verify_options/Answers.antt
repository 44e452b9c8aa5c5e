use Rattle.std.proofs.Common.{◌≡◌, ◌∙◌, ap, codes, refl, string_bytes, subst, sym, None, Some}
use Rattle.std.specs.Prelude.{option_map}
use Rattle.std.proofs.lemmas.Result.{IfOk-weaker}
use Rattle.clap.specs.Words.{first_of}
use Rattle.command_lines.specs.CommandLine.{option_text}
use Rattle.commands.specs.FolderRead.{IsArtifact}
use Rattle.commands.specs.Stages.{AnswersStages}
use Rattle.commands.specs.Verified.{AnswersClaim}
use Rattle.commands.proofs.Asked.{fails_claim, on_claim}
use Rattle.commands.proofs.Exits.{err_weaker}
use Rattle.commands.proofs.evidence.verify_options.Goals as goal

pub returns-in-Some-clause-answered : goal.returns-in-Some-clause-answered
returns-in-Some-clause-answered g c =
    let sees = g.W.World.sees c.args.world.now in
    let rows = g.M.Options.rows c.args.said.now in
    let is : first_of (codes "artifact") rows ≡ Some c.in-Some.folder.now = sym c.text.ensures ∙ ap (option_map (λ s. s.now)) c.in-Some.is in
    IfOk-weaker c.verify_folder.result _ _
    (λ j h. on_claim sees rows (Some c.in-Some.folder.now) is (λ s o. AnswersClaim sees rows s o (string_bytes j.line) j.ended) (λ s a. AnswersStages s a (string_bytes j.line) j.ended) h) c.verify_folder.ensures.answered

pub returns-in-Some-clause-refused : goal.returns-in-Some-clause-refused
returns-in-Some-clause-refused g c =
    let sees = g.W.World.sees c.args.world.now in
    let rows = g.M.Options.rows c.args.said.now in
    let is : first_of (codes "artifact") rows ≡ Some c.in-Some.folder.now = sym c.text.ensures ∙ ap (option_map (λ s. s.now)) c.in-Some.is in
    err_weaker c.verify_folder.result _ _ (λ e h. fails_claim sees rows (Some c.in-Some.folder.now) is e h) c.verify_folder.ensures.refused

pub returns-in-None-clause-answered : goal.returns-in-None-clause-answered
returns-in-None-clause-answered g c =
    let sees = g.W.World.sees c.args.world.now in
    let rows = g.M.Options.rows c.args.said.now in
    let is : first_of (codes "artifact") rows ≡ None = sym c.text.ensures ∙ ap (option_map (λ s. s.now)) c.in-None.is in
    IfOk-weaker c.verify_asked.result _ _
    (λ j h. on_claim sees rows None is (λ s o. AnswersClaim sees rows s o (string_bytes j.line) j.ended) (λ s a. AnswersStages s a (string_bytes j.line) j.ended)
    (record { read = None; is_read = subst (λ p. IsArtifact p sees rows (option_text rows (codes "claim")) None) (sym is) refl; on = h })) c.verify_asked.ensures.answered

pub returns-in-None-clause-refused : goal.returns-in-None-clause-refused
returns-in-None-clause-refused g c =
    let sees = g.W.World.sees c.args.world.now in
    let rows = g.M.Options.rows c.args.said.now in
    let is : first_of (codes "artifact") rows ≡ None = sym c.text.ensures ∙ ap (option_map (λ s. s.now)) c.in-None.is in
    err_weaker c.verify_asked.result _ _ (λ e h. fails_claim sees rows None is e h) c.verify_asked.ensures.refused

pub verify_folder-requires : goal.verify_folder-requires
verify_folder-requires g c = sym c.text.ensures ∙ ap (option_map (λ s. s.now)) c.in-Some.is
