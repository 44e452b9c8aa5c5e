use Rattle.std.proofs.Common.{◌≡◌, ◌∙◌, ap, codes, inr, string_bytes, subst, sym, None, Some}
use Rattle.std.specs.Prelude.{option_map}
use Rattle.std.proofs.lemmas.Result.{IfOk-weaker}
use Rattle.clap.specs.Words.{first_of}
use Rattle.commands.specs.Verified.{AnswersNamed, FailsNamed}
use Rattle.commands.specs.Faults.{OrMemory}
use Rattle.commands.proofs.Exits.{err_weaker}
use Rattle.commands.proofs.evidence.verify_said.Goals as goal

pub returns-in-Some-clause-answered : goal.returns-in-Some-clause-answered
returns-in-Some-clause-answered g c =
    let sees = g.W.World.sees c.args.world.now in
    let rows = g.M.Options.rows c.args.said.now in
    let is : first_of (codes "evidence") rows ≡ Some c.in-Some.evidence.now = sym c.text.ensures ∙ ap (option_map (λ s. s.now)) c.in-Some.is in
    IfOk-weaker c.verify_evidence.result _ _ (λ j h. subst (λ o. AnswersNamed o sees rows (string_bytes j.line) j.ended) (sym is) h) c.verify_evidence.ensures.answered

pub returns-in-Some-clause-refused : goal.returns-in-Some-clause-refused
returns-in-Some-clause-refused g c =
    let sees = g.W.World.sees c.args.world.now in
    let rows = g.M.Options.rows c.args.said.now in
    let is : first_of (codes "evidence") rows ≡ Some c.in-Some.evidence.now = sym c.text.ensures ∙ ap (option_map (λ s. s.now)) c.in-Some.is in
    err_weaker c.verify_evidence.result _ _ (λ e h. subst (λ o. OrMemory (FailsNamed o sees rows) e) (sym is) h) c.verify_evidence.ensures.refused

pub returns-in-None-clause-answered : goal.returns-in-None-clause-answered
returns-in-None-clause-answered g c =
    let sees = g.W.World.sees c.args.world.now in
    let rows = g.M.Options.rows c.args.said.now in
    let is : first_of (codes "evidence") rows ≡ None = sym c.text.ensures ∙ ap (option_map (λ s. s.now)) c.in-None.is in
    IfOk-weaker c.verify_options.result _ _ (λ j h. subst (λ o. AnswersNamed o sees rows (string_bytes j.line) j.ended) (sym is) h) c.verify_options.ensures.answered

pub returns-in-None-clause-refused : goal.returns-in-None-clause-refused
returns-in-None-clause-refused g c =
    let sees = g.W.World.sees c.args.world.now in
    let rows = g.M.Options.rows c.args.said.now in
    let is : first_of (codes "evidence") rows ≡ None = sym c.text.ensures ∙ ap (option_map (λ s. s.now)) c.in-None.is in
    err_weaker c.verify_options.result _ _ (λ e h. inr (subst (λ o. FailsNamed o sees rows e) (sym is) h)) c.verify_options.ensures.refused
