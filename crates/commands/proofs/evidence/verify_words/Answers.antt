use Rattle.std.proofs.Common.{◌≡◌, ◌∙◌, ap, codes, inr, string_bytes, subst, sym, None, Some}
use Rattle.std.specs.Prelude.{option_map}
use Rattle.clap.specs.Words.{first_of, found_of, rows_of}
use Rattle.commands.specs.Verified.{FailsFor, FailsToAnswer, KeepsEvidence}
use Rattle.commands.proofs.Asked.{ok_kept, ok_of_none}
use Rattle.commands.proofs.Exits.{err_weaker}
use Rattle.commands.proofs.Refused.{or_weaker}
use Rattle.commands.proofs.evidence.verify_words.Goals as goal

pub returns-in-Some-clause-answered : goal.returns-in-Some-clause-answered
returns-in-Some-clause-answered g c =
    let sees = g.W.World.sees c.args.world.now in
    let rows = rows_of (found_of c.args.matches.now) in
    let is : first_of (codes "keep") rows ≡ Some c.in-Some.path.now = sym c.option_of.ensures ∙ ap (option_map (λ s. s.now)) c.in-Some.is in
    ok_kept sees rows (Some c.in-Some.path.now) c.verify_and_keep.result is c.requires.valid c.verify_and_keep.ensures.answered c.verify_and_keep.ensures.kept

pub returns-in-Some-clause-refused : goal.returns-in-Some-clause-refused
returns-in-Some-clause-refused g c =
    let sees = g.W.World.sees c.args.world.now in
    let rows = rows_of (found_of c.args.matches.now) in
    let is : first_of (codes "keep") rows ≡ Some c.in-Some.path.now = sym c.option_of.ensures ∙ ap (option_map (λ s. s.now)) c.in-Some.is in
    err_weaker c.verify_and_keep.result _ _ (λ e h. inr (subst (λ o. FailsFor o sees rows e) (sym is) h)) c.verify_and_keep.ensures.refused

pub returns-in-None-clause-answered : goal.returns-in-None-clause-answered
returns-in-None-clause-answered g c =
    let sees = g.W.World.sees c.args.world.now in
    let rows = rows_of (found_of c.args.matches.now) in
    let is : first_of (codes "keep") rows ≡ None = sym c.option_of.ensures ∙ ap (option_map (λ s. s.now)) c.in-None.is in
    ok_kept sees rows None c.verify_said.result is c.requires.valid c.verify_said.ensures.answered (ok_of_none c.verify_said.result (λ j. KeepsEvidence sees (string_bytes j.line)))

pub returns-in-None-clause-refused : goal.returns-in-None-clause-refused
returns-in-None-clause-refused g c =
    let sees = g.W.World.sees c.args.world.now in
    let rows = rows_of (found_of c.args.matches.now) in
    let is : first_of (codes "keep") rows ≡ None = sym c.option_of.ensures ∙ ap (option_map (λ s. s.now)) c.in-None.is in
    err_weaker c.verify_said.result _ _ (λ e h. or_weaker (FailsToAnswer sees rows) (FailsFor (first_of (codes "keep") rows) sees rows) e (subst (λ o. FailsFor o sees rows e) (sym is)) h) c.verify_said.ensures.refused
