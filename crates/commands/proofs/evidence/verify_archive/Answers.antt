use Rattle.std.proofs.Common.{ap, inr, string_bytes}
use Rattle.std.proofs.lemmas.Result.{IfOk-weaker}
use Rattle.archive.specs.Archive.{files_of}
use Rattle.commands.specs.Stages.{AnswersStages}
use Rattle.commands.specs.Verified.{AnswersClaim, FailsInside, OnPlans}
use Rattle.commands.proofs.Asked.{in_archive}
use Rattle.commands.proofs.Exits.{err_weaker}
use Rattle.commands.proofs.evidence.verify_archive.Goals as goal

pub returns-clause-answered : goal.returns-clause-answered
returns-clause-answered g c =
    let sees = g.W.World.sees c.args.world.now in
    let evidence = c.args.evidence.now in
    let rows = g.M.Options.rows c.args.said.now in
    let files = files_of c.in_ok-read_archive.field-0 in
    IfOk-weaker c.verify_stated.result _ _
    (λ j h. in_archive sees evidence c.args.folder.now (g.B.Blocks.contents c.args.file.now) _ files
    (λ s. OnPlans sees s rows evidence (λ o. AnswersClaim sees rows s o (string_bytes j.line) j.ended)
    (λ a. AnswersStages s a (string_bytes j.line) j.ended))
    c.requires.folder (ap g.B.Blocks.contents c.in_ok-read_archive.ensures.file) c.requires.lead (record { opened = c.requires.opened; is = c.in_ok-read_archive.ensures.found }) h) c.verify_stated.ensures.answered

pub returns-clause-refused : goal.returns-clause-refused
returns-clause-refused g c =
    let sees = g.W.World.sees c.args.world.now in
    let evidence = c.args.evidence.now in
    let rows = g.M.Options.rows c.args.said.now in
    let files = files_of c.in_ok-read_archive.field-0 in
    err_weaker c.verify_stated.result _ _
    (λ e h. inr (inr (in_archive sees evidence c.args.folder.now (g.B.Blocks.contents c.args.file.now) _ files (λ s. FailsInside sees s rows evidence e)
    c.requires.folder (ap g.B.Blocks.contents c.in_ok-read_archive.ensures.file) c.requires.lead (record { opened = c.requires.opened; is = c.in_ok-read_archive.ensures.found }) h))) c.verify_stated.ensures.refused
