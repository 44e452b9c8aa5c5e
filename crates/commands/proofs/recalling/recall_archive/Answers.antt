use Rattle.std.proofs.Common.{ap, inl, inr}
use Rattle.std.proofs.lemmas.Result.{IfOk-weaker}
use Rattle.archive.specs.Archive.{files_of}
use Rattle.commands.specs.Compared.{FailsRecall, RecallsInside}
use Rattle.commands.proofs.Asked.{in_archive}
use Rattle.commands.proofs.Exits.{err_weaker}
use Rattle.commands.proofs.recalling.recall_archive.Goals as goal

pub returns-clause-recalled : goal.returns-clause-recalled
returns-clause-recalled g c =
    let sees = g.W.World.sees c.args.world.now in
    let evidence = c.args.evidence.now in
    let files = files_of c.in_ok-read_archive.field-0 in
    IfOk-weaker c.recall_inside.result _ _
    (λ r h. in_archive sees evidence c.args.folder.now (g.B.Blocks.contents c.args.file.now) _ files (λ s. RecallsInside s evidence r)
    c.requires.folder (ap g.B.Blocks.contents c.in_ok-read_archive.ensures.file) c.requires.lead (record { opened = c.requires.opened; is = c.in_ok-read_archive.ensures.found }) h) c.recall_inside.ensures.recalled

pub returns-clause-refused : goal.returns-clause-refused
returns-clause-refused g c =
    let sees = g.W.World.sees c.args.world.now in
    let evidence = c.args.evidence.now in
    let files = files_of c.in_ok-read_archive.field-0 in
    err_weaker c.recall_inside.result _ _
    (λ e h. inr (inr (in_archive sees evidence c.args.folder.now (g.B.Blocks.contents c.args.file.now) _ files (λ s. FailsRecall s evidence e)
    c.requires.folder (ap g.B.Blocks.contents c.in_ok-read_archive.ensures.file) c.requires.lead (record { opened = c.requires.opened; is = c.in_ok-read_archive.ensures.found }) h))) c.recall_inside.ensures.refused
