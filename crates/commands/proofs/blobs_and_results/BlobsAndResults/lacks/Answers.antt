use Rattle.std.proofs.Common.{subst, sym}
use Rattle.commands.specs.Places.{LacksInFolder, LacksOfParts}
use Rattle.commands.proofs.blobs_and_results.BlobsAndResults.lacks.Goals as goal

-- of a result the folder says it
pub returns : goal.returns
returns g c lacking =
    let sees = g.F.FolderMark.sees in
    let folder = g.F.FolderMark.folder in
    subst (λ l. ∥ LacksOfParts g.K.Opened.start sees folder l ∥₁) (sym c.in-ActionResult.is)
    (subst (λ l. ∥ LacksInFolder sees folder l ∥₁) c.in-ActionResult.is (c.lacks.ensures lacking))
