use Rattle.std.proofs.Common.{subst, sym}
use Rattle.std.proofs.Math.Logic.{∥∥₁_map}
use Rattle.commands.specs.Places.{LacksInFolder}
use Rattle.commands.proofs.folder_store.FolderStore.lacks.Goals as goal

pub returns-in-Blob : goal.returns-in-Blob
returns-in-Blob g c lacking =
    subst (λ l. ∥ LacksInFolder g.K.FolderMark.sees g.K.FolderMark.folder l ∥₁) (sym c.in-Blob.is)
    (∥∥₁_map c.args.self.now.told (λ is. is.lacked.blobs c.in-Blob.digest (c.lacks_blob.ensures.0 lacking)))

pub returns-in-ActionResult : goal.returns-in-ActionResult
returns-in-ActionResult g c lacking =
    subst (λ l. ∥ LacksInFolder g.K.FolderMark.sees g.K.FolderMark.folder l ∥₁) (sym c.in-ActionResult.is)
    (∥∥₁_map c.args.self.now.told (λ is. is.lacked.results c.in-ActionResult.digest (c.lacks_result.ensures.0 lacking)))
