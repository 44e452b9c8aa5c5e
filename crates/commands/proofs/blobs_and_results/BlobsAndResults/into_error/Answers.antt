use Rattle.std.proofs.Common.{inl, inr, string_bytes, subst}
use Rattle.std.specs.Prelude.{IfSome}
use Rattle.std.proofs.Math.Logic.{∥∥₁_map}
use Rattle.std.proofs.lemmas.Result.{IfOk-weaker}
use Rattle.commands.specs.Faults.{OrMemory}
use Rattle.commands.specs.Places.{FailsInFolder, FailsOfParts, FailsOver, gets_blobs}
use Rattle.commands.proofs.Refused.{or_weaker}
use Rattle.commands.proofs.blobs_and_results.BlobsAndResults.into_error.Goals as goal

-- a request was refused
pub returns-clause-fault : goal.returns-clause-fault
returns-clause-fault g c =
    let start = g.K.Opened.start in
    let sees = g.F.FolderMark.sees in
    let folder = g.F.FolderMark.folder in
    let address = string_bytes c.args.server.now.address in
    IfOk-weaker c.error.result (OrMemory (λ e. ∥ FailsOver gets_blobs start address e ∥₁)) (OrMemory (λ e. ∥ FailsOfParts start sees folder address e ∥₁))
    (λ e. or_weaker (λ x. ∥ FailsOver gets_blobs start address x ∥₁) (λ x. ∥ FailsOfParts start sees folder address x ∥₁) e
    (λ is. ∥∥₁_map is (λ fails. inr fails))) c.error.ensures.over

-- a file couldn't be read
pub returns-in-Some-clause-fault : goal.returns-in-Some-clause-fault
returns-in-Some-clause-fault g c =
    inr (∥∥₁_map (subst (λ o. IfSome o (λ e. ∥ FailsInFolder g.F.FolderMark.sees g.F.FolderMark.folder e ∥₁)) c.in-Some.is c.into_fault.ensures.fault) (λ fails. inl fails))
