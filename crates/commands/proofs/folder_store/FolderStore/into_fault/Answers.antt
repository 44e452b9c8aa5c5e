use Rattle.std.proofs.Common.{◌∙◌, sym}
use Rattle.std.proofs.Math.Logic.{∥∥₁_map}
use Rattle.commands.proofs.folder_store.FolderStore.into_fault.Goals as goal

pub returns-in-Some-clause-fault : goal.returns-in-Some-clause-fault
returns-in-Some-clause-fault g c =
    ∥∥₁_map c.args.self.told (λ is. (c.in-Some.error, is.failed c.in-Some.error (sym c.into_error.ensures ∙ c.in-Some.is), c.from.ensures))
