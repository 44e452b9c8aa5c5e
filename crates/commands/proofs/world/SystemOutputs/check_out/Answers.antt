use Rattle.std.proofs.lemmas.Result.{err_from_is_err_and}
use Rattle.checkout.proofs.Entries.{checkout_had}
use Rattle.checkout.specs.Folder.{FolderValue, IsHad}
use Rattle.checkout.specs.declared.system.SystemFolder.{SystemFolder}
use Rattle.commands.proofs.world.SystemOutputs.check_out.Goals as goal

pub returns-in_err-check_out-clause-refused : goal.returns-in_err-check_out-clause-refused
returns-in_err-check_out-clause-refused g c =
    let p = err_from_is_err_and c.from_residual.result c.from_residual.ensures.1 in
    rw (p.1, p.2) (checkout_had {has = IsHad (λ (folder : SystemFolder) (v : FolderValue). Unit {0})} (λ v h. tt) (λ paths h. tt) (λ reach h. h) c.in_err-check_out.ensures.refused)
