use Rattle.std.proofs.Common.{subst}
use Rattle.archive.specs.Archive.{files_of}
use Rattle.archive.specs.Reader.{FailsAt}
use Rattle.commands.proofs.Asked.{fault_kept, one_name}
use Rattle.commands.proofs.archived.ArchivedInputs.read.Goals as goal

pub returns-in-Err-clause-fault : goal.returns-in-Err-clause-fault
returns-in-Err-clause-fault g c name is =
    let files = files_of c.args.self.now.archive in
    let same = one_name c.args.self.now.folder.now c.args.path.now c.in-Some.name.now name c.in-Some.ensures.found is in
    fault_kept files name c.in-Err.error c.at_path.result (subst (λ n. FailsAt files n c.in-Err.error) same c.in-Err.ensures.fault) c.at_path.ensures.same
