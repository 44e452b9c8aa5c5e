use Rattle.std.proofs.Common.{◌∙◌, subst, sym, None, ◌≡◌}
use Rattle.std.specs.Map.{lookup}
use Rattle.std.specs.Str.{bytes_eq}
use Rattle.archive.specs.Archive.{files_of}
use Rattle.commands.proofs.Asked.{nothing_fails, one_name}
use Rattle.commands.proofs.archived.ArchivedInputs.look.Goals as goal

pub returns-in-None-clause-fault : goal.returns-in-None-clause-fault
returns-in-None-clause-fault g c name is =
    let files = files_of c.args.self.now.archive in
    let same = one_name c.args.self.now.folder.now c.args.path.now c.in-Some.name.now name c.in-Some.ensures.found is in
    nothing_fails files name c.nothing_there-in-None.result (subst (λ n. lookup (bytes_eq n) files ≡ None) same (sym c.find.ensures ∙ c.in-None.is)) c.nothing_there-in-None.ensures.fault
