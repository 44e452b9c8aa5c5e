use Rattle.std.proofs.Common.{rules, ◌≡◌, Some, sym, ap, subst, ◌∙◌}
use Rattle.std.specs.Prelude.{find}
use Rattle.std.specs.Option.{option_copied}
use Rattle.std.specs.List.{Contains}
use Rattle.messages.specs.DirectoryRules.{symlink_names}
use Rattle.messages.specs.Node.{is_same}
use Rattle.messages.proofs.Searches.{name_there}
use Rattle.messages.proofs.directory.Directory.find_child.Goals as goal

pub returns-in_err-copy_of-in-Some-find_named-2-clause-memory : goal.returns-in_err-copy_of-in-Some-find_named-2-clause-memory
returns-in_err-copy_of-in-Some-find_named-2-clause-memory g c =
    let name = c.args.name.now in
    let nodes = c.deref-3.result.now in
    let at : option_copied c.find_named-3.result ≡ find (λ n. is_same n.name name) nodes = c.find_named-3.ensures in
    let is : option_copied c.find_named-3.result ≡ Some c.in-Some-find_named-2.symlink.now = ap option_copied c.in-Some-find_named-2.is in
    let list : nodes ≡ c.args.self.now.symlinks = search rules in
    λ _. subst (λ l. Contains (symlink_names l) name) list (name_there (λ n. n.name) name nodes _ (sym at ∙ is))
