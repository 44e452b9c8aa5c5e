-- The mismatch is found by all Directories that are known.
use Rattle.std.proofs.Common.{◌≡◌, ◌∙◌, List, [], ap, ℕ, subst}
use Rattle.std.specs.Prelude.{None, Some, option_map}
use Rattle.commands.specs.FolderRead.{value_of_read}
use Rattle.commands.specs.Noted.{known_of}
use Rattle.tree.specs.Folded.{items_of}
use Rattle.tree.specs.Mismatch.{FirstMismatch, mismatch_value}
use Rattle.commands.proofs.noting.mismatch_note.Goals as goal

pub returns-in-Some : goal.returns-in-Some
returns-in-Some c other =
    let known : items_of c.deref.result.now ≡ known_of c.args.made.now (value_of_read c.args.folder.now) = ap items_of c.deref.ensures.value ∙ c.in_ok-known.ensures {u = tt} in
    subst (λ (directories : List (List ℕ)). FirstMismatch directories 64 [] c.args.made.now.root c.args.folder.now.digest (Some (mismatch_value c.in-Some.mismatch))) known
    (subst (λ o. FirstMismatch (items_of c.deref.result.now) 64 [] c.args.made.now.root c.args.folder.now.digest (option_map mismatch_value o)) c.in-Some.is ((c.in_ok-mismatch.ensures {u = tt}).first other))
