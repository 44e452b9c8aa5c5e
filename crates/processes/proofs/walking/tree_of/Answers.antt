use Rattle.std.proofs.Common.{rules, arith, ◌∷◌, ◌<◌, length, map, ap, sym, subst, ◌∙◌, ◌≡◌, inl, inr}
use Rattle.messages.specs.Directory.{directory_bytes}
use Rattle.std.specs.List.{AllByRecursion}
use Rattle.std.proofs.lemmas.Result.{err_from_is_err_and}
use Rattle.messages.specs.DirectoryRules.{IsDirectory}
use Rattle.worker.specs.Outcomes.{directories_of}
use Rattle.tree.specs.Folded.{items_of}
use Rattle.processes.proofs.Unread.{none_empty, none_made, none_of_tree}
use Rattle.std.proofs.lemmas.Bool.Decides.{Decides-eqb}
use Rattle.std.specs.Vec.{vec_len}
use Rattle.processes.proofs.Lists.{first_removed}
use Rattle.processes.proofs.walking.tree_of.Goals as goal

pub returns-clause-directories : goal.returns-clause-directories
returns-clause-directories g c =
    let all = c.in_ok-directories.directories.items in
    let root = c.remove-root.result in
    let ok = c.in_ok-directories.directories.ok in
    let one = c.remove-root.ensures.len in
    let some : 0 < length all = first_of (omega (arith, ok, one), omega arith, search rules) in
    ap directories_of c.in_ok-new.ensures.found.1 ∙ ap (λ ds. map directory_bytes (root ∷ ds)) c.remove-root.ensures.items
    ∙ ap (map directory_bytes) (first_removed all root some c.remove-root.ensures.value) ∙ c.in_ok-directories.ensures.bytes

pub returns-in_err-new-clause-none : goal.returns-in_err-new-clause-none
returns-in_err-new-clause-none g c =
    let all = c.in_ok-directories.directories.items in
    let root = c.remove-root.result in
    let rest = c.remove-root.new.self.items in
    let ok = c.in_ok-directories.directories.ok in
    let one = c.remove-root.ensures.len in
    let some : 0 < length all = first_of (omega (arith, ok, one), omega arith, search rules) in
    let whole : root ∷ rest ≡ all = ap (λ ds. root ∷ ds) c.remove-root.ensures.items ∙ first_removed all root some c.remove-root.ensures.value in
    let p = err_from_is_err_and c.from_residual-in_err-new.result c.from_residual-in_err-new.ensures.1 in
    rw p.1 (none_made root rest (items_of c.args.encodings.now) c.in_err-new.field-0.0 p.0 (subst (AllByRecursion IsDirectory) (sym whole) c.in_ok-directories.ensures.valid) (ap (map directory_bytes) whole ∙ c.in_ok-directories.ensures.bytes) p.2
    c.in_err-new.ensures.only)

pub returns-in_err-directories-clause-none : goal.returns-in_err-directories-clause-none
returns-in_err-directories-clause-none g c =
    let p = err_from_is_err_and c.from_residual.result c.from_residual.ensures.1 in
    rw (p.1, p.2) (elim c.in_err-directories.ensures.none [
      | inl memory ↦ inl memory
      | inr none ↦ inr (none_of_tree (items_of c.args.encodings.now) none)
    ])

pub returns-then-is_empty-clause-none : goal.returns-then-is_empty-clause-none
returns-then-is_empty-clause-none g c =
    let all = c.in_ok-directories.directories in
    let test = (Decides-eqb (vec_len all) 0).0 (sym c.if-is_empty.ensures) in
    let ok = all.ok in
    let none : length all.items ≡ 0 = omega (arith, test, ok) in
    inr (none_empty all.items (items_of c.args.encodings.now) c.in_ok-directories.ensures.bytes none)
