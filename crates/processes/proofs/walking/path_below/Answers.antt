use Rattle.std.proofs.Common.{◌≡◌, sym, ◌∙◌, subst}
use Rattle.std.proofs.lemmas.Result.{err_from_is_err_and}
use Rattle.messages.specs.Name.{IsName}
use Rattle.tree.proofs.OwnDirectories.{no_refusal}
use Rattle.processes.specs.declared.trouble.Trouble.TheVariants.{NoOutput}
use Rattle.processes.proofs.Walks.{full_path, message_bad}
use Rattle.processes.proofs.walking.path_below.Goals as goal

pub returns-in_err-name-clause-bad : goal.returns-in_err-name-clause-bad
returns-in_err-name-clause-bad g c told name =
    let p = err_from_is_err_and c.from_residual.result c.from_residual.ensures.1 in
    let bad : p.0 ≡ NoOutput = (let both = sym p.1 ∙ told in cc) in
    absurd (no_refusal c.in_err-name.field-0.0 _ (message_bad _ _ p.2 bad) (c.in_err-name.ensures.only (subst IsName (sym c.as_bytes.ensures.value) name)))

pub returns-in_err-below-in-Some-clause-bad : goal.returns-in_err-below-in-Some-clause-bad
returns-in_err-below-in-Some-clause-bad g c told name =
    let p = err_from_is_err_and c.from_residual-in_err-below-in-Some.result c.from_residual-in_err-below-in-Some.ensures.1 in
    let bad : p.0 ≡ NoOutput = (let both = sym p.1 ∙ told in cc) in
    rw c.in-Some.is (full_path _ _ c.in_err-below-in-Some.field-0.0 (message_bad _ _ p.2 bad) c.in_err-below-in-Some.ensures.exact)
