use Rattle.std.proofs.Common.{rules, ◌≡◌, ◌∙◌, ap, sym, subst, to_z}
use Rattle.std.specs.Prelude.{◌↔◌, pos, Contains, FitsSigned, IsTrue}
use Rattle.std.specs.Int.{w32}
use Rattle.std.proofs.lemmas.Int.{to_z-of_z, to_z_pos}
use Rattle.runs.proofs.Forms.{fits_by_size}
use Rattle.std.specs.List.{AllByRecursion}
use Rattle.actions.specs.Outcome.{paths_of_outputs}
use Rattle.worker.proofs.recorded.fits.Goals as goal

pub returns : goal.returns
returns g c =
    let listed = subst (λ es. IsTrue c.lists_all.result ↔ AllByRecursion (Contains c.args.command.now.output_paths) (paths_of_outputs es)) c.outputs.ensures.value c.lists_all.ensures in
    let fits : FitsSigned w32 c.exit_code.result = fits_by_size c.exit_code.result c.exit_code.type_inv in
    let zero : c.args.outcome.now.exit_code ≡ pos 0 = sym c.exit_code.ensures.value ∙ sym (to_z-of_z w32 c.exit_code.result fits) ∙ ap (to_z w32) c.if-exit_code-ne0.false ∙ to_z_pos w32 0 (search rules) in
    (λ t. (zero, listed.0 t), λ h. listed.1 h.1)
