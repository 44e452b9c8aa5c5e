use Rattle.std.proofs.Common.{[], ◌∷◌, codes}
use Rattle.commands.specs.Evidence.{has_bits_of_folder, has_one_claim}
use Rattle.commands.specs.Words.{may_name_folder}
use Rattle.commands.proofs.Checking.{checks_behind, checks_exit}
use Rattle.commands.proofs.verify_words.check_artifact.Goals as goal

pub returns-in_err-check_bits : goal.returns-in_err-check_bits
returns-in_err-check_bits g c =
    let options = g.M.Options.rows c.args.options.now in
    checks_exit (has_one_claim options ∷ []) (has_bits_of_folder options ∷ []) (may_name_folder options (codes "artifact") ∷ []) _ _ c.in_ok-check_one_claim.ensures c.in_err-check_bits.ensures c.from_residual-in_err-check_bits.ensures.1

pub returns : goal.returns
returns g c =
    let options = g.M.Options.rows c.args.options.now in
    checks_behind (has_one_claim options ∷ has_bits_of_folder options ∷ []) (may_name_folder options (codes "artifact") ∷ []) c.check_folder.result (c.in_ok-check_one_claim.ensures.0, c.in_ok-check_bits.ensures) c.check_folder.ensures
