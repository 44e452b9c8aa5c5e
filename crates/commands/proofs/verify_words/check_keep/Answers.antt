use Rattle.std.proofs.Common.{[], ◌∷◌, codes}
use Rattle.commands.specs.Evidence.{leaves, may_name_kept}
use Rattle.commands.proofs.Checking.{checks_behind, checks_exit}
use Rattle.commands.proofs.verify_words.check_keep.Goals as goal

pub returns-in_err-check_leaves : goal.returns-in_err-check_leaves
returns-in_err-check_leaves g c =
    let options = g.M.Options.rows c.args.options.now in
    checks_exit (may_name_kept options ∷ []) (leaves options (codes "plan") (codes "--plan") ∷ [])
    (leaves options (codes "record") (codes "--record") ∷ leaves options (codes "evidence") (codes "<EVIDENCE>") ∷ []) _ _
    c.in_ok-check_kept_file.ensures c.in_err-check_leaves.ensures c.from_residual-in_err-check_leaves.ensures.1

pub returns-in_err-check_leaves-2 : goal.returns-in_err-check_leaves-2
returns-in_err-check_leaves-2 g c =
    let options = g.M.Options.rows c.args.options.now in
    checks_exit (may_name_kept options ∷ leaves options (codes "plan") (codes "--plan") ∷ []) (leaves options (codes "record") (codes "--record") ∷ [])
    (leaves options (codes "evidence") (codes "<EVIDENCE>") ∷ []) _ _
    (c.in_ok-check_kept_file.ensures.0, c.in_ok-check_leaves.ensures) c.in_err-check_leaves-2.ensures c.from_residual-in_err-check_leaves-2.ensures.1

pub returns : goal.returns
returns g c =
    let options = g.M.Options.rows c.args.options.now in
    checks_behind (may_name_kept options ∷ leaves options (codes "plan") (codes "--plan") ∷ leaves options (codes "record") (codes "--record") ∷ [])
    (leaves options (codes "evidence") (codes "<EVIDENCE>") ∷ []) c.check_leaves-3.result
    (c.in_ok-check_kept_file.ensures.0, (c.in_ok-check_leaves.ensures.0, c.in_ok-check_leaves-2.ensures)) c.check_leaves-3.ensures
