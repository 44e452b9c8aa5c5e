use Rattle.std.proofs.Common.{[], ◌∷◌}
use Rattle.commands.specs.Words.{has_prefix, has_timeout, names_server}
use Rattle.commands.proofs.Checking.{checks_exit}
use Rattle.commands.proofs.connecting.read_server.Goals as goal

pub returns-in_err-host-clause-checked : goal.returns-in_err-host-clause-checked
returns-in_err-host-clause-checked g c =
    let options = g.M.Options.rows c.args.options.now in
    checks_exit [] (names_server options ∷ []) (has_timeout options ∷ has_prefix options ∷ []) _ _
    tt c.in_err-host.ensures.checked c.from_residual.ensures.1

pub returns-in_err-timeout-clause-checked : goal.returns-in_err-timeout-clause-checked
returns-in_err-timeout-clause-checked g c =
    let options = g.M.Options.rows c.args.options.now in
    checks_exit (names_server options ∷ []) (has_timeout options ∷ []) (has_prefix options ∷ []) _ _
    (c.in_ok-host.ensures.checked.0, tt) c.in_err-timeout.ensures.checked c.from_residual-in_err-timeout.ensures.1

pub returns-in_err-prefix-clause-checked : goal.returns-in_err-prefix-clause-checked
returns-in_err-prefix-clause-checked g c =
    let options = g.M.Options.rows c.args.options.now in
    checks_exit (names_server options ∷ has_timeout options ∷ []) (has_prefix options ∷ []) [] _ _
    (c.in_ok-host.ensures.checked.0, (c.in_ok-timeout.ensures.checked.0, tt)) c.in_err-prefix.ensures.checked c.from_residual-in_err-prefix.ensures.1

pub returns-clause-checked : goal.returns-clause-checked
returns-clause-checked g c =
    (c.in_ok-host.ensures.checked.0, (c.in_ok-timeout.ensures.checked.0, (c.in_ok-prefix.ensures.checked.0, tt)))
