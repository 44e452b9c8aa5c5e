use Rattle.std.proofs.Common.{[], ◌∷◌, codes, map}
use Rattle.commands.specs.Evidence.{goes_alone, names_evidence, needs_server}
use Rattle.commands.specs.Words.{server_words, where_said}
use Rattle.commands.proofs.Checking.{checks_behind, checks_exit}
use Rattle.commands.proofs.verify_words.check_words.Goals as goal

pub returns-in_err-check_with_server-2 : goal.returns-in_err-check_with_server-2
returns-in_err-check_with_server-2 g c =
    let options = g.M.Options.rows c.args.options.now in
    checks_exit (goes_alone options (codes "plan") ∷ goes_alone options (codes "record") ∷ goes_alone options (codes "store") ∷ goes_alone options (codes "results") ∷ needs_server options (codes "prefix") ∷ []) (needs_server options (codes "timeout") ∷ []) (names_evidence options ∷ map (where_said options (codes "server")) (server_words options)) _ _
    (c.in_ok-check_alone.ensures.0, (c.in_ok-check_alone-2.ensures.0, (c.in_ok-check_alone-3.ensures.0, (c.in_ok-check_alone-4.ensures.0, (c.in_ok-check_with_server.ensures.0, tt))))) c.in_err-check_with_server-2.ensures c.from_residual-in_err-check_with_server-2.ensures.1

pub returns-in_err-check_named : goal.returns-in_err-check_named
returns-in_err-check_named g c =
    let options = g.M.Options.rows c.args.options.now in
    checks_exit (goes_alone options (codes "plan") ∷ goes_alone options (codes "record") ∷ goes_alone options (codes "store") ∷ goes_alone options (codes "results") ∷ needs_server options (codes "prefix") ∷ needs_server options (codes "timeout") ∷ []) (names_evidence options ∷ []) (map (where_said options (codes "server")) (server_words options)) _ _
    (c.in_ok-check_alone.ensures.0, (c.in_ok-check_alone-2.ensures.0, (c.in_ok-check_alone-3.ensures.0, (c.in_ok-check_alone-4.ensures.0, (c.in_ok-check_with_server.ensures.0, (c.in_ok-check_with_server-2.ensures.0, tt)))))) c.in_err-check_named.ensures c.from_residual-in_err-check_named.ensures.1

pub returns : goal.returns
returns g c =
    let options = g.M.Options.rows c.args.options.now in
    checks_behind (goes_alone options (codes "plan") ∷ goes_alone options (codes "record") ∷ goes_alone options (codes "store") ∷ goes_alone options (codes "results") ∷ needs_server options (codes "prefix") ∷ needs_server options (codes "timeout") ∷ names_evidence options ∷ []) (map (where_said options (codes "server")) (server_words options)) c.check_server.result
    (c.in_ok-check_alone.ensures.0, (c.in_ok-check_alone-2.ensures.0, (c.in_ok-check_alone-3.ensures.0, (c.in_ok-check_alone-4.ensures.0, (c.in_ok-check_with_server.ensures.0, (c.in_ok-check_with_server-2.ensures.0, (c.in_ok-check_named.ensures.0, tt))))))) c.check_server.ensures
