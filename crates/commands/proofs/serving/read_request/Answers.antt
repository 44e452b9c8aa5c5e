use Rattle.std.proofs.Common.{drop, rules, take}
use Rattle.clap.specs.Words.{found_of, rows_of}
use Rattle.commands.specs.Words.{serve_words}
use Rattle.commands.proofs.Checking.{checks_exit}
use Rattle.commands.proofs.serving.read_request.Goals as goal

pub returns-in_err-address-clause-checked : goal.returns-in_err-address-clause-checked
returns-in_err-address-clause-checked c =
    let words = serve_words (rows_of (found_of c.args.matches.now)) in
    checks_exit (take 0 words) (take 1 (drop 0 words)) (drop 1 words) _ _
    tt c.in_err-address.ensures.checked c.from_residual.ensures.1

pub returns-in_err-connections-clause-checked : goal.returns-in_err-connections-clause-checked
returns-in_err-connections-clause-checked c =
    let words = serve_words (rows_of (found_of c.args.matches.now)) in
    checks_exit (take 1 words) (take 1 (drop 1 words)) (drop 2 words) _ _
    (c.in_ok-address.ensures.checked.0, tt) c.in_err-connections.ensures.checked c.from_residual-in_err-connections.ensures.1

pub returns-in_err-limit-clause-checked : goal.returns-in_err-limit-clause-checked
returns-in_err-limit-clause-checked c =
    let words = serve_words (rows_of (found_of c.args.matches.now)) in
    checks_exit (take 2 words) (take 1 (drop 2 words)) (drop 3 words) _ _
    (c.in_ok-address.ensures.checked.0, (c.in_ok-connections.ensures.checked.0, tt)) c.in_err-limit.ensures.checked c.from_residual-in_err-limit.ensures.1

pub returns-in_err-result_limit-clause-checked : goal.returns-in_err-result_limit-clause-checked
returns-in_err-result_limit-clause-checked c =
    let words = serve_words (rows_of (found_of c.args.matches.now)) in
    checks_exit (take 3 words) (take 1 (drop 3 words)) (drop 4 words) _ _
    (c.in_ok-address.ensures.checked.0, (c.in_ok-connections.ensures.checked.0, (c.in_ok-limit.ensures.checked.0, tt))) c.in_err-result_limit.ensures.checked c.from_residual-in_err-result_limit.ensures.1

pub returns-in_err-idle-clause-checked : goal.returns-in_err-idle-clause-checked
returns-in_err-idle-clause-checked c =
    let words = serve_words (rows_of (found_of c.args.matches.now)) in
    checks_exit (take 4 words) (take 1 (drop 4 words)) (drop 5 words) _ _
    (c.in_ok-address.ensures.checked.0, (c.in_ok-connections.ensures.checked.0, (c.in_ok-limit.ensures.checked.0, (c.in_ok-result_limit.ensures.checked.0, tt)))) c.in_err-idle.ensures.checked c.from_residual-in_err-idle.ensures.1

pub returns-in_err-at_once-clause-checked : goal.returns-in_err-at_once-clause-checked
returns-in_err-at_once-clause-checked c =
    let words = serve_words (rows_of (found_of c.args.matches.now)) in
    checks_exit (take 5 words) (take 2 (drop 5 words)) (drop 7 words) _ _
    (c.in_ok-address.ensures.checked.0, (c.in_ok-connections.ensures.checked.0, (c.in_ok-limit.ensures.checked.0, (c.in_ok-result_limit.ensures.checked.0, (c.in_ok-idle.ensures.checked.0, tt))))) c.in_err-at_once.ensures.checked c.from_residual-in_err-at_once.ensures.1

pub returns-in_err-prefix-clause-checked : goal.returns-in_err-prefix-clause-checked
returns-in_err-prefix-clause-checked c =
    let words = serve_words (rows_of (found_of c.args.matches.now)) in
    checks_exit (take 7 words) (take 1 (drop 7 words)) (drop 8 words) _ _
    (c.in_ok-address.ensures.checked.0, (c.in_ok-connections.ensures.checked.0, (c.in_ok-limit.ensures.checked.0, (c.in_ok-result_limit.ensures.checked.0, (c.in_ok-idle.ensures.checked.0, (c.in_ok-at_once.ensures.checked.0, (c.in_ok-at_once.ensures.checked.1.0, tt))))))) c.in_err-prefix.ensures.checked c.from_residual-in_err-prefix.ensures.1

pub returns-clause-checked : goal.returns-clause-checked
returns-clause-checked c =
    (c.in_ok-address.ensures.checked.0, (c.in_ok-connections.ensures.checked.0, (c.in_ok-limit.ensures.checked.0, (c.in_ok-result_limit.ensures.checked.0, (c.in_ok-idle.ensures.checked.0, (c.in_ok-at_once.ensures.checked.0, (c.in_ok-at_once.ensures.checked.1.0, (c.in_ok-prefix.ensures.checked.0, tt))))))))

pub returns-clause-request : goal.returns-clause-request
returns-clause-request c = record {
  address = c.in_ok-address.ensures.address;
  limits = record { blobs = c.in_ok-limit.ensures.limit; results = c.in_ok-result_limit.ensures.limit };
  prefix = search rules;
  connections = c.in_ok-connections.ensures.number;
  at_once = c.in_ok-at_once.ensures.at_once;
  idle = c.in_ok-idle.ensures.number;
}
