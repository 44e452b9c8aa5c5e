use Rattle.std.proofs.Common.{◌≡◌, codes, inr, refl, rules}
use Rattle.clap.specs.Words.{found_of, rows_of}
use Rattle.command_lines.specs.CommandLine.{option_text}
use Rattle.commands.specs.Refusal.{IsPrintFault}
use Rattle.commands.specs.ServeRefused.{FailsServe, FailsToListen, IsAcceptFault}
use Rattle.commands.specs.ServeRefused.FailsServe.{in_address, in_connections, in_memory, in_output, in_random, in_words}
use Rattle.commands.specs.Words.{FailsFirst, serve_words}
use Rattle.commands.specs.Printed.{PrintsListening, listening_line}
use Rattle.commands.proofs.Exits.{exit_by, or_else}
use Rattle.commands.proofs.Refused.{listen_not_accept, or_memory, print_not_accept, random_not_accept, starts_serve, words_not_accept}
use Rattle.commands.proofs.Writing.{beginning_of_all, where_err}
use Rattle.commands.proofs.serving.run_serve.Goals as goal

pub returns-in_err-request-clause-refused : goal.returns-in_err-request-clause-refused
returns-in_err-request-clause-refused g c =
    let sees = g.W.World.sees c.args.world.now in
    let options = rows_of (found_of c.args.matches.now) in
    exit_by (FailsServe sees options) _ c.from_residual.ensures.1
    (or_memory (FailsFirst (serve_words options)) (FailsServe sees options) _ in_memory in_words c.in_err-request.ensures.checked)

pub returns-in_err-keys-clause-refused : goal.returns-in_err-keys-clause-refused
returns-in_err-keys-clause-refused g c =
    exit_by (FailsServe (g.W.World.sees c.args.world.now) (rows_of (found_of c.args.matches.now))) _ c.from_residual-in_err-keys.ensures.1 (in_random c.in_ok-request.ensures.checked c.in_err-keys.ensures.fault)

pub returns-in_err-keys-clause-told : goal.returns-in_err-keys-clause-told
returns-in_err-keys-clause-told g c =
    exit_by (λ e. IsAcceptFault e → PrintsListening (g.W.World.sees c.args.world.now) (rows_of (found_of c.args.matches.now)) (g.O.Write.contents c.args.out.now) (g.O.Write.contents c.args.out.now)) _ c.from_residual-in_err-keys.ensures.1
    (λ accept. absurd (random_not_accept (g.W.World.sees c.args.world.now) _ c.in_err-keys.ensures.fault accept))

pub returns-in_err-cache-clause-refused : goal.returns-in_err-cache-clause-refused
returns-in_err-cache-clause-refused g c =
    exit_by (FailsServe (g.W.World.sees c.args.world.now) (rows_of (found_of c.args.matches.now))) _ c.from_residual-in_err-cache.ensures.1 (in_memory refl)

pub returns-in_err-listening-clause-refused : goal.returns-in_err-listening-clause-refused
returns-in_err-listening-clause-refused g c =
    let sees = g.W.World.sees c.args.world.now in
    let options = rows_of (found_of c.args.matches.now) in
    exit_by (FailsServe sees options) _ c.from_residual-in_err-listening.ensures.1
    (or_memory (FailsToListen sees (option_text options (codes "listen"))) (FailsServe sees options) _ in_memory
    (in_address c.in_ok-request.ensures.checked c.in_ok-keys.ensures.given)
    (rw (← c.in_ok-request.ensures.request.address) c.in_err-listening.ensures.fault))

pub returns-in_err-print_address-clause-refused : goal.returns-in_err-print_address-clause-refused
returns-in_err-print_address-clause-refused g c =
    let sees = g.W.World.sees c.args.world.now in
    let options = rows_of (found_of c.args.matches.now) in
    let address = c.in_ok-listening.listening.address in
    exit_by (FailsServe sees options) _ c.from_residual-in_err-print_address.ensures.1
    (or_memory IsPrintFault (FailsServe sees options) _ in_memory
    (in_output address (starts_serve sees options c.in_ok-request.request address c.in_ok-request.ensures.request c.in_ok-request.ensures.checked c.in_ok-listening.ensures.listens))
    c.in_err-print_address.ensures.fault)

pub returns-in_err-print_address-clause-unprinted : goal.returns-in_err-print_address-clause-unprinted
returns-in_err-print_address-clause-unprinted g c =
    exit_by (λ e. ¬ IsPrintFault e → ¬ IsAcceptFault e → g.O.Write.contents c.print_address.new.out ≡ g.O.Write.contents c.args.out.now) _ c.from_residual-in_err-print_address.ensures.1
    (λ print accept. c.in_err-print_address.ensures.unprinted print)

pub returns-in-Err-clause-unprinted : goal.returns-in-Err-clause-unprinted
returns-in-Err-clause-unprinted g c = λ print accept. absurd (accept tt)

pub returns-in-Err-clause-refused : goal.returns-in-Err-clause-refused
returns-in-Err-clause-refused g c =
    let address = c.in_ok-listening.listening.address in
    in_connections address c.in_ok-request.request.limit c.in_ok-request.request.result_limit c.in-Err.fault
    (starts_serve (g.W.World.sees c.args.world.now) (rows_of (found_of c.args.matches.now)) c.in_ok-request.request address c.in_ok-request.ensures.request c.in_ok-request.ensures.checked c.in_ok-listening.ensures.listens)
    c.in_ok-request.ensures.request.limits (search rules) refl

pub returns-in_err-print_address-clause-begun : goal.returns-in_err-print_address-clause-begun
returns-in_err-print_address-clause-begun g c =
    let address = c.in_ok-listening.listening.address in
    where_err c.from_residual-in_err-print_address.result (or_else c.in_err-print_address.ensures.begun (λ begun. (
      address,
      starts_serve (g.W.World.sees c.args.world.now) (rows_of (found_of c.args.matches.now)) c.in_ok-request.request address c.in_ok-request.ensures.request c.in_ok-request.ensures.checked c.in_ok-listening.ensures.listens,
      begun,
    )))

pub returns-in-Ok-clause-served : goal.returns-in-Ok-clause-served
returns-in-Ok-clause-served g c =
    let address = c.in_ok-listening.listening.address in
    record {
      address = address;
      starts = starts_serve (g.W.World.sees c.args.world.now) (rows_of (found_of c.args.matches.now)) c.in_ok-request.request address c.in_ok-request.ensures.request c.in_ok-request.ensures.checked c.in_ok-listening.ensures.listens;
      printed = c.in_ok-print_address.ensures.printed;
      limit = c.in_ok-request.request.limit;
      result_limit = c.in_ok-request.request.result_limit;
      limits = c.in_ok-request.ensures.request.limits;
      served = search rules;
    }

-- the whole line was printed
pub returns-in-Err-clause-begun : goal.returns-in-Err-clause-begun
returns-in-Err-clause-begun g c =
    let address = c.in_ok-listening.listening.address in
    inr (
      address,
      starts_serve (g.W.World.sees c.args.world.now) (rows_of (found_of c.args.matches.now)) c.in_ok-request.request address c.in_ok-request.ensures.request c.in_ok-request.ensures.checked c.in_ok-listening.ensures.listens,
      beginning_of_all (g.O.Write.contents c.args.out.now) (g.O.Write.contents c.print_address.new.out) (listening_line address) c.in_ok-print_address.ensures.printed,
    )

pub returns-in_err-request-clause-told : goal.returns-in_err-request-clause-told
returns-in_err-request-clause-told g c =
    exit_by (λ e. IsAcceptFault e → PrintsListening (g.W.World.sees c.args.world.now) (rows_of (found_of c.args.matches.now)) (g.O.Write.contents c.args.out.now) (g.O.Write.contents c.args.out.now)) _ c.from_residual.ensures.1
    (λ accept. absurd (words_not_accept (rows_of (found_of c.args.matches.now)) _ c.in_err-request.ensures.checked accept))

pub returns-in_err-listening-clause-told : goal.returns-in_err-listening-clause-told
returns-in_err-listening-clause-told g c =
    exit_by (λ e. IsAcceptFault e → PrintsListening (g.W.World.sees c.args.world.now) (rows_of (found_of c.args.matches.now)) (g.O.Write.contents c.args.out.now) (g.O.Write.contents c.args.out.now)) _ c.from_residual-in_err-listening.ensures.1
    (λ accept. absurd (listen_not_accept (g.W.World.sees c.args.world.now) _ _ c.in_err-listening.ensures.fault accept))

pub returns-in_err-print_address-clause-told : goal.returns-in_err-print_address-clause-told
returns-in_err-print_address-clause-told g c =
    exit_by (λ e. IsAcceptFault e → PrintsListening (g.W.World.sees c.args.world.now) (rows_of (found_of c.args.matches.now)) (g.O.Write.contents c.args.out.now) (g.O.Write.contents c.print_address.new.out)) _ c.from_residual-in_err-print_address.ensures.1
    (λ accept. absurd (print_not_accept _ c.in_err-print_address.ensures.fault accept))

pub returns-in-Err-clause-told : goal.returns-in-Err-clause-told
returns-in-Err-clause-told g c =
    let address = c.in_ok-listening.listening.address in
    λ accept. (
      address,
      starts_serve (g.W.World.sees c.args.world.now) (rows_of (found_of c.args.matches.now)) c.in_ok-request.request address c.in_ok-request.ensures.request c.in_ok-request.ensures.checked c.in_ok-listening.ensures.listens,
      c.in_ok-print_address.ensures.printed,
    )
