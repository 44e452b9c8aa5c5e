use Rattle.std.proofs.Common.{subst, sym}
use Rattle.std.specs.Prelude.{codes, option_map}
use Rattle.clap.specs.Words.{found_of, rows_of}
use Rattle.command_lines.specs.CommandLine.{option_text}
use Rattle.commands.specs.Faults.{OrMemory}
use Rattle.commands.specs.GetRefused.{FailsGet}
use Rattle.commands.specs.GetRefused.FailsGet.{in_memory, in_server}
use Rattle.commands.specs.Places.{FailsToConnect}
use Rattle.remote.specs.Remote.{connection_of}
use Rattle.commands.proofs.Exits.{exit_by}
use Rattle.commands.proofs.Gotten.{by_options}
use Rattle.commands.proofs.Refused.{or_memory}
use Rattle.commands.proofs.getting.run_get.Goals as goal

pub returns-in_err-remote-clause-refused : goal.returns-in_err-remote-clause-refused
returns-in_err-remote-clause-refused g c =
    let sees = g.W.World.sees c.args.world.now in
    let rows = rows_of (found_of c.args.matches.now) in
    exit_by (FailsGet sees rows) _ c.from_residual-in_err-remote.ensures.1
    (or_memory (FailsToConnect sees (option_text rows (codes "server"))) (FailsGet sees rows) _ in_memory
    (in_server c.in_ok-server.ensures.checked (c.in_ok-digest.digest, c.in_ok-digest.ensures.found))
    (subst (λ a. OrMemory (FailsToConnect sees a) c.in_err-remote.field-0.0) c.in_ok-server.ensures.server.address c.in_err-remote.ensures.fault))

pub returns : goal.returns
returns g c =
    let rows = rows_of (found_of c.args.matches.now) in
    let ends = by_options (g.W.World.sees c.args.world.now) rows (connection_of g.W.Link.Stream.flow c.in_ok-remote.remote) c.in_ok-digest.digest c.in_ok-server.server c.in_ok-server.ensures.server
    c.in_ok-server.ensures.checked c.in_ok-digest.ensures.found c.in_ok-remote.ensures.opened (option_map (λ s. s.now) c.option_of-folder.result) (sym c.option_of-folder.ensures)
    (g.O.Write.contents c.args.out.now) (g.O.Write.contents c.get_over.new.out)
    c.get_over.result (record { got = c.get_over.ensures.got; begun = c.get_over.ensures.begun; fails = c.get_over.ensures.fault }) in
    record { answered = ends.answered; begun = ends.begun; unprinted = c.get_over.ensures.unprinted; refused = ends.refused }
