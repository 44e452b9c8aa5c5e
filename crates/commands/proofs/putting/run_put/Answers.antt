use Rattle.std.proofs.Common.{◌≡◌, ◌∙◌, codes, refl, rules, string_bytes, subst}
use Rattle.clap.specs.Words.{found_of, rows_of}
use Rattle.command_lines.specs.CommandLine.{option_text}
use Rattle.remote.specs.Remote.{connection_of}
use Rattle.commands.specs.Faults.{OrMemory}
use Rattle.commands.specs.Places.{FailsToConnect}
use Rattle.commands.specs.Put.{PutsPath}
use Rattle.commands.specs.PutRefused.{FailsBelow, FailsPut}
use Rattle.commands.specs.PutRefused.FailsPut.{in_connection, in_memory, in_output, in_path, in_words}
use Rattle.commands.specs.Refusal.{IsPrintFault}
use Rattle.commands.specs.Words.{FailsFirst, server_words}
use Rattle.commands.proofs.Exits.{exit_by, or_else}
use Rattle.commands.proofs.Placed.{starts_put}
use Rattle.commands.proofs.Puts.{err_of, ok_of}
use Rattle.commands.proofs.Refused.{or_memory}
use Rattle.commands.proofs.Writing.{where_err}
use Rattle.commands.proofs.putting.run_put.Goals as goal

pub returns-in_err-server-clause-refused : goal.returns-in_err-server-clause-refused
returns-in_err-server-clause-refused g c =
    let sees = g.W.World.sees c.args.world.now in
    let options = rows_of (found_of c.args.matches.now) in
    exit_by (FailsPut sees options) _ c.from_residual.ensures.1
    (or_memory (FailsFirst (server_words options)) (FailsPut sees options) _ in_memory in_words c.in_err-server.ensures.checked)

pub returns-in_err-place-clause-refused : goal.returns-in_err-place-clause-refused
returns-in_err-place-clause-refused g c =
    exit_by (FailsPut (g.W.World.sees c.args.world.now) (rows_of (found_of c.args.matches.now))) _ c.from_residual-in_err-place.ensures.1 (in_memory refl)

pub returns-in_err-remote-clause-refused : goal.returns-in_err-remote-clause-refused
returns-in_err-remote-clause-refused g c =
    let sees = g.W.World.sees c.args.world.now in
    let options = rows_of (found_of c.args.matches.now) in
    exit_by (FailsPut sees options) _ c.from_residual-in_err-remote.ensures.1
    (or_memory (FailsToConnect sees (option_text options (codes "server"))) (FailsPut sees options) _ in_memory (in_connection c.in_ok-server.ensures.checked)
    (subst (λ a. OrMemory (FailsToConnect sees a) c.in_err-remote.field-0.0) c.in_ok-server.ensures.server.address c.in_err-remote.ensures.fault))

pub returns-in_err-progress-clause-refused : goal.returns-in_err-progress-clause-refused
returns-in_err-progress-clause-refused g c =
    exit_by (FailsPut (g.W.World.sees c.args.world.now) (rows_of (found_of c.args.matches.now))) _ c.from_residual-in_err-progress.ensures.1 (in_memory refl)

pub returns-in_err-digest-clause-refused : goal.returns-in_err-digest-clause-refused
returns-in_err-digest-clause-refused g c =
    let sees = g.W.World.sees c.args.world.now in
    let options = rows_of (found_of c.args.matches.now) in
    let start = connection_of g.W.Link.Stream.flow c.in_ok-remote.remote in
    exit_by (FailsPut sees options) _ c.from_residual-in_err-digest.ensures.1
    (or_memory (λ x. FailsBelow sees (option_text options (codes "server")) x 64 (option_text options (codes "path")) start) (FailsPut sees options) _ in_memory
    (in_path start (starts_put sees options c.in_ok-server.server start c.in_ok-server.ensures.server c.in_ok-remote.ensures.opened c.in_ok-server.ensures.checked))
    (subst (λ a. OrMemory (λ x. FailsBelow sees a x 64 (option_text options (codes "path")) start) c.in_err-digest.field-0.0) c.in_ok-server.ensures.server.address
    (subst (λ p. OrMemory (λ x. FailsBelow sees (string_bytes c.in_ok-server.server.address) x 64 p start) c.in_err-digest.field-0.0) (c.in_ok-place.ensures.ok ∙ c.text_of.ensures) (err_of c.put_over-put.result.0 c.in_err-digest.field-0.0 (OrMemory (λ x. FailsBelow sees (string_bytes c.in_ok-server.server.address) x 64 (string_bytes c.in_ok-place.place) start)) c.in_err-digest.was c.put_over-put.ensures.refused))))

pub returns-in_err-print_digest-clause-refused : goal.returns-in_err-print_digest-clause-refused
returns-in_err-print_digest-clause-refused g c =
    let sees = g.W.World.sees c.args.world.now in
    let options = rows_of (found_of c.args.matches.now) in
    let start = connection_of g.W.Link.Stream.flow c.in_ok-remote.remote in
    exit_by (FailsPut sees options) _ c.from_residual-in_err-print_digest.ensures.1
    (or_memory IsPrintFault (FailsPut sees options) _ in_memory
    (in_output start c.in_ok-digest.digest (starts_put sees options c.in_ok-server.server start c.in_ok-server.ensures.server c.in_ok-remote.ensures.opened c.in_ok-server.ensures.checked)
    (subst (λ p. PutsPath sees start p c.in_ok-digest.digest) (c.in_ok-place.ensures.ok ∙ c.text_of.ensures) (ok_of c.put_over-put.result.0 c.in_ok-digest.digest (PutsPath sees start (string_bytes c.in_ok-place.place)) c.in_ok-digest.was c.put_over-put.ensures.put)))
    c.in_err-print_digest.ensures.fault)

pub returns-in_err-print_digest-clause-begun : goal.returns-in_err-print_digest-clause-begun
returns-in_err-print_digest-clause-begun g c =
    let sees = g.W.World.sees c.args.world.now in
    let options = rows_of (found_of c.args.matches.now) in
    let start = connection_of g.W.Link.Stream.flow c.in_ok-remote.remote in
    where_err c.from_residual-in_err-print_digest.result (or_else c.in_err-print_digest.ensures.begun (λ begun. (
      start,
      c.in_ok-digest.digest,
      starts_put sees options c.in_ok-server.server start c.in_ok-server.ensures.server c.in_ok-remote.ensures.opened c.in_ok-server.ensures.checked,
      subst (λ p. PutsPath sees start p c.in_ok-digest.digest) (c.in_ok-place.ensures.ok ∙ c.text_of.ensures) (ok_of c.put_over-put.result.0 c.in_ok-digest.digest (PutsPath sees start (string_bytes c.in_ok-place.place)) c.in_ok-digest.was c.put_over-put.ensures.put),
      begun,
    )))

pub returns-in_err-print_digest-clause-unprinted : goal.returns-in_err-print_digest-clause-unprinted
returns-in_err-print_digest-clause-unprinted g c =
    exit_by (λ e. ¬ IsPrintFault e → g.O.Write.contents c.print_digest.new.out ≡ g.O.Write.contents c.args.out.now) _ c.from_residual-in_err-print_digest.ensures.1
    c.in_err-print_digest.ensures.unprinted

pub returns-clause-printed : goal.returns-clause-printed
returns-clause-printed g c =
    let sees = g.W.World.sees c.args.world.now in
    let start = connection_of g.W.Link.Stream.flow c.in_ok-remote.remote in
    record {
      start = start;
      starts = starts_put sees (rows_of (found_of c.args.matches.now)) c.in_ok-server.server start c.in_ok-server.ensures.server c.in_ok-remote.ensures.opened c.in_ok-server.ensures.checked;
      digest = c.in_ok-digest.digest;
      put = subst (λ p. PutsPath sees start p c.in_ok-digest.digest) (c.in_ok-place.ensures.ok ∙ c.text_of.ensures) (ok_of c.put_over-put.result.0 c.in_ok-digest.digest (PutsPath sees start (string_bytes c.in_ok-place.place)) c.in_ok-digest.was c.put_over-put.ensures.put);
      printed = search rules;
    }
