use Rattle.std.proofs.Common.{codes}
use Rattle.clap.specs.Words.{found_of, rows_of}
use Rattle.command_lines.specs.CommandLine.{option_text}
use Rattle.commands.specs.Digested.{FailsDigest, IsDigestAsked, reads_bits}
use Rattle.commands.specs.Digested.FailsDigest.{in_memory, in_output, in_path}
use Rattle.commands.specs.Faults.{OrMemory}
use Rattle.commands.specs.ReadRefused.{FailsReading}
use Rattle.commands.specs.Refusal.{IsPrintFault}
use Rattle.commands.proofs.Exits.{begun_weaker, err_weaker, exit_by, or_else}
use Rattle.commands.proofs.Hashes.{asked_read, or_unread, printed_read}
use Rattle.commands.proofs.Refused.{or_memory}
use Rattle.commands.proofs.digesting.run_digest.Goals as goal

pub returns-in_err-digest-clause-refused : goal.returns-in_err-digest-clause-refused
returns-in_err-digest-clause-refused g c =
    let sees = g.W.World.sees c.args.world.now in
    let rows = rows_of (found_of c.args.matches.now) in
    exit_by (FailsDigest sees rows) _ c.from_residual.ensures.1
    (or_memory (FailsReading sees (reads_bits rows) 64 (option_text rows (codes "path"))) (FailsDigest sees rows) _ in_memory in_path
    (or_unread rows 64 (option_text rows (codes "path")) c.reads_bits.ensures c.text_for.ensures c.in_err-digest.ensures.refused))

pub returns : goal.returns
returns g c =
    let sees = g.W.World.sees c.args.world.now in
    let rows = rows_of (found_of c.args.matches.now) in
    let old = g.O.Write.contents c.args.out.now in
    let new = g.O.Write.contents c.print_digest.new.out in
    let asked : IsDigestAsked sees rows c.in_ok-digest.digest = asked_read _ sees rows c.reads_bits.result c.text_for.result.now c.in_ok-digest.digest _ _ c.reads_bits.ensures c.text_for.ensures c.in_ok-digest.ensures.taken in
    record {
      printed = printed_read sees rows c.in_ok-digest.digest old new c.print_digest.result asked c.print_digest.ensures.printed;
      begun = begun_weaker c.print_digest.result (λ h. or_else h (λ begun. (c.in_ok-digest.digest, asked, begun))) c.print_digest.ensures.begun;
      unprinted = c.print_digest.ensures.unprinted;
      refused = err_weaker c.print_digest.result (OrMemory IsPrintFault) (FailsDigest sees rows) (λ e. or_memory IsPrintFault (FailsDigest sees rows) e in_memory (in_output c.in_ok-digest.digest asked)) c.print_digest.ensures.fault;
    }
