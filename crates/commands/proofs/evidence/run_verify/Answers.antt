use Rattle.std.proofs.Common.{◌≡◌, inr, refl, string_bytes, subst}
use Rattle.std.specs.Io.KnownBytes.{Appends}
use Rattle.std.specs.Prelude.{codes}
use Rattle.clap.specs.Words.{first_of, found_of, rows_of}
use Rattle.commands.specs.Evidence.{asked_words}
use Rattle.commands.specs.Refusal.{IsPrintFault}
use Rattle.commands.specs.Told.{AppendsBeginning}
use Rattle.commands.specs.Verified.{FailsAsked, FailsBehind, FailsFor}
use Rattle.commands.specs.Verified.FailsAsked.{in_asking, in_output}
use Rattle.commands.specs.Verified.FailsBehind.{in_memory, in_words}
use Rattle.commands.specs.Words.{FailsFirst}
use Rattle.commands.proofs.Asked.{behind_words}
use Rattle.commands.proofs.Exits.{exit_by}
use Rattle.commands.proofs.Refused.{or_memory}
use Rattle.commands.proofs.Writing.{no_line_of_same, where_err}
use Rattle.commands.proofs.evidence.run_verify.Goals as goal

pub returns-in_err-check_asked-clause-refused : goal.returns-in_err-check_asked-clause-refused
returns-in_err-check_asked-clause-refused g c =
    let sees = g.W.World.sees c.args.world.now in
    let rows = rows_of (found_of c.args.matches.now) in
    let checks = asked_words rows in
    let fails = FailsFor (first_of (codes "keep") rows) sees rows in
    exit_by (FailsAsked sees rows) _ c.from_residual.ensures.1 (in_asking (or_memory (FailsFirst checks) (FailsBehind checks fails) _ in_memory in_words c.in_err-check_asked.ensures))

pub returns-in_err-judgement-clause-refused : goal.returns-in_err-judgement-clause-refused
returns-in_err-judgement-clause-refused g c =
    let sees = g.W.World.sees c.args.world.now in
    let rows = rows_of (found_of c.args.matches.now) in
    exit_by (FailsAsked sees rows) _ c.from_residual-in_err-judgement.ensures.1
    (in_asking (behind_words (asked_words rows) (FailsFor (first_of (codes "keep") rows) sees rows) _ c.in_ok-check_asked.ensures c.in_err-judgement.ensures.refused))

pub returns-in_err-print_line-clause-begun : goal.returns-in_err-print_line-clause-begun
returns-in_err-print_line-clause-begun g c =
    let judgement = c.in_ok-judgement.judgement in
    where_err c.from_residual-in_err-print_line.result
    (inr (string_bytes judgement.line, judgement.ended, c.in_ok-judgement.ensures.answered, subst (AppendsBeginning (g.O.Write.contents c.args.out.now) (g.O.Write.contents c.print_line.new.out)) c.as_str.ensures.value c.in_err-print_line.ensures.begun))

pub returns-in_err-print_line-clause-refused : goal.returns-in_err-print_line-clause-refused
returns-in_err-print_line-clause-refused g c =
    let judgement = c.in_ok-judgement.judgement in
    exit_by (FailsAsked (g.W.World.sees c.args.world.now) (rows_of (found_of c.args.matches.now))) _ c.from_residual-in_err-print_line.ensures.1
    (in_output (string_bytes judgement.line) judgement.ended c.in_ok-judgement.ensures.answered c.in_err-print_line.ensures.fault)

pub returns-in_err-print_line-clause-unprinted : goal.returns-in_err-print_line-clause-unprinted
returns-in_err-print_line-clause-unprinted g c =
    exit_by (λ e. ¬ IsPrintFault e → g.O.Write.contents c.print_line.new.out ≡ g.O.Write.contents c.args.out.now) _ c.from_residual-in_err-print_line.ensures.1
    (λ not. absurd (not c.in_err-print_line.ensures.fault))

pub returns-in_err-check_asked-clause-unended : goal.returns-in_err-check_asked-clause-unended
returns-in_err-check_asked-clause-unended g c =
    where_err c.from_residual.result (no_line_of_same (g.O.Write.contents c.args.out.now) (g.O.Write.contents c.args.out.now) refl)

pub returns-in_err-judgement-clause-unended : goal.returns-in_err-judgement-clause-unended
returns-in_err-judgement-clause-unended g c =
    where_err c.from_residual-in_err-judgement.result (no_line_of_same (g.O.Write.contents c.args.out.now) (g.O.Write.contents c.args.out.now) refl)

pub returns-clause-answered : goal.returns-clause-answered
returns-clause-answered g c = record {
  line = string_bytes c.in_ok-judgement.judgement.line;
  is = c.in_ok-judgement.ensures.answered;
  printed = subst (Appends (g.O.Write.contents c.args.out.now) (g.O.Write.contents c.print_line.new.out)) c.as_str.ensures.value c.in_ok-print_line.ensures.printed;
}
