use Rattle.std.proofs.Common.{◌≡◌, inr, refl, string_bytes, subst}
use Rattle.std.specs.Io.KnownBytes.{Appends}
use Rattle.clap.specs.Words.{found_of, rows_of}
use Rattle.commands.specs.Compared.{FailsCompare}
use Rattle.commands.specs.Compared.FailsCompare.{in_memory, in_output}
use Rattle.commands.specs.Refusal.{IsPrintFault}
use Rattle.commands.specs.Told.{AppendsBeginning}
use Rattle.commands.proofs.Exits.{exit_by}
use Rattle.commands.proofs.OfTwo.{first_fails, has_steps, second_fails, tells_of}
use Rattle.commands.proofs.Writing.{no_line_of_same, where_err}
use Rattle.commands.proofs.comparing.run_compare.Goals as goal

pub returns-in_err-one-clause-unended : goal.returns-in_err-one-clause-unended
returns-in_err-one-clause-unended g c = where_err c.from_residual-in_err-one.result (no_line_of_same (g.O.Write.contents c.args.out.now) (g.O.Write.contents c.args.out.now) refl)

pub returns-in_err-one-clause-refused : goal.returns-in_err-one-clause-refused
returns-in_err-one-clause-refused g c =
    let sees = g.W.World.sees c.args.world.now in
    let rows = rows_of (found_of c.args.matches.now) in
    exit_by (FailsCompare sees rows) _ c.from_residual-in_err-one.ensures.1
    (first_fails sees rows (c.in_ok-check_evidence.ensures.0, (c.in_ok-check_evidence-2.ensures.0, tt)) c.text_for.result.now _ c.text_for.ensures refl _ c.in_err-one.ensures.refused)

pub returns-in_err-other-clause-refused : goal.returns-in_err-other-clause-refused
returns-in_err-other-clause-refused g c =
    let sees = g.W.World.sees c.args.world.now in
    let rows = rows_of (found_of c.args.matches.now) in
    exit_by (FailsCompare sees rows) _ c.from_residual-in_err-other.ensures.1
    (second_fails sees rows (c.in_ok-check_evidence.ensures.0, (c.in_ok-check_evidence-2.ensures.0, tt)) c.text_for.result.now c.text_for-2.result.now c.text_for.ensures c.text_for-2.ensures c.in_ok-one.one _ c.in_ok-one.ensures.recalled c.in_err-other.ensures.refused)

pub line_of_both-requires-clause-one : goal.line_of_both-requires-clause-one
line_of_both-requires-clause-one g c = has_steps (g.W.World.sees c.args.world.now) c.text_for.result.now c.in_ok-one.one c.in_ok-one.ensures.recalled

pub line_of_both-requires-clause-other : goal.line_of_both-requires-clause-other
line_of_both-requires-clause-other g c = has_steps (g.W.World.sees c.args.world.now) c.text_for-2.result.now c.in_ok-other.other c.in_ok-other.ensures.recalled

pub returns-in_err-line-clause-unended : goal.returns-in_err-line-clause-unended
returns-in_err-line-clause-unended g c = where_err c.from_residual-in_err-line.result (no_line_of_same (g.O.Write.contents c.args.out.now) (g.O.Write.contents c.args.out.now) refl)

pub returns-in_err-line-clause-refused : goal.returns-in_err-line-clause-refused
returns-in_err-line-clause-refused g c =
    let sees = g.W.World.sees c.args.world.now in
    let rows = rows_of (found_of c.args.matches.now) in
    exit_by (FailsCompare sees rows) _ c.from_residual-in_err-line.ensures.1 (in_memory refl)

pub returns-in_err-print_line-clause-unprinted : goal.returns-in_err-print_line-clause-unprinted
returns-in_err-print_line-clause-unprinted g c =
    exit_by (λ e. ¬ IsPrintFault e → g.O.Write.contents c.print_line.new.out ≡ g.O.Write.contents c.args.out.now) _ c.from_residual-in_err-print_line.ensures.1
    (λ not. absurd (not c.in_err-print_line.ensures.fault))

pub returns-in_err-print_line-clause-begun : goal.returns-in_err-print_line-clause-begun
returns-in_err-print_line-clause-begun g c =
    let sees = g.W.World.sees c.args.world.now in
    let rows = rows_of (found_of c.args.matches.now) in
    let tells = tells_of sees rows (c.in_ok-check_evidence.ensures.0, (c.in_ok-check_evidence-2.ensures.0, tt)) c.text_for.result.now c.text_for-2.result.now c.text_for.ensures c.text_for-2.ensures c.in_ok-one.one c.in_ok-other.other (string_bytes c.in_ok-line.line) c.in_ok-line.ended c.in_ok-one.ensures.recalled c.in_ok-other.ensures.recalled c.in_ok-line.ensures.told in
    where_err c.from_residual-in_err-print_line.result (inr (string_bytes c.in_ok-line.line, c.in_ok-line.ended, tells, subst (AppendsBeginning (g.O.Write.contents c.args.out.now) (g.O.Write.contents c.print_line.new.out)) c.as_str.ensures.value c.in_err-print_line.ensures.begun))

pub returns-in_err-print_line-clause-unended : goal.returns-in_err-print_line-clause-unended
returns-in_err-print_line-clause-unended g c = where_err c.from_residual-in_err-print_line.result c.in_err-print_line.ensures.unended

pub returns-in_err-print_line-clause-refused : goal.returns-in_err-print_line-clause-refused
returns-in_err-print_line-clause-refused g c =
    let sees = g.W.World.sees c.args.world.now in
    let rows = rows_of (found_of c.args.matches.now) in
    let tells = tells_of sees rows (c.in_ok-check_evidence.ensures.0, (c.in_ok-check_evidence-2.ensures.0, tt)) c.text_for.result.now c.text_for-2.result.now c.text_for.ensures c.text_for-2.ensures c.in_ok-one.one c.in_ok-other.other (string_bytes c.in_ok-line.line) c.in_ok-line.ended c.in_ok-one.ensures.recalled c.in_ok-other.ensures.recalled c.in_ok-line.ensures.told in
    exit_by (FailsCompare sees rows) _ c.from_residual-in_err-print_line.ensures.1 (in_output (string_bytes c.in_ok-line.line) c.in_ok-line.ended tells c.in_err-print_line.ensures.fault)

pub returns-clause-answered : goal.returns-clause-answered
returns-clause-answered g c =
    let sees = g.W.World.sees c.args.world.now in
    let rows = rows_of (found_of c.args.matches.now) in
    let tells = tells_of sees rows (c.in_ok-check_evidence.ensures.0, (c.in_ok-check_evidence-2.ensures.0, tt)) c.text_for.result.now c.text_for-2.result.now c.text_for.ensures c.text_for-2.ensures c.in_ok-one.one c.in_ok-other.other (string_bytes c.in_ok-line.line) c.in_ok-line.ended c.in_ok-one.ensures.recalled c.in_ok-other.ensures.recalled c.in_ok-line.ensures.told in
    (string_bytes c.in_ok-line.line, tells, subst (Appends (g.O.Write.contents c.args.out.now) (g.O.Write.contents c.print_line.new.out)) c.as_str.ensures.value c.in_ok-print_line.ensures.printed)
