use Rattle.std.proofs.Common.{◌⊎◌, ◌∙◌, inl, inr, subst}
use Rattle.std.specs.Io.KnownBytes.{Appends}
use Rattle.clap.specs.Words.{found_of, rows_of}
use Rattle.commands.specs.Memory.{sees_in}
use Rattle.commands.specs.Refusal.{FailsToJudge, IsPrintFault}
use Rattle.commands.proofs.Exits.{exit_by}
use Rattle.commands.proofs.memory_world.print_asked.Goals as goal

pub returns-in_err-judgement-clause-refused : goal.returns-in_err-judgement-clause-refused
returns-in_err-judgement-clause-refused g c =
    exit_by (λ e. FailsToJudge (sees_in c.args.world.now) (rows_of (found_of c.args.matches.now)) e ⊎ IsPrintFault e) _ c.from_residual.ensures.1 (inl c.in_err-judgement.ensures.refused)

pub returns-in_err-print_line-clause-refused : goal.returns-in_err-print_line-clause-refused
returns-in_err-print_line-clause-refused g c =
    exit_by (λ e. FailsToJudge (sees_in c.args.world.now) (rows_of (found_of c.args.matches.now)) e ⊎ IsPrintFault e) _ c.from_residual-in_err-print_line.ensures.1 (inr c.in_err-print_line.ensures.fault)

pub returns-clause-printed : goal.returns-clause-printed
returns-clause-printed g c =
    let answered = c.in_ok-judgement.ensures.answered.answers in (
      record {
        verdict = answered.verdict;
        judged = answered.judged;
        printed = subst (Appends (g.O.Write.contents c.args.out.now) (g.O.Write.contents c.print_line.new.out)) (c.as_str.ensures.value ∙ answered.line_is) c.in_ok-print_line.ensures.printed;
      },
      answered.done,
    )
