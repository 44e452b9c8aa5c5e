use Rattle.std.proofs.Common.{◌∙◌, ◌<◌, ◌≤◌, arith, map, string_bytes, subst, sym}
use Rattle.command_lines.specs.CommandLine.{options_of}
use Rattle.cli.specs.Built.{errors_asked}
use Rattle.commands.proofs.Silent.{words_serve_nothing}
use Rattle.cli.proofs.CommandLines.{ends_below, ends_done, ends_no, ends_quiet, few_statuses, no_answer, not_refused}
use Rattle.cli.proofs.running.run_words.Goals as goal

pub returns-in-Err-clause-status : goal.returns-in-Err-clause-status
returns-in-Err-clause-status g c = few_statuses c.status.result c.in-Err.error c.status.ensures

pub returns-in-Err-clause-done : goal.returns-in-Err-clause-done
returns-in-Err-clause-done g c = λ zero. absurd (no_answer c.status.result c.in-Err.error c.status.ensures (subst (λ n. n < 2) (sym zero) (omega arith)))

pub returns-in-Err-clause-no : goal.returns-in-Err-clause-no
returns-in-Err-clause-no g c = λ one. absurd (no_answer c.status.result c.in-Err.error c.status.ensures (subst (λ n. n < 2) (sym one) (omega arith)))

pub returns-in-Err-clause-quiet : goal.returns-in-Err-clause-quiet
returns-in-Err-clause-quiet g c = λ zero. absurd (no_answer c.status.result c.in-Err.error c.status.ensures (subst (λ n. n < 2) (sym zero) (omega arith)))

pub returns-in-Err-clause-refused : goal.returns-in-Err-clause-refused
returns-in-Err-clause-refused g c = λ many. record {
  error = c.in-Err.error;
  why = c.in-Err.ensures.refused;
  status_is = sym c.status.ensures;
  unprinted = c.in-Err.ensures.unprinted;
  told = c.tell.ensures;
}

pub returns-in-Err-clause-unprinted : goal.returns-in-Err-clause-unprinted
returns-in-Err-clause-unprinted g c = λ two. words_serve_nothing c.in-Err.error c.in-Err.ensures.unprinted (sym c.status.ensures ∙ two)

pub returns-in-Ok-clause-status : goal.returns-in-Ok-clause-status
returns-in-Ok-clause-status g c =
    ends_below c.tell_ended.result (g.E.Write.contents c.args.err.now) (g.E.Write.contents c.tell_ended.new.err) c.in-Ok.ended c.tell_ended.ensures

pub returns-in-Ok-clause-done : goal.returns-in-Ok-clause-done
returns-in-Ok-clause-done g c =
    ends_done c.tell_ended.result (g.E.Write.contents c.args.err.now) (g.E.Write.contents c.tell_ended.new.err) (g.W.World.sees c.args.world.now) (g.P.Workplace.below c.args.workplace (errors_asked (options_of (map string_bytes c.args.words.now)))) (map string_bytes c.args.words.now)
    (g.O.Write.contents c.args.out.now) (g.O.Write.contents c.run.new.out) c.in-Ok.ended c.in-Ok.ensures.ended c.tell_ended.ensures

pub returns-in-Ok-clause-no : goal.returns-in-Ok-clause-no
returns-in-Ok-clause-no g c =
    ends_no c.tell_ended.result (g.E.Write.contents c.args.err.now) (g.E.Write.contents c.tell_ended.new.err) (g.W.World.sees c.args.world.now) (g.P.Workplace.below c.args.workplace (errors_asked (options_of (map string_bytes c.args.words.now)))) (map string_bytes c.args.words.now)
    (g.O.Write.contents c.args.out.now) (g.O.Write.contents c.run.new.out) c.in-Ok.ended c.in-Ok.ensures.ended c.tell_ended.ensures

pub returns-in-Ok-clause-quiet : goal.returns-in-Ok-clause-quiet
returns-in-Ok-clause-quiet g c =
    ends_quiet c.tell_ended.result (g.E.Write.contents c.args.err.now) (g.E.Write.contents c.tell_ended.new.err) c.in-Ok.ended c.tell_ended.ensures

pub returns-in-Ok-clause-refused : goal.returns-in-Ok-clause-refused
returns-in-Ok-clause-refused g c =
    λ many. absurd (not_refused c.tell_ended.result (g.E.Write.contents c.args.err.now) (g.E.Write.contents c.tell_ended.new.err) c.in-Ok.ended c.tell_ended.ensures many)

pub returns-in-Ok-clause-unprinted : goal.returns-in-Ok-clause-unprinted
returns-in-Ok-clause-unprinted g c =
    λ two. absurd (not_refused c.tell_ended.result (g.E.Write.contents c.args.err.now) (g.E.Write.contents c.tell_ended.new.err) c.in-Ok.ended c.tell_ended.ensures
    (subst (λ n. 2 ≤ n) (sym two) (omega arith)))

pub returns-in-Ok-clause-begun : goal.returns-in-Ok-clause-begun
returns-in-Ok-clause-begun g c =
    λ many. absurd (not_refused c.tell_ended.result (g.E.Write.contents c.args.err.now) (g.E.Write.contents c.tell_ended.new.err) c.in-Ok.ended c.tell_ended.ensures many)
