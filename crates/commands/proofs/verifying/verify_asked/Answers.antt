use Rattle.std.proofs.Common.{◌≡◌, ◌∙◌, ap, refl, subst, sym}
use Rattle.std.specs.Prelude.{◌↔◌, IsTrue, option_map}
use Rattle.verifier.specs.Verdict.{IsYes}
use Rattle.commands.specs.Ended.{is_done}
use Rattle.commands.specs.FolderRead.{value_of_read}
use Rattle.commands.specs.Noted.{NotesOn}
use Rattle.commands.specs.Printed.{NotesFolder, named_folder, without_mismatch}
use Rattle.commands.specs.Refusal.{FailsToJudge}
use Rattle.commands.specs.Refusal.FailsToJudge.{in_memory}
use Rattle.commands.proofs.Exits.{exit_by}
use Rattle.commands.proofs.Notes.{done_with, noted_with, notes_on}
use Rattle.commands.proofs.verifying.verify_asked.Goals as goal

pub returns-in_err-folder-clause-refused : goal.returns-in_err-folder-clause-refused
returns-in_err-folder-clause-refused g c =
    exit_by (FailsToJudge (g.W.World.sees c.args.world.now) (g.M.Options.rows c.args.options.now)) _ c.from_residual.ensures.1 (in_memory refl)

pub returns-in_err-answer-clause-refused : goal.returns-in_err-answer-clause-refused
returns-in_err-answer-clause-refused g c =
    exit_by (FailsToJudge (g.W.World.sees c.args.world.now) (g.M.Options.rows c.args.options.now)) _ c.from_residual-in_err-answer.ensures.1 c.in_err-answer.ensures.refused

pub returns-in_err-note-clause-refused : goal.returns-in_err-note-clause-refused
returns-in_err-note-clause-refused g c =
    exit_by (FailsToJudge (g.W.World.sees c.args.world.now) (g.M.Options.rows c.args.options.now)) _ c.from_residual-in_err-note.ensures.1 (in_memory refl)

pub returns-in_err-line-clause-refused : goal.returns-in_err-line-clause-refused
returns-in_err-line-clause-refused g c =
    exit_by (FailsToJudge (g.W.World.sees c.args.world.now) (g.M.Options.rows c.args.options.now)) _ c.from_residual-in_err-line.ensures.1 (in_memory refl)

pub returns-clause-answered : goal.returns-clause-answered
returns-clause-answered g c =
    let sees = g.W.World.sees c.args.world.now in
    let verdict = c.in_ok-answer.answer.verdict in
    let made = c.in_ok-answer.answer.made in
    let note = c.in_ok-note.note in
    let read = option_map value_of_read c.args.read.now in
    let ended = c.ended_of-ended.result in
    let noted = subst (λ o. NotesFolder sees o ended) c.in_ok-folder.ensures c.ended_of-ended.ensures.noted in
    let store = named_folder (g.M.Options.rows c.args.options.now) in
    let done : is_done c.with_note-ended.result ≡ c.is_yes.result = ap is_done c.with_note-ended.ensures ∙ done_with ended note ∙ c.ended_of-ended.ensures.done in
    record {
      answers = record {
        verdict = verdict;
        judged = c.in_ok-answer.ensures.judged.judges;
        line_is = c.in_ok-line.ensures.value;
        done = subst (λ b. IsTrue b ↔ IsYes verdict) (sym done) c.is_yes.ensures;
        noted = subst (λ e. NotesFolder sees store (without_mismatch e)) (sym c.with_note-ended.ensures) (noted_with sees store made read ended note c.in_ok-note.ensures noted);
      };
      made = made;
      is_made = c.in_ok-answer.ensures.judged.made;
      differs = subst (NotesOn made read) (sym c.with_note-ended.ensures) (notes_on sees store made read ended note c.in_ok-note.ensures noted);
    }
