use Rattle.std.proofs.Common.{◌≡◌, ◌∙◌, ◌+◌, List, ℕ, Bor, Option, Some, ap, option_map, sym, subst}
use Rattle.std.specs.Prelude.{slice_get}
use Rattle.commands.specs.Hints.{IsHint, TellsOfForm, TellsOfLine, lines_of, words_of}
use Rattle.commands.proofs.Hints.{at_line, none_by, of_form}
use Rattle.commands.proofs.hint.Hint.of.Goals as goal

pub returns-in_ok-word_at-in-LaterStep : goal.returns-in_ok-word_at-in-LaterStep
returns-in_ok-word_at-in-LaterStep c =
    let text = c.args.text.now in
    let line = c.in_ok-line.line.now in
    let before = c.saturating_sub-before.result in
    let now : Option (Bor (List ℕ)) → Option (List ℕ) = λ o. option_map (λ (l : Bor (List ℕ)). l.now) o in
    let there : slice_get (lines_of text) before ≡ Some line = sym c.line_at.ensures ∙ ap now c.in_ok-line.was in
    let word : slice_get (words_of line) 3 ≡ Some c.in_ok-word_at-in-LaterStep.field-0.now = sym c.word_at.ensures ∙ ap now c.in_ok-word_at-in-LaterStep.was in
    at_line text c.args.error.now before line (Some c.hint_of_step.result) c.saturating_sub-before.ensures there
    (subst (λ f. TellsOfLine f (lines_of text) before line c.hint_of_step.result) (sym c.in-LaterStep.is) (c.in_ok-word_at-in-LaterStep.field-0.now, word, c.hint_of_step.ensures))

pub returns-in-BadHeader : goal.returns-in-BadHeader
returns-in-BadHeader c =
    let text = c.args.text.now in
    let line = c.in_ok-line.line.now in
    let before = c.saturating_sub-before.result in
    let now : Option (Bor (List ℕ)) → Option (List ℕ) = λ o. option_map (λ (l : Bor (List ℕ)). l.now) o in
    let there : slice_get (lines_of text) before ≡ Some line = sym c.line_at.ensures ∙ ap now c.in_ok-line.was in
    let last = none_by c.line_at-in-BadHeader.result (slice_get (lines_of text) (before + 1)) c.is_none.result c.line_at-in-BadHeader.ensures c.is_none.ensures in
    at_line text c.args.error.now before line c.hint_of_form.result c.saturating_sub-before.ensures there
    (of_form c.args.error.now.fault (lines_of text) before line c.hint_of_form.result c.in-BadHeader.is
    (subst (λ is_last. IsHint (TellsOfForm line is_last) c.hint_of_form.result) last c.hint_of_form.ensures))
