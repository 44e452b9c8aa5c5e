use Rattle.std.proofs.Common.{◌≡◌, ◌∙◌, ◌∷◌, ◌++◌, [], List, Option, None, Some, ap, codes, subst, sym}
use Rattle.std.specs.Prelude.{Result, option_map}
use Rattle.std.specs.Result.{IsErrAnd}
use Rattle.clap.specs.Words.{Row, Text, first_of}
use Rattle.commands.specs.Evidence.{artifact_words, asked_words, has_bits_of_folder, has_one_claim, keep_words, words_of}
use Rattle.commands.specs.Faults.{OrMemory}
use Rattle.commands.specs.Words.{AllValid, FailsFirst, IsCheckedBy, may_name_folder}
use Rattle.commands.specs.declared.error.CommandError.{CommandError}
use Rattle.commands.proofs.Checking.{checks_behind, checks_exit}
use Rattle.commands.proofs.verify_words.check_asked.Goals as goal
use Rattle.commands.proofs.verify_words.check_asked.Goals.{in-Some+in_ok-check_words-in-Some, in-None+in_ok-check_wanted-in-None}

module _ (options : List Row) (named : Option Text) (is : first_of (codes "evidence") options ≡ named) {T : Type 0} (r : Result T CommandError) where
  -- the words of evidence, or without it, are at fault
  named_fail : (x : CommandError) → AllValid (artifact_words options) → OrMemory (FailsFirst (words_of named options)) x → IsErrAnd r (λ y. y ≡ x) → IsCheckedBy (asked_words options) r
  named_fail x artifact fails exit = subst (λ o. IsCheckedBy (artifact_words options ++ (words_of o options ++ keep_words options)) r) (sym is)
      (checks_exit (artifact_words options) (words_of named options) (keep_words options) r x artifact fails exit)

  -- they aren't, and the last words were checked
  named_right : AllValid (artifact_words options) → AllValid (words_of named options) → IsCheckedBy (keep_words options) r → IsCheckedBy (asked_words options) r
  named_right artifact valid kept = subst (λ o. IsCheckedBy (artifact_words options ++ (words_of o options ++ keep_words options)) r) (sym is)
      (checks_behind (artifact_words options) (words_of named options ++ keep_words options) r artifact (checks_behind (words_of named options) (keep_words options) r valid kept))

pub returns-in_err-check_artifact : goal.returns-in_err-check_artifact
returns-in_err-check_artifact g c =
    let options = g.M.Options.rows c.args.options.now in
    checks_exit [] (artifact_words options) (words_of (first_of (codes "evidence") options) options ++ keep_words options) _ _ tt c.in_err-check_artifact.ensures c.from_residual.ensures.1

pub returns-in_err-check_words-in-Some : goal.returns-in_err-check_words-in-Some
returns-in_err-check_words-in-Some g c =
    let options = g.M.Options.rows c.args.options.now in
    let is : first_of (codes "evidence") options ≡ Some c.in-Some.field-0.now = sym c.text.ensures ∙ ap (option_map (λ s. s.now)) c.in-Some.is in
    named_fail options (Some c.in-Some.field-0.now) is _ _ c.in_ok-check_artifact.ensures c.in_err-check_words-in-Some.ensures c.from_residual-in_err-check_words-in-Some.ensures.1

pub returns : goal.returns
returns g c =
    let options = g.M.Options.rows c.args.options.now in
    elim c.match-text.branch [
      | in-Some+in_ok-check_words-in-Some w ↦
          named_right options (Some w.in-Some.field-0.now) (sym c.text.ensures ∙ ap (option_map (λ s. s.now)) w.in-Some.is) c.check_keep.result c.in_ok-check_artifact.ensures w.in_ok-check_words-in-Some.ensures c.check_keep.ensures
      | in-None+in_ok-check_wanted-in-None w ↦
          named_right options None (sym c.text.ensures ∙ ap (option_map (λ s. s.now)) w.in-None.is) c.check_keep.result c.in_ok-check_artifact.ensures w.in_ok-check_wanted-in-None.ensures c.check_keep.ensures
    ]
