use Rattle.std.proofs.Common.{◌≡◌, ◌∙◌, ap, refl, subst, true, List}
use Rattle.std.specs.Prelude.{Result}
use Rattle.std.proofs.lemmas.Result.{IfOk-weaker}
use Rattle.clap.proofs.OnLiterals.{clap_on_literals}
use Rattle.clap.specs.Simple.{App, HasMatchesOf, is_simple}
use Rattle.clap.specs.Words.{FailsBy, Text, fault_of, is_simple_and_free, subcommand_of, subcommand_rows_of}
use Rattle.clap.specs.declared.error.Error.{Error}
use Rattle.clap.specs.declared.parser.matches.ArgMatches.{ArgMatches}
use Rattle.command_lines.specs.CommandLine.{program_line}
use Rattle.command_lines.proofs.words.parse.Goals as goal

simple : is_simple program_line ≡ true
unfolding clap_on_literals
simple = refl

simple_and_free : is_simple_and_free program_line ≡ true
unfolding clap_on_literals
simple_and_free = refl

called_by : {a b : App} (words : List Text) (m : ArgMatches) → a ≡ b → is_simple b ≡ true → HasMatchesOf a words m → subcommand_rows_of m ≡ subcommand_of b words
called_by words m is fits h = (h (ap is_simple is ∙ fits)).1 ∙ ap (λ a. subcommand_of a words) is

fails_by : {a b : App} (words : List Text) (r : Result ArgMatches Error) → a ≡ b → is_simple_and_free b ≡ true → (is_simple_and_free a ≡ true → FailsBy (fault_of a words) r) → FailsBy (fault_of b words) r
fails_by words r is fits h = subst (λ a. FailsBy (fault_of a words) r) is (h (ap is_simple_and_free is ∙ fits))

pub returns-clause-called : goal.returns-clause-called
returns-clause-called c = IfOk-weaker c.try_get_matches_from.result _ _ (λ m h. called_by _ m c.in_ok-program.ensures simple h) c.try_get_matches_from.ensures.matches

pub returns-clause-fails : goal.returns-clause-fails
returns-clause-fails c = fails_by _ c.try_get_matches_from.result c.in_ok-program.ensures simple_and_free c.try_get_matches_from.ensures.kinds
