-- The program's command line, and what its words ask for.
use Rattle.std.specs.Prelude.{◌≡◌, true, List, [], ◌∷◌, ◌++◌, None, Some, codes, option_map}
use Rattle.std.specs.Prelude.{unwrap_or}
use Rattle.std.specs.List.{AllByRecursion}
use Rattle.std.specs.Option.{option_map_or}
use Rattle.clap.specs.Simple.{on_top}
use Rattle.clap.specs.Words.{App, Row, Rule, Text, fault_of, first_of, new_app, new_rule}
use Rattle.clap.specs.Words.{subcommand_of, with_rule, with_subcommand}
use Rattle.clap.specs.declared.builder.action.ArgAction.TheVariants.{Set, SetTrue}
use Rattle.clap.specs.declared.error.kind.ErrorKind.{ErrorKind}

-- an option `--NAME VALUE`, and one that a command cannot do without
abbrev pub optional_option : Text → Rule
optional_option name =
    record (new_rule name) { long = Some name; value_names = 1; action = Some Set }

abbrev pub required_option : Text → Rule
required_option name =
    record (new_rule name) { long = Some name; value_names = 1; action = Some Set; required = true }

-- a word on its own, and one that a command cannot do without
abbrev pub optional_word : Text → Rule
optional_word name = record (new_rule name) { value_names = 1; action = Some Set }

abbrev pub required_word : Text → Rule
required_word name = record (new_rule name) { value_names = 1; action = Some Set; required = true }

-- a flag `--NAME`, with no text
abbrev pub flag : Text → Rule
flag name = record (new_rule name) { long = Some name; action = Some SetTrue }

-- the command with one more of these
abbrev pub may_have : App → Text → App
may_have app name = with_rule app (optional_option name)

abbrev pub must_have : App → Text → App
must_have app name = with_rule app (required_option name)

abbrev pub may_take_word : App → Text → App
may_take_word app name = with_rule app (optional_word name)

abbrev pub takes_word : App → Text → App
takes_word app name = with_rule app (required_word name)

abbrev pub has_flag : App → Text → App
has_flag app name = with_rule app (flag name)

-- a command that is a client of a server
abbrev pub client_line : Text → App
client_line name =
    may_have (may_have (must_have (new_app name) (codes "server")) (codes "prefix"))
    (codes "timeout")

-- `verify` with the options that say where the recorded build is, and with all; which of them go
-- together is told by the command
abbrev pub placed_line : App
placed_line =
    may_have (may_have
    (may_have (may_have (may_have (new_app (codes "verify")) (codes "server")) (codes "store"))
    (codes "results")) (codes "prefix")) (codes "timeout")

abbrev pub verify_line : App
verify_line =
    may_take_word (has_flag (may_have (may_have (may_have (may_have (may_have (may_have placed_line
    (codes "sources")) (codes "plan")) (codes "record")) (codes "claim")) (codes "artifact"))
    (codes "keep")) (codes "no-bits")) (codes "evidence")

-- `serve` and its options
abbrev pub serve_line : App
serve_line =
    may_have (may_have (may_have (may_have
    (must_have (must_have (must_have (new_app (codes "serve"))
    (codes "listen")) (codes "limit")) (codes "result-limit"))
    (codes "prefix")) (codes "idle")) (codes "at-once")) (codes "connections")

-- `put` with a file or a folder, and `get` with a digest and perhaps a folder
abbrev pub put_line : App
put_line = takes_word (client_line (codes "put")) (codes "path")

abbrev pub get_line : App
get_line = may_have (takes_word (client_line (codes "get")) (codes "digest")) (codes "into")

-- `digest` with a file or a folder
abbrev pub digest_line : App
digest_line = takes_word (has_flag (new_app (codes "digest")) (codes "no-bits")) (codes "path")

-- `compare` with two folders or archives
abbrev pub compare_line : App
compare_line =
    takes_word (takes_word (new_app (codes "compare")) (codes "evidence")) (codes "other")

-- `build` and its options
abbrev pub build_line : App
build_line =
    has_flag (may_have
    (must_have (must_have (must_have (must_have (client_line (codes "build"))
    (codes "sources")) (codes "plan")) (codes "record")) (codes "work"))
    (codes "jobs")) (codes "verbose")

-- the program: it has a version, and wants a command as its first word
abbrev pub program_line : App
program_line =
    with_subcommand (with_subcommand (with_subcommand (with_subcommand (with_subcommand
    (with_subcommand (with_subcommand (on_top (λ s.
    record s {
      has_version = true;
      no_binary_name = true;
      subcommand_required = true;
      disable_help_subcommand = true;
    }) (new_app (codes "buildcache")))
    serve_line.top) verify_line.top) put_line.top) get_line.top) digest_line.top) build_line.top)
    compare_line.top

-- ---- what the words ask for

-- the words are not at fault, and call this command
pub record CallsCommand (words : List Text) (command : Text) : Type 0 where
  pub faultless : fault_of program_line words ≡ []
  pub command_is : option_map (λ p. p.0) (subcommand_of program_line words) ≡ Some command

-- what the words say of each option of the command that they call
abbrev pub options_of : List Text → List Row
options_of words = option_map_or (λ p. p.1) (subcommand_of program_line words) []

-- the text that stands for an option
abbrev pub option_text : List Row → Text → Text
option_text options name = unwrap_or (first_of name options) []

-- the flag is given
abbrev pub IsSet : List Row → Text → Type 0
IsSet options name = first_of name options ≡ Some (codes "true")

-- The words are at fault with this alone, or ask for it, as for help, in place of a command's work.
abbrev pub IsAtFault : List Text → ErrorKind → Type 0
IsAtFault words kind = fault_of program_line words ≡ kind ∷ []

-- the words, after the name of any command, are at fault with this kind
abbrev pub EachIsAtFault : List Text → ErrorKind → Type 0
EachIsAtFault words kind =
    AllByRecursion (λ (line : App). IsAtFault (line.top.name ∷ words) kind)
    (serve_line ∷ verify_line ∷ put_line ∷ get_line ∷ digest_line ∷ build_line ∷ compare_line ∷ [])

-- ---- examples

-- `verify`, with each option and its text in one word
abbrev pub verify_words : Text → Text → Text → Text → Text → List Text
verify_words store sources plan noted claim =
    codes "verify" ∷ (codes "--store=" ++ store) ∷ (codes "--sources=" ++ sources) ∷
    (codes "--plan=" ++ plan) ∷ (codes "--record=" ++ noted) ∷ (codes "--claim=" ++ claim) ∷ []

-- the words call `verify` with these texts for its options, and name no evidence
pub record AsksVerify (words : List Text) (store sources plan noted claim : Text) : Type 0 where
  pub called : CallsCommand words (codes "verify")
  pub plain : first_of (codes "evidence") (options_of words) ≡ None
  pub store_is : option_text (options_of words) (codes "store") ≡ store
  pub sources_are : option_text (options_of words) (codes "sources") ≡ sources
  pub plan_is : option_text (options_of words) (codes "plan") ≡ plan
  pub noted_is : option_text (options_of words) (codes "record") ≡ noted
  pub claim_is : option_text (options_of words) (codes "claim") ≡ claim
