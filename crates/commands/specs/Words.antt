-- What the words of a command have to be, in their order, and the first of them that isn't so.
use Rattle.std.specs.Prelude.{◌≡◌, ◌≢◌, ◌⊎◌, ℕ, ◌≤◌, true, List, [], ◌∷◌, ◌++◌, Result, Ok, Err}
use Rattle.std.specs.Prelude.{IsSome, IsTrue, codes, map, string_bytes}
use Rattle.clap.specs.Words.{Row, first_of}
use Rattle.command_lines.specs.CommandLine.{option_text}
use Rattle.http_core.specs.Host.{is_host}
use Rattle.http_core.specs.Prefix.{is_prefix}
use Rattle.commands.specs.ByteCounts.{SpellsBytesUpTo}
use Rattle.commands.specs.Faults.{IsInvalidValue, OrMemory}
use Rattle.commands.specs.Options.{IsAddress, IsNumber, decimal_number, greatest_number}
use Rattle.commands.specs.declared.error.CommandError.{CommandError}
use Rattle.commands.specs.declared.error.CommandError.TheVariants.{Number, Usage}

-- what has to be so, and the error where it isn't
pub record Check : Type 1 where
  pub valid : Type 0
  pub fault : CommandError → Type 0

abbrev pub FailsCheck : Check → CommandError → Type 0
FailsCheck check e = ¬ check.valid × check.fault e

abbrev pub AllValid : List Check → Type 0
AllValid [] = Unit {0}
AllValid (check ∷ checks) = check.valid × AllValid checks

-- the first that isn't so
abbrev pub FailsFirst : List Check → CommandError → Type 0
FailsFirst [] e = ⊥
FailsFirst (check ∷ checks) e = FailsCheck check e ⊎ (check.valid × FailsFirst checks e)

-- what was read is so; else the error is for the first that isn't, or memory ran out
abbrev pub IsCheckedBy : {T : Type 0} → List Check → Result T CommandError → Type 0
IsCheckedBy checks (Ok x) = AllValid checks
IsCheckedBy checks (Err e) = OrMemory (FailsFirst checks) e

-- ---- the texts of options

-- decimal digits of a number that is no greater
abbrev pub IsUpTo : ℕ → List ℕ → Type 0
IsUpTo greatest text = IsNumber text × (decimal_number text ≤ greatest)

abbrev pub IsNumberFault : List ℕ → ℕ → List ℕ → CommandError → Type 0
IsNumberFault option greatest text (Number o g t) =
    (o.now ≡ option) × (g ≡ greatest) × (string_bytes t ≡ text)
IsNumberFault option greatest text _ = ⊥

-- the text of an option is a number that is no greater
abbrev pub has_number_up_to : List Row → List ℕ → ℕ → Check
has_number_up_to options option greatest = record {
  valid = IsUpTo greatest (option_text options option);
  fault = IsNumberFault option greatest (option_text options option);
}

-- the text of an option is what is expected
abbrev pub is_expected : List Row → List ℕ → List ℕ → (List ℕ → Type 0) → Check
is_expected options option expected IsRight = record {
  valid = IsRight (option_text options option);
  fault = IsInvalidValue option expected (option_text options option);
}

abbrev pub IsSaid : List Row → List ℕ → Type 0
IsSaid options option = IsSome (first_of option options)

-- the check, where the option is said; without it all is valid
abbrev pub where_said : List Row → List ℕ → Check → Check
where_said options option check =
    record { valid = IsSaid options option → check.valid; fault = check.fault }

-- the text of an option, where it is said, is a number that is no greater
abbrev pub may_have_number_up_to : List Row → List ℕ → ℕ → Check
may_have_number_up_to options option greatest =
    where_said options option (has_number_up_to options option greatest)

-- ---- a server

abbrev pub names_server : List Row → Check
names_server options = is_expected options (codes "server") (codes "HOST:PORT")
    (λ text. IsAddress text × IsTrue (is_host text))

abbrev pub has_timeout : List Row → Check
has_timeout options = where_said options (codes "timeout")
    (is_expected options (codes "timeout") (codes "a number of seconds") IsNumber)

abbrev pub has_prefix : List Row → Check
has_prefix options = is_expected options (codes "prefix") (codes "a path like /team/main")
    (λ text. is_prefix text ≡ true)

abbrev pub server_words : List Row → List Check
server_words options = names_server options ∷ has_timeout options ∷ has_prefix options ∷ []

-- ---- where a recorded build is

abbrev pub IsUsageError : List ℕ → CommandError → Type 0
IsUsageError words (Usage text) = string_bytes text ≡ words
IsUsageError words _ = ⊥

-- a check of whether this holds, and the words that tell where it doesn't
abbrev pub else_told : Type 0 → List ℕ → Check
else_told valid words = record { valid = valid; fault = IsUsageError words }

-- a store folder, or a server, and not both
abbrev pub names_place : List Row → Check
names_place options = else_told (IsSaid options (codes "store") ⊎ IsSaid options (codes "server"))
    (codes "one of --store and --server is required")

abbrev pub names_one_place : List Row → Check
names_one_place options =
    else_told (¬ (IsSaid options (codes "store") × IsSaid options (codes "server")))
    (codes "--store cannot be used with --server")

abbrev pub goes_with_server : List Row → List ℕ → Check
goes_with_server options option =
    else_told (IsSaid options (codes "store") → ¬ IsSaid options option)
    (codes "--" ++ (option ++ codes " cannot be used with --store"))

-- a folder for entries, where the option is said: its path isn't empty
abbrev pub may_name_folder : List Row → List ℕ → Check
may_name_folder options option = where_said options option
    (is_expected options option (codes "a folder") (λ text. text ≢ []))

abbrev pub place_words : List Row → List Check
place_words options =
    names_place options ∷ names_one_place options
    ∷ goes_with_server options (codes "prefix") ∷ goes_with_server options (codes "timeout")
    ∷ goes_with_server options (codes "results") ∷ may_name_folder options (codes "store")
    ∷ may_name_folder options (codes "results")
    ∷ map (where_said options (codes "server")) (server_words options)

-- ---- what is served

abbrev pub listens_at : List Row → Check
listens_at options = is_expected options (codes "listen") (codes "HOST:PORT") IsAddress

abbrev pub is_at_once : List Row → List Check
is_at_once options =
    may_have_number_up_to options (codes "at-once") 1024
    ∷ where_said options (codes "at-once") (is_expected options (codes "at-once")
    (codes "a number from 1 to 1024") (λ text. decimal_number text ≢ 0)) ∷ []

-- a limit on what a store holds, in bytes
abbrev pub is_limit : List Row → List ℕ → Check
is_limit options option = is_expected options option
    (codes "a number of bytes up to 9223372036854775807, such as 1048576, 512M or 8G")
    (SpellsBytesUpTo 9223372036854775807)

abbrev pub serve_words : List Row → List Check
serve_words options =
    listens_at options
    ∷ may_have_number_up_to options (codes "connections") greatest_number
    ∷ is_limit options (codes "limit") ∷ is_limit options (codes "result-limit")
    ∷ may_have_number_up_to options (codes "idle") 9223372036854775807
    ∷ (is_at_once options ++ has_prefix options ∷ [])
