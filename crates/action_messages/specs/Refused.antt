-- Why bytes are read as no result. The first of these decides: a record that can't be read or
-- breaks a rule of the shape; the first record at which a message that begins there is refused; two
-- outputs that overlap.
use Rattle.std.specs.Prelude.{◌≡◌, ◌⊎◌, ℕ, Bool, ◌==◌, List, ◌∷◌, ◌++◌, Result, Ok, Err}
use Rattle.std.specs.Prelude.{if◌then◌else◌}
use Rattle.std.specs.List.{list_any}
use Rattle.wire.specs.Record.{Record, Value}
use Rattle.wire.specs.Steps.{◌>>=◌}
use Rattle.canonical.specs.Fields.{element_of, elements_at}
use Rattle.canonical.specs.Told.{each}
use Rattle.messages.specs.declared.error.MessageError.{MessageError}
use Rattle.messages.specs.declared.error.MessageError.TheVariants.{SameName}
use Rattle.messages.specs.Tolerant.{in_occurrences, alone, any_digest}
use Rattle.messages.specs.Path.{AreApart}
use Rattle.action_messages.specs.ActionResult.{ActionResultValue}
use Rattle.action_messages.specs.Unordered.{any_output_file, any_output_directory}
use Rattle.action_messages.specs.Unordered.{any_output_symlink, known_fields, unordered}
use Rattle.action_messages.specs.Unordered.{output_paths}

-- ---- the messages in a result

-- an output, by its record
abbrev pub element_checked : {A : Type 0} → (List (List ℕ) → Result A MessageError)
    → Value → Result (Unit {0}) MessageError
element_checked says value = each (alone says) (element_of value) >>= λ _. Ok tt

-- the digest of all records of a number, unless one of them came before
abbrev pub digest_checked : Bool → ℕ → List Record → Result (Unit {0}) MessageError
digest_checked came number all =
    if came then Ok tt else (in_occurrences any_digest (elements_at number all) >>= λ _. Ok tt)

abbrev pub has_number : ℕ → List Record → Bool
has_number number rs = list_any (λ r. r.number == number) rs

-- The message that begins at a record, among all; whether records of the digests of stdout and
-- stderr came before.
unfoldable pub begun_at : List Record → Bool → Bool → Record
    → Result (Unit {0}) MessageError
begun_at all stdout_came stderr_came r =
    if r.number == 2 then element_checked any_output_file r.value
    else (if r.number == 3 then element_checked any_output_directory r.value
    else (if r.number == 6 then digest_checked stdout_came 6 all
    else (if r.number == 8 then digest_checked stderr_came 8 all
    else (if r.number == 12 then element_checked any_output_symlink r.value
    else Ok tt))))

-- the message that begins at a record after others
abbrev pub begun : List Record → List Record → Record → Result (Unit {0}) MessageError
begun all before r = begun_at all (has_number 6 before) (has_number 8 before) r

-- ---- the first refusal

-- at none of the records in front a message begins that is refused
abbrev pub NoneRefused : List Record → List Record → Type 0
NoneRefused all front =
    (before after : List Record) (r : Record) → front ≡ before ++ r ∷ after
    → begun all before r ≡ Ok tt

-- the refusal of the first record at which a message that begins there is refused
pub record IsFirstRefused (e : MessageError) (all : List Record) : Type 0 where
  pub front : List Record
  pub r : Record
  pub after : List Record
  pub parts : all ≡ front ++ r ∷ after
  pub none : NoneRefused all front
  pub refused : begun all front r ≡ Err e

-- a record, or a message in one, is refused
abbrev pub IsUnreadResult : MessageError → List ℕ → Type 0
IsUnreadResult e bytes =
    (known_fields bytes ≡ Err e)
    ⊎ ((rs : List Record) × (known_fields bytes ≡ Ok rs) × IsFirstRefused e rs)

-- all is said, and two outputs overlap
abbrev pub IsOverlapping : MessageError → List ℕ → Type 0
IsOverlapping e bytes =
    (u : ActionResultValue) × (unordered bytes ≡ Ok u)
    × (AreApart (output_paths u) → ⊥) × (e ≡ SameName)

abbrev pub IsRefusedResult : MessageError → List ℕ → Type 0
IsRefusedResult e bytes = IsUnreadResult e bytes ⊎ IsOverlapping e bytes
