-- The hint that stands beside the fault of a line of a text, and when there is none.
use Rattle.std.specs.Prelude.{◌≡◌, ◌≢◌, ◌⊎◌, ℕ, zero, suc, ◌+◌, ◌-◌, ◌≤◌, ◌&&◌, ◌||◌}
use Rattle.std.specs.Prelude.{◌==◌, Bool, true, false, List, [], ◌∷◌, ◌++◌, Option, Some, None}
use Rattle.std.specs.Prelude.{codes, drop}
use Rattle.std.specs.Prelude.{if◌then◌else◌, is_none, length, nat_le, slice_get}
use Rattle.std.specs.List.{Contains, list_all, slice_split}
use Rattle.plan.specs.Escape.{is_plain}
use Rattle.plan.specs.Line.{Begins}
use Rattle.plan.specs.declared.error.Fault.{Fault}
use Rattle.plan.specs.declared.error.Fault.TheVariants as faults
use Rattle.plan.specs.declared.error.PlanError.{PlanError}
use Rattle.commands.specs.declared.hint.Hint.{Hint}
use Rattle.commands.specs.declared.hint.Hint.TheVariants.{BlankAtEnd, CarriageReturn, LaterStep}
use Rattle.commands.specs.declared.hint.Hint.TheVariants.{NoLine, NoNewline, NoStep, NotEscaped}
use Rattle.commands.specs.declared.hint.Hint.TheVariants.{OwnStep}

-- a text's lines, as its newlines (10) cut it, and a line's words, as its spaces (32) do
abbrev pub lines_of : List ℕ → List (List ℕ)
lines_of text = slice_split (λ b. b == 10) text

abbrev pub words_of : List ℕ → List (List ℕ)
words_of line = slice_split (λ b. b == 32) line

-- ---- the step that a line reads

-- the text begins with this and a space
abbrev pub HasFirst : List ℕ → List ℕ → Type 0
HasFirst words text = (rest : List ℕ) × (text ≡ words ++ 32 ∷ rest)

-- one of the lines is `step NAME ..`
abbrev pub HaveStep : List ℕ → List (List ℕ) → Type 0
HaveStep name lines =
    (line : List ℕ) × Contains lines line × HasFirst (codes "step " ++ name) line

-- what a hint says of the step of this name: a line from the one at fault on has it, or else one of
-- all, or none
abbrev pub TellsOfStep : List ℕ → List (List ℕ) → List (List ℕ) → Hint → Type 0
TellsOfStep name all later LaterStep = HaveStep name later
TellsOfStep name all later OwnStep = ¬ HaveStep name later × HaveStep name all
TellsOfStep name all later NoStep = ¬ HaveStep name all
TellsOfStep name all later _ = ⊥

-- ---- the form of a line

abbrev pub is_digit : ℕ → Bool
is_digit b = (nat_le 48 b && nat_le b 57) || (nat_le 65 b && nat_le b 70)

-- The bytes of an escaped path: each is plain, or `%` (37) with two digits behind it. So many
-- digits are to come first.
abbrev pub is_escaped : ℕ → List ℕ → Bool
is_escaped zero [] = true
is_escaped (suc n) [] = false
is_escaped zero (b ∷ rest) =
    if b == 37 then is_escaped 2 rest else is_plain b && is_escaped zero rest
is_escaped (suc n) (b ∷ rest) = is_digit b && is_escaped n rest

-- no more words than `in TARGET src PATH` has, or `in TARGET out STEP PATH`
abbrev pub AreFew : List (List ℕ) → Type 0
AreFew words =
    (length words ≤ 4) ⊎ ((length words ≡ 5) × (slice_get words 2 ≡ Some (codes "out")))

-- words that by their number and their bytes may be those of a line `in`
abbrev pub MayBePaths : List (List ℕ) → Type 0
MayBePaths words = AreFew words × (list_all (is_escaped 0) words ≡ true)

-- a line's last byte
abbrev pub last_byte : List ℕ → Option ℕ
last_byte line = slice_get line (length line - 1)

-- the line ends neither with a carriage return (13) nor with a blank (32, 9)
pub record HasPlainEnd (line : List ℕ) : Type 0 where
  pub no_return : last_byte line ≢ Some 13
  pub no_space : last_byte line ≢ Some 32
  pub no_tab : last_byte line ≢ Some 9

-- what is wrong with a line that has no valid form, where it is the last or isn't
abbrev pub TellsOfForm : List ℕ → Bool → Hint → Type 0
TellsOfForm line is_last CarriageReturn = last_byte line ≡ Some 13
TellsOfForm line is_last BlankAtEnd = (last_byte line ≡ Some 32) ⊎ (last_byte line ≡ Some 9)
TellsOfForm line is_last NoNewline = HasPlainEnd line × (line ≢ []) × (is_last ≡ true)
TellsOfForm line is_last NoLine = (line ≡ []) × (is_last ≡ true)
TellsOfForm line is_last NotEscaped =
    HasPlainEnd line × Begins (codes "in ") line × (is_last ≡ false)
    × ¬ MayBePaths (words_of line)
TellsOfForm line is_last _ = ⊥

-- ---- the hint

-- what a hint says of a line of a text, before which so many stand
abbrev pub TellsOfLine : Fault → List (List ℕ) → ℕ → List ℕ → Hint → Type 0
TellsOfLine faults.LaterStep lines before line hint = (name : List ℕ)
    × (slice_get (words_of line) 3 ≡ Some name) × TellsOfStep name lines (drop before lines) hint
TellsOfLine faults.BadHeader lines before line hint =
    TellsOfForm line (is_none (slice_get lines (before + 1))) hint
TellsOfLine faults.BadLine lines before line hint =
    TellsOfForm line (is_none (slice_get lines (before + 1))) hint
TellsOfLine _ lines before line hint = ⊥

-- what a hint says of a text at the line that the error names
pub record TellsOfFault (text : List ℕ) (error : PlanError) (hint : Hint) : Type 0 where
  pub line : List ℕ
  pub is : slice_get (lines_of text) (error.line - 1) ≡ Some line
  pub tells : TellsOfLine error.fault (lines_of text) (error.line - 1) line hint

-- the hint is one that tells this, or there is none where none does
abbrev pub IsHint : (Hint → Type 0) → Option Hint → Type 0
IsHint tells (Some hint) = tells hint
IsHint tells None = (hint : Hint) → ¬ tells hint

-- ---- words that `%` escapes

-- plain bytes, and `%` (37) with two digits behind it, one after another
pub data IsEscapedText : List ℕ → Type 0 where
  at_end : IsEscapedText []
  plain : (b : ℕ) (rest : List ℕ) → is_plain b ≡ true → IsEscapedText rest
      → IsEscapedText (b ∷ rest)
  escape : (high low : ℕ) (rest : List ℕ) → is_digit high ≡ true → is_digit low ≡ true
      → IsEscapedText rest → IsEscapedText (37 ∷ high ∷ low ∷ rest)
