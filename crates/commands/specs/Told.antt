-- What standard error is told.
use Rattle.std.specs.Prelude.{◌≡◌, ◌⊎◌, ℕ, ◌<◌, ◌==◌, List, [], ◌∷◌, ◌++◌, length, map, Option}
use Rattle.std.specs.Prelude.{None, Some, codes, if◌then◌else◌, string_bytes}
use Rattle.std.specs.Io.KnownBytes.{Appends}
use Rattle.blob_digest.specs.Digest.{DigestValue}
use Rattle.blob_digest.specs.Text.{digest_text}
use Rattle.report.specs.Line.{HasNoNewline}
use Rattle.tree.specs.Mismatch.{mismatch_value}
use Rattle.commands.specs.ErrorText.{IsErrorText, IsOfPath}
use Rattle.commands.specs.MismatchText.{IsMismatchText}
use Rattle.commands.specs.declared.ended.Note.{Note}
use Rattle.commands.specs.declared.ended.Note.TheVariants.{Differs, NoBlob, NoStore, Refused}
use Rattle.commands.specs.declared.error.CommandError.{CommandError}
use Rattle.commands.specs.declared.error.CommandError.TheVariants.{Memory}

-- a text was appended up to this rest of it
pub record AppendsUpTo (old new : Option (List ℕ)) (text rest : List ℕ) : Type 0 where
  pub beginning : List ℕ
  pub cut : text ≡ beginning ++ rest
  pub appended : Appends old new beginning

-- a text was appended, or a beginning of it
pub record AppendsBeginning (old new : Option (List ℕ)) (text : List ℕ) : Type 0 where
  pub rest : List ℕ
  pub up_to : AppendsUpTo old new text rest

-- a beginning of a text was appended, and not the whole
pub record AppendsPart (old new : Option (List ℕ)) (text : List ℕ) : Type 0 where
  pub rest : List ℕ
  pub some : 0 < length rest
  pub up_to : AppendsUpTo old new text rest

-- what was printed has no newline, so that no line is whole
pub record PrintsNoLine (old new : Option (List ℕ)) : Type 0 where
  pub text : List ℕ
  pub unbroken : HasNoNewline text
  pub printed : Appends old new text

-- ---- a terminal

-- what takes a terminal's line away: a carriage return (13), and an escape (27)
abbrev pub erasing : List ℕ
erasing = 13 ∷ 27 ∷ codes "[K"

-- what writes a text in its place: the terminal cuts off what is longer than its width
abbrev pub line_over : List ℕ → List ℕ
line_over text = erasing ++ (27 ∷ codes "[?7l" ++ (text ++ 27 ∷ codes "[?7h"))

-- where there is one before and after, the text was appended to it, or a beginning of that
abbrev pub AppendsToSome : {T : Type 0} → (T → Option (List ℕ)) → Option T → Option T → List ℕ
    → Type 0
AppendsToSome contents (Some old) (Some new) text =
    AppendsBeginning (contents old) (contents new) text
AppendsToSome contents _ _ text = Unit {0}

-- ---- errors and notes

-- a text in one line: a space stands for each newline
abbrev pub in_one_line : List ℕ → List ℕ
in_one_line text = map (λ b. if b == 10 then 32 else b) text

-- a text in one line, behind this head
abbrev pub line_after : List ℕ → List ℕ → List ℕ
line_after head text = head ++ (in_one_line text ++ 10 ∷ [])

-- the line of an error was appended, or a beginning of it; or of that memory is wanting
pub record TellsOf (error : CommandError) (old new : Option (List ℕ)) : Type 0 where
  pub text : List ℕ
  pub is : IsErrorText error text ⊎ IsErrorText Memory text
  pub appended : AppendsBeginning old new (line_after (codes "error: ") text)

-- the words of a note of a blob, and of one of a folder
abbrev pub no_blob_text : List ℕ → DigestValue → List ℕ
no_blob_text server digest = server ++ (codes " has no blob " ++ digest_text digest)

abbrev pub IsNoStoreText : List ℕ → List ℕ → Type 0
IsNoStoreText path = IsOfPath path
    (codes "there is no such folder, so what is missing from it says nothing about the build")

-- the words of a note
abbrev pub IsNoteText : Note → List ℕ → Type 0
IsNoteText (NoBlob server digest) text = text ≡ no_blob_text (string_bytes server) digest
IsNoteText (NoStore path) text = IsNoStoreText (string_bytes path) text
IsNoteText (Differs x) text = IsMismatchText (mismatch_value x) text
IsNoteText (Refused why) text = text ≡ string_bytes why

-- the line of a note was appended, or a beginning of it
pub record TellsNote (note : Note) (old new : Option (List ℕ)) : Type 0 where
  pub text : List ℕ
  pub is : IsNoteText note text
  pub appended : AppendsBeginning old new (line_after (codes "note: ") text)

-- the line of the note was appended, or a beginning of it; nothing where there is none
abbrev pub TellsNoteOf : Option Note → Option (List ℕ) → Option (List ℕ) → Type 0
TellsNoteOf None old new = new ≡ old
TellsNoteOf (Some note) old new = TellsNote note old new
