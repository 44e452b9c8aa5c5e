-- Where a no says that a folder isn't what builds make.
use Rattle.std.specs.Prelude.{◌≡◌, ◌≢◌, ℕ, List, [], ◌++◌, Option, None, Some}
use Rattle.std.specs.declared.alloc.Global.{Global}
use Rattle.tree.specs.Folded.{items_of}
use Rattle.tree.specs.Mismatch.{FirstMismatch, mismatch_value}
use Rattle.verifier.specs.declared.made.Made.{Made}
use Rattle.commands.specs.FolderRead.{ReadValue}
use Rattle.commands.specs.declared.ended.Ended.{Ended}
use Rattle.commands.specs.declared.ended.Ended.TheVariants.{Done, No}
use Rattle.commands.specs.declared.ended.Note.{Note}
use Rattle.commands.specs.declared.ended.Note.TheVariants.{Differs}

-- the Directories that are known of what builds make, and of the folder
abbrev pub known_of : Made Global → ReadValue → List (List ℕ)
known_of made read = items_of made.directories.items ++ read.directories

-- the note names the first path at which these differ, and what each has there; there is none where
-- none is found
abbrev pub NamesFirst : Made Global → ReadValue → Option Note → Type 0
NamesFirst made read None =
    made.root ≢ read.digest → FirstMismatch (known_of made read) 64 [] made.root read.digest None
NamesFirst made read (Some (Differs x)) = made.root ≢ read.digest
    → FirstMismatch (known_of made read) 64 [] made.root read.digest (Some (mismatch_value x))
NamesFirst made read (Some _) = ⊥

-- the note on what builds make and on the folder: none where one of both isn't there
abbrev pub IsNoteOn : Option (Made Global) → Option ReadValue → Option Note → Type 0
IsNoteOn (Some made) (Some read) given = NamesFirst made read given
IsNoteOn made read given = given ≡ None

-- a no without a note has this one
abbrev pub with_note : Ended → Option Note → Ended
with_note (No None) given = No given
with_note ended given = ended

-- what a no says of the folder, unless it says that there is no store
abbrev pub NotesOn : Option (Made Global) → Option ReadValue → Ended → Type 0
NotesOn made read (No None) = IsNoteOn made read None
NotesOn made read (No (Some (Differs x))) = IsNoteOn made read (Some (Differs x))
NotesOn made read ended = Unit {0}
