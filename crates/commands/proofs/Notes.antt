-- A no with the note of a folder that isn't what builds make.
use Rattle.std.proofs.Common.{◌≡◌, ◌∙◌, List, ℕ, None, Option, Some, ap, refl, subst, sym}
use Rattle.std.specs.declared.alloc.Global.{Global}
use Rattle.verifier.specs.declared.made.Made.{Made}
use Rattle.blob_digest.specs.Text.{digest_text}
use Rattle.clap.specs.Words.{Row}
use Rattle.commands.specs.Ended.{is_done}
use Rattle.commands.specs.Evidence.{IsFolderClaim}
use Rattle.commands.specs.FolderRead.{IsFolderRead, ReadValue}
use Rattle.commands.specs.Noted.{IsNoteOn, NotesOn, with_note}
use Rattle.commands.specs.Printed.{NotesFolder, without_mismatch}
use Rattle.commands.specs.World.{Sight}
use Rattle.commands.specs.declared.ended.Ended.{Ended}
use Rattle.commands.specs.declared.ended.Ended.TheVariants.{Done, No}
use Rattle.commands.specs.declared.ended.Note.{Note}
use Rattle.commands.specs.declared.ended.Note.TheVariants.{Differs, NoBlob, NoStore, Refused}

pub done_with : (ended : Ended) (note : Option Note) → is_done (with_note ended note) ≡ is_done ended
done_with Done note = refl
done_with (No None) note = refl
done_with (No (Some n)) note = refl

-- it is the only kind of note on a folder
abbrev IsOther : Note → Type 0
IsOther (Differs x) = ⊥
IsOther note = Unit {0}

never_other : (made : Option (Made Global)) (read : Option ReadValue) (note : Note) → IsOther note → IsNoteOn made read (Some note) → ⊥
never_other None read note other h = cc
never_other (Some m) None note other h = cc
never_other (Some m) (Some r) (Differs x) other h = other
never_other (Some m) (Some r) (NoBlob s d) other h = h
never_other (Some m) (Some r) (NoStore p) other h = h
never_other (Some m) (Some r) (Refused w) other h = h

module _ (sees : Sight) (store : Option (List ℕ)) (made : Option (Made Global)) (read : Option ReadValue) where
  pub noted_with : (ended : Ended) (note : Option Note) → IsNoteOn made read note → NotesFolder sees store ended → NotesFolder sees store (without_mismatch (with_note ended note))
  noted_with Done note is h = h
  noted_with (No None) None is h = h
  noted_with (No None) (Some (Differs x)) is h = h
  noted_with (No None) (Some (NoBlob s d)) is h = absurd (never_other made read (NoBlob s d) tt is)
  noted_with (No None) (Some (NoStore p)) is h = absurd (never_other made read (NoStore p) tt is)
  noted_with (No None) (Some (Refused w)) is h = absurd (never_other made read (Refused w) tt is)
  noted_with (No (Some (Differs x))) note is h = absurd h
  noted_with (No (Some (NoBlob s d))) note is h = absurd h
  noted_with (No (Some (NoStore p))) note is h = h
  noted_with (No (Some (Refused w))) note is h = absurd h

  pub notes_on : (ended : Ended) (note : Option Note) → IsNoteOn made read note → NotesFolder sees store ended → NotesOn made read (with_note ended note)
  notes_on Done note is h = tt
  notes_on (No None) None is h = is
  notes_on (No None) (Some (Differs x)) is h = is
  notes_on (No None) (Some (NoBlob s d)) is h = tt
  notes_on (No None) (Some (NoStore p)) is h = tt
  notes_on (No None) (Some (Refused w)) is h = tt
  notes_on (No (Some (Differs x))) note is h = absurd h
  notes_on (No (Some (NoBlob s d))) note is h = tt
  notes_on (No (Some (NoStore p))) note is h = tt
  notes_on (No (Some (Refused w))) note is h = tt

-- the text of the digest of a folder that was read is its claim
pub claim_of_read : (sees : Sight) (options : List Row) (place text : List ℕ) (read : ReadValue) → IsFolderRead sees options place read → text ≡ digest_text read.digest → IsFolderClaim sees options place text
claim_of_read sees options place text read h is = record { tree = h.tree; read = h.read; within = h.within; is = is ∙ ap digest_text h.digest }
