-- What a verdict looked at, as `verify` keeps it: evidence by itself.
use Rattle.std.specs.Prelude.{◌≡◌, ◌≢◌, ℕ, List, Option, Some, codes, false, map, string_bytes}
use Rattle.std.specs.Prelude.{true}
use Rattle.std.specs.BTreeMap.{get_by_text}
use Rattle.std.specs.declared.alloc.Global.{Global}
use Rattle.archive.specs.Writing.{EntryValue}
use Rattle.blob_source.specs.Source.{bytes_of}
use Rattle.keeping.specs.Kept.{does_keep, kept_entries}
use Rattle.keeping.specs.declared.kept.Kept.{Kept}
use Rattle.commands.specs.declared.kept_evidence.KeptEvidence.{KeptEvidence}

-- what is said of a file that isn't written, since what was looked at isn't evidence by itself
abbrev pub not_kept : List ℕ
not_kept = codes "not written, since evidence in one archive wouldn't have this verdict"

-- what sources told
abbrev pub told_of : KeptEvidence → Kept Global
told_of kept = kept.told

-- where texts stand in the archive
abbrev pub folder_of : KeptEvidence → List ℕ
folder_of kept = string_bytes kept.folder

-- the text that is kept at a path of the archive
abbrev pub text_at : List ℕ → KeptEvidence → Option (List ℕ)
text_at path kept = bytes_of (get_by_text kept.texts path)

-- the texts in the order of their paths
abbrev pub texts_of : KeptEvidence → List EntryValue
texts_of kept = map (λ text. (string_bytes text.0, text.1.items)) kept.texts.entries

-- a text was kept at the path, where any is, and the others and what was told stay
pub record KeepsText (old new : KeptEvidence) (path content : List ℕ) : Type 0 where
  pub kept : does_keep (told_of old) ≡ true → text_at path new ≡ Some content
  pub idle : does_keep (told_of old) ≡ false → texts_of new ≡ texts_of old
  pub others : (other : List ℕ) → other ≢ path → text_at other new ≡ text_at other old
  pub told : told_of new ≡ told_of old
  pub folder : folder_of new ≡ folder_of old

-- the files of the evidence: its texts, and what was told
abbrev pub files_kept : KeptEvidence → List EntryValue
files_kept kept = kept_entries (texts_of kept) (told_of kept)
