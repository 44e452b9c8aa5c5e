-- What is known of a source without asking it, and how often calls over that ask it.
use Rattle.std.specs.Prelude.{◌≡◌, ◌≢◌, ℕ, ◌+◌, ◌≤◌, List, [], ◌∷◌, Option, Some, None, option_map}
use Rattle.std.specs.Prelude.{Contains, Result, Ok, Err}
use Rattle.std.specs.BTreeMap.{get}
use Rattle.blob_digest.specs.Digest.{DigestValue, digest_cmp, empty_digest}
use Rattle.messages.specs.Directory.{directory_bytes}
use Rattle.blob_source.specs.Source.{Telling, IsBlobUnder}
use Rattle.tree.specs.declared.memo.Memo.{Memo}
use Rattle.tree.specs.declared.memo.Kept.{Kept}
use Rattle.tree.specs.declared.memo.Kept.TheVariants.{Bytes, Directory}

-- what a source is asked for: the blob with a digest, or the result of the action with it
pub data Asked : Type 0 where
  blob : DigestValue → Asked
  result : DigestValue → Asked

-- The blob with a digest is looked at. The empty one is always there.
abbrev pub LooksAtBlob : DigestValue → Asked → Type 0
LooksAtBlob d a = (a ≡ blob d) × (d ≢ empty_digest)

abbrev pub LooksAtResult : DigestValue → Asked → Type 0
LooksAtResult d a = a ≡ result d

-- Nothing else is asked for than what is looked at: each other blob is told as before, and each
-- other result. A call that asks for one may tell more, so none does.
pub record AsksNoOther (Looks : Asked → Type 0) (old new : Telling) : Type 0 where
  pub blobs : (d : DigestValue) → (Looks (blob d) → ⊥) → new.blobs d ≡ old.blobs d
  pub results : (d : DigestValue) → (Looks (result d) → ⊥) → new.results d ≡ old.results d

-- the bytes that are known of what may be asked for
abbrev pub Known : Type 0
Known = Asked → Option (List ℕ)

-- what is known is what the source told, and each blob has its digest
pub record IsKnownOf (known : Known) (tells : Telling) : Type 0 where
  pub blobs : (d : DigestValue) (b : List ℕ) → known (blob d) ≡ Some b → IsBlobUnder tells.blobs d b
  pub results : (d : DigestValue) (b : List ℕ) → known (result d) ≡ Some b
      → tells.results d ≡ Some b

-- ---- what a memo keeps

-- a blob that was read as a Directory is the Directory's encoding
abbrev pub kept_bytes : {A : Type 0} → Kept A → List ℕ
kept_bytes (Bytes bytes) = bytes.items
kept_bytes (Directory m) = directory_bytes m

abbrev pub known_by : {A : Type 0} → Memo A → Known
known_by memo (blob d) = option_map kept_bytes (get digest_cmp memo.blobs d)
known_by memo (result d) = option_map (λ v. v.items) (get digest_cmp memo.results d)

-- nothing is known
abbrev pub KnowsNothing : Known → Type 0
KnowsNothing known = (a : Asked) → known a ≡ None

-- what is known is as it was
abbrev pub IsSame : Known → Known → Type 0
IsSame old new = (a : Asked) → new a ≡ old a

-- the bytes are known too, and all else is as it was
pub record KnowsToo (a : Asked) (bytes : List ℕ) (old new : Known) : Type 0 where
  pub held : new a ≡ Some bytes
  pub others : (e : Asked) → e ≢ a → new e ≡ old e

-- ---- how often the source is asked

abbrev pub one_if_none : Option (List ℕ) → ℕ
one_if_none None = 1
one_if_none (Some bytes) = 0

-- how many of a list aren't known
abbrev pub count_unknown : Known → List Asked → ℕ
count_unknown known [] = 0
count_unknown known (a ∷ list) = one_if_none (known a) + count_unknown known list

-- all that is looked at stands in a list
abbrev pub Covers : (Asked → Type 0) → List Asked → Type 0
Covers Looks list = (a : Asked) → Looks a → Contains list a

-- Calls that look at these alone. What was known stays known, and what is known is what the source
-- told. Nothing else becomes known but the empty blob, which is always there, and nothing else is
-- asked for.
-- Of a list with all that they look at, the source is asked at most once for each that isn't known.
-- What it was asked for is known then; where they are refused, all of it but the last.
pub record Learns (Looks : Asked → Type 0) (refused : Type 0) (old new : Known)
    (before after : Telling) : Type 0 where
  pub known : IsKnownOf new after
  pub kept : (a : Asked) (b : List ℕ) → old a ≡ Some b → new a ≡ Some b
  pub others : (a : Asked) → (Looks a → ⊥) → a ≢ blob empty_digest → new a ≡ old a
  pub only : AsksNoOther Looks before after
  pub once : (list : List Asked) → Covers Looks list
      → after.calls ≤ before.calls + count_unknown old list
  pub learned : (refused → ⊥) → (list : List Asked) → Covers Looks list
      → after.calls + count_unknown new list ≤ before.calls + count_unknown old list
  pub last : (list : List Asked) → Covers Looks list
      → after.calls + count_unknown new list ≤ before.calls + count_unknown old list + 1

-- a call was refused
abbrev pub WasRefused : {T E : Type 0} → Result T E → Type 0
WasRefused (Ok x) = ⊥
WasRefused (Err e) = Unit {0}

-- a call came to nothing
abbrev pub IsWithout : {T E : Type 0} → Result (Option T) E → Type 0
IsWithout (Ok None) = Unit {0}
IsWithout (Ok (Some x)) = ⊥
IsWithout (Err e) = Unit {0}
