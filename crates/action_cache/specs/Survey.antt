-- What a walk over a result's references tells.
use Rattle.std.specs.Prelude.{◌≡◌, ℕ, true, false, List, bytes_eq, Option, Some, None, is_some}
use Rattle.std.specs.Prelude.{option_map, IfSome, Bool}
use Rattle.std.specs.List.{IsDistinct, list_any, AllByRecursion}
use Rattle.std.specs.Map.{lookup}
use Rattle.std.specs.Option.{option_and_then}
use Rattle.std.specs.BTreeMap.{BTreeMap, get}
use Rattle.std.specs.declared.vec.Vec.{Vec}
use Rattle.blob_digest.specs.Digest.{digest_cmp}
use Rattle.blob_digest.specs.DigestValue.{DigestValue}
use Rattle.eviction.specs.Kept.{Held}
use Rattle.eviction.specs.Pinning.{is_among}
use Rattle.blob_store.specs.Blobs.{hashes_of, all_held, found_in}
use Rattle.action_cache.specs.References.{Reference, Reader, names_hash, files_of}
use Rattle.action_cache.specs.References.{references, outputs_of, first_fault}
use Rattle.action_cache.specs.Reading.{by_messages}
use Rattle.action_cache.specs.declared.survey.Survey.{Survey}

-- The digests each once: no two have one hash, they name the same hashes, and where all of the
-- first are held so are all of these.
pub record AreOnce (ds once : List DigestValue) : Type 0 where
  pub distinct : IsDistinct bytes_eq (hashes_of once)
  pub named : (h : List ℕ) → is_among bytes_eq (hashes_of once) h ≡ list_any (names_hash h) ds
  pub held : (found : List ℕ → Option (List ℕ))
      → all_held found ds ≡ true → all_held found once ≡ true

-- the references in order, each once, and the first fault
pub record Surveys {A : Type 0} (reader : Reader) (found : List ℕ → Option (List ℕ))
    (bytes : List ℕ) (s : Survey A) : Type 0 where
  pub reads : is_some (reader.outputs bytes) ≡ true
  pub in_order : s.references.items ≡ references found reader (outputs_of reader bytes)
  pub once : AreOnce (references found reader (outputs_of reader bytes)) s.once.items
  pub fault : s.fault ≡ first_fault found reader (outputs_of reader bytes)

-- no survey just where the bytes are no result
abbrev pub IsSurvey : {A : Type 0} → Reader → (List ℕ → Option (List ℕ)) → List ℕ
    → Option (Survey A) → Type 0
IsSurvey reader found bytes None = is_some (reader.outputs bytes) ≡ false
IsSurvey reader found bytes (Some s) = Surveys reader found bytes s

-- The survey of the result under a hash. There is none just where no result is held there, or its
-- bytes are no result.
abbrev pub IsSurveyUnder : {A : Type 0} → List (List ℕ × Held) → List (List ℕ × Held) → List ℕ
    → Option (Survey A) → Type 0
IsSurveyUnder blobs results h None =
    (v : Held) → lookup (bytes_eq h) results ≡ Some v
    → is_some (by_messages.outputs v.bytes) ≡ false
IsSurveyUnder blobs results h (Some s) =
    (v : Held) × (lookup (bytes_eq h) results ≡ Some v)
    × Surveys by_messages (found_in blobs) v.bytes s

-- ---- Trees that were read

-- the digests of a Tree's files, as a list
abbrev pub files_listed : {A : Type 0} → Option (Vec DigestValue A) → Option (List DigestValue)
files_listed files = option_map (λ v. v.items) files

module _ {A : Type 0} (trees : BTreeMap DigestValue (Option (Vec DigestValue A))) where
  -- the Tree with the digest was read
  abbrev pub is_read : DigestValue → Bool
  is_read d = is_some (get digest_cmp trees d)

  -- what was read under a digest
  abbrev pub known : DigestValue → Option (List DigestValue)
  known d = option_and_then files_listed (get digest_cmp trees d)

  -- what was read is what is found
  abbrev pub AreRight : (List ℕ → Option (List ℕ)) → Type 0
  AreRight found = (d : DigestValue) →
      IfSome (get digest_cmp trees d) (λ files. files_listed files ≡ files_of found by_messages d)

  -- each Tree of the references was read
  abbrev pub AreKnown : (List ℕ → Option (List ℕ)) → List Reference → Type 0
  AreKnown found rs = AllByRecursion
      (λ r. r.is_tree ≡ true → known r.digest ≡ files_of found by_messages r.digest) rs
