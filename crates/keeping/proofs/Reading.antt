-- What was told is read back of an archive.
use Rattle.std.proofs.Common.{◌≡◌, ℕ, Bool, true, false, cond, List, [], ◌∷◌, ◌++◌, Option, Some, None, refl, subst, inl, inr}
use Rattle.std.specs.Prelude.{option_map}
use Rattle.std.specs.BTreeMap.{get}
use Rattle.std.specs.List.{AllByRecursion, filter_map}
use Rattle.std.specs.Map.{lookup}
use Rattle.std.specs.Ordering.{is_eq}
use Rattle.std.specs.declared.vec.Vec.{Vec}
use Rattle.std.proofs.lemmas.List.Elements.{recursion_from_All}
use Rattle.archive.specs.Archive.{IsEntry}
use Rattle.archive.specs.Writing.{EntryValue, IsArchiveOf}
use Rattle.blob_digest.specs.Digest.{DigestValue, digest_cmp}
use Rattle.blob_source.specs.Source.{bytes_of}
use Rattle.blob_source.proofs.Digests.{other_digests}
use Rattle.keeping.specs.Told.{ReadsTold, store_path, told_file, told_files}
use Rattle.keeping.specs.declared.answers.Answers.{Answers}
use Rattle.keeping.proofs.SameDigest.{same_or_other}

all_behind : (P : EntryValue → Type 0) (xs ys : List EntryValue) → AllByRecursion P (xs ++ ys) → AllByRecursion P ys
all_behind P [] ys h = h
all_behind P (x ∷ xs) ys h = all_behind P xs ys h.1

all_before : (P : EntryValue → Type 0) (xs ys : List EntryValue) → AllByRecursion P (xs ++ ys) → AllByRecursion P xs
all_before P [] ys h = tt
all_before P (x ∷ xs) ys h = (h.0, all_before P xs ys h.1)

equal_to : (d k : DigestValue) → is_eq (digest_cmp d k) ≡ true → k ≡ d
equal_to d k e = elim (same_or_other d k) [
  | inl same ↦ same
  | inr other ↦ let no = other_digests d k other in absurd cc
]

module _ {A : Type 0} (part : List ℕ) (P : EntryValue → Type 0) (d : DigestValue) (v : Vec ℕ A) where
  abbrev Entries : Type 0
  Entries = List (DigestValue × Option (Vec ℕ A))

  passed : (t : Bool) (rest : Option (Option (Vec ℕ A))) → cond t (Some None) rest ≡ Some (Some v) → rest ≡ Some (Some v)
  passed true rest h = absurd cc
  passed false rest h = h

  here : (t : Bool) (k : DigestValue) (w : Vec ℕ A) (rest : Option (Option (Vec ℕ A))) → is_eq (digest_cmp d k) ≡ t → cond t (Some (Some w)) rest ≡ Some (Some v) → P (store_path part k, w.items) → (rest ≡ Some (Some v) → P (store_path part d, v.items)) → P (store_path part d, v.items)
  here true k w rest e h p more =
      let same : w ≡ v = cc in
      subst (λ (x : DigestValue). P (store_path part x, v.items)) (equal_to d k e) (subst (λ (x : Vec ℕ A). P (store_path part k, x.items)) same p)
  here false k w rest e h p more = more h

  found : (es : Entries) → AllByRecursion P (filter_map (told_file part) es) → lookup (λ (k : DigestValue). is_eq (digest_cmp d k)) es ≡ Some (Some v) → P (store_path part d, v.items)
  found [] all h = absurd cc
  found ((k, None) ∷ es) all h = found es all (passed (is_eq (digest_cmp d k)) (lookup (λ (x : DigestValue). is_eq (digest_cmp d x)) es) h)
  found ((k, Some w) ∷ es) all h =
      here (is_eq (digest_cmp d k)) k w (lookup (λ (x : DigestValue). is_eq (digest_cmp d x)) es) refl h all.0 (found es all.1)

module _ {A : Type 0} (archive part : List ℕ) (kept : Answers A) (all : AllByRecursion (λ (e : EntryValue). IsEntry archive e.0 e.1) (told_files part kept)) where
  told : (d : DigestValue) (bytes : List ℕ) (o : Option (Option (Vec ℕ A))) → get digest_cmp kept.answers d ≡ o → option_map bytes_of o ≡ Some (Some bytes) → IsEntry archive (store_path part d) bytes
  told d bytes None is h = absurd cc
  told d bytes (Some None) is h = absurd cc
  told d bytes (Some (Some v)) is h =
      let same : v.items ≡ bytes = cc in
      subst (IsEntry archive (store_path part d)) same (found part (λ (e : EntryValue). IsEntry archive e.0 e.1) d v kept.answers.entries all is)

  pub reads : ReadsTold archive part kept
  reads d bytes h = told d bytes (get digest_cmp kept.answers d) refl h

pub read_back : {A : Type 0} (archive part : List ℕ) (texts others : List EntryValue) (kept : Answers A) → IsArchiveOf archive (texts ++ told_files part kept ++ others) → ReadsTold archive part kept
read_back archive part texts others kept is =
    let P = λ (e : EntryValue). IsEntry archive e.0 e.1 in
    reads archive part kept (all_behind P texts (told_files part kept) (all_before P (texts ++ told_files part kept) others (recursion_from_All P (texts ++ told_files part kept ++ others) is.each)))
