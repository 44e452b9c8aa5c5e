-- Blobs stay under their hashes.
use Rattle.std.proofs.Common.{◌≡◌, ◌≢◌, ◌<◌, ℕ, zero, suc, arith, get_or, Bool, true, false, cond, not, List, [], ◌∷◌, ◌++◌, reverse, map, length, bytes_eq, Option, Some, None, option_map, refl, ap, sym, ◌∙◌, subst}
use Rattle.std.specs.List.{filter, list_all, AllByRecursion}
use Rattle.std.specs.Map.{lookup, lookup_entry}
use Rattle.std.specs.Option.{option_map_or}
use Rattle.std.proofs.lemmas.Slice.Eq.{bytes_eq-Decides}
use Rattle.std.proofs.lemmas.Bool.{eqb-true, eq-eqb}
use mathlib.Core.List.{reverse_aux}
use Rattle.sha2.specs.Sha256.{sha256}
use Rattle.lru.proofs.CallerLemmas.{Contains-lookup_entry}
use Rattle.eviction.specs.Kept.{Held, Kept, bytes_under, is_pinned, others, moved_to_front, touched}
use Rattle.eviction.specs.Entering.{spared, spared_last, stored_key, evicted, entered}
use Rattle.eviction.specs.Pinning.{repinned, is_stored, pins_of, all_pinned, all_stored}
use Rattle.eviction.proofs.Entered.{entered_is}
use Rattle.std.specs.Prelude.{◌==◌, ◌&&◌, ◌||◌, nat_lt, is_some}
use Rattle.blob_digest.specs.Digest.{DigestValue, digest_of, empty_digest}
use Rattle.blob_store.specs.Blobs.{AreBlobs, HasHash, found_in, held_under, all_held, hashes_of, is_empty, of_size, can_unpin, is_held}
use Rattle.blob_store.specs.Storing.{used}
use Rattle.eviction.proofs.Looks.{lookup_moved}
use Rattle.std.specs.Cmp.Lexicographic.{nat_list_eq_equiv}
use Rattle.std.specs.Prelude.{Result, Ok, Err, IsErrAnd}
use Rattle.blob_store.specs.declared.error.BlobError.{BlobError}
use Rattle.blob_store.specs.declared.error.BlobError.TheVariants.{Memory}

module _ {X : Type 0} (P : X → Type 0) where
  pub all_filter : (p : X → Bool) (xs : List X) → AllByRecursion P xs → AllByRecursion P (filter p xs)
  all_filter p [] a = tt
  all_filter p (x ∷ xs) a = elim (p x) as (λ b. AllByRecursion P (cond b (x ∷ filter p xs) (filter p xs))) [ true ↦ (a.0, all_filter p xs a.1) | false ↦ all_filter p xs a.1 ]

  pub all_both : (xs ys : List X) → AllByRecursion P xs → AllByRecursion P ys → AllByRecursion P (xs ++ ys)
  all_both [] ys a b = b
  all_both (x ∷ xs) ys a b = (a.0, all_both xs ys a.1 b)

  turned : (xs r : List X) → AllByRecursion P xs → AllByRecursion P r → AllByRecursion P (reverse_aux xs r)
  turned [] r a b = b
  turned (x ∷ xs) r a b = turned xs (x ∷ r) a.1 (a.0, b)

  pub all_spared : (p : X → Bool) (m : ℕ) (xs : List X) → AllByRecursion P xs → AllByRecursion P (spared p m xs)
  all_spared p m [] a = tt
  all_spared p zero (x ∷ xs) a = a
  all_spared p (suc m) (x ∷ xs) a = elim (p x) as (λ b. AllByRecursion P (cond b (x ∷ spared p (suc m) xs) (spared p m xs))) [
    | true ↦ (a.0, all_spared p (suc m) xs a.1)
    | false ↦ all_spared p m xs a.1
  ]

  pub all_spared_last : (p : X → Bool) (m : ℕ) (xs : List X) → AllByRecursion P xs → AllByRecursion P (spared_last p m xs)
  all_spared_last p m xs a = turned (spared p m (reverse xs)) [] (all_spared p m (reverse xs) (turned xs [] a tt)) tt

-- of bytes under a key, whatever the count
abbrev pub OfBytes : (List ℕ → List ℕ → Type 0) → List (List ℕ × Held) → Type 0
OfBytes P es = AllByRecursion (λ e. P e.0 e.1.bytes) es

module _ (P : List ℕ → List ℕ → Type 0) where
  pub all_touched : (k : List ℕ) (es : List (List ℕ × Held)) → OfBytes P es → OfBytes P (moved_to_front bytes_eq k es)
  all_touched k es a =
      all_both (λ (e : List ℕ × Held). P e.0 e.1.bytes) (filter (λ (e : List ℕ × Held). bytes_eq k e.0) es) (others bytes_eq k es)
      (all_filter (λ (e : List ℕ × Held). P e.0 e.1.bytes) (λ (e : List ℕ × Held). bytes_eq k e.0) es a) (all_filter (λ (e : List ℕ × Held). P e.0 e.1.bytes) (λ (e : List ℕ × Held). not (bytes_eq k e.0)) es a)

  pub all_repinned : (f : List ℕ → ℕ → ℕ) (es : List (List ℕ × Held)) → OfBytes P es → OfBytes P (repinned f es)
  all_repinned f [] a = tt
  all_repinned f (e ∷ es) a = (a.0, all_repinned f es a.1)

-- keys of bytes are equal just where they are the same
key_or : (es : List (List ℕ × Held)) (k : List ℕ) (o : Option (List ℕ × Held)) → lookup_entry (bytes_eq k) es ≡ o → option_map_or (λ (e : List ℕ × Held). e.0) o k ≡ k
key_or es k None h = refl
key_or es k (Some e) h = sym ((bytes_eq-Decides k e.0).0 (Contains-lookup_entry (bytes_eq k) es e h).1)

pub stored_key_is : (es : List (List ℕ × Held)) (k : List ℕ) → stored_key bytes_eq es k ≡ k
stored_key_is es k = key_or es k (lookup_entry (bytes_eq k) es) refl

pub entered_blobs : (s t : Kept (List ℕ)) (k b : List ℕ) → entered bytes_eq s k b ≡ Some t → k ≡ sha256 b → bytes_eq (sha256 []) k ≡ false → AreBlobs s.entries → AreBlobs t.entries
entered_blobs s t k b e h some a =
    let is = entered_is bytes_eq s t k b e in
    let P : List ℕ × Held → Type 0 = λ x. (x.0 ≡ sha256 x.1.bytes) × (bytes_eq (sha256 []) x.0 ≡ false) in
    let at = stored_key_is s.entries k in
    subst AreBlobs (sym is.entries) ((at ∙ h, ap (bytes_eq (sha256 [])) at ∙ some), all_spared_last P is_pinned (evicted bytes_eq s k b) (others bytes_eq k s.entries) (all_filter P (λ x. not (bytes_eq k x.0)) s.entries a))

pub found_is : (h : List ℕ) (es : List (List ℕ × Held)) → found_in es h ≡ option_map (λ (x : Held). x.bytes) (lookup (bytes_eq h) es)
found_is h [] = refl
found_is h (e ∷ es) = elim (bytes_eq h e.0) as (λ b. cond b (Some e.1.bytes) (found_in es h) ≡ option_map (λ (x : Held). x.bytes) (cond b (Some e.1) (lookup (bytes_eq h) es)))
    [ true ↦ refl | false ↦ found_is h es ]

-- what is stored is what is held, but for no bytes
pub held_found : (es : List (List ℕ × Held)) (h : List ℕ) → bytes_eq (sha256 []) h ≡ false → bytes_under bytes_eq es h ≡ held_under (found_in es) h
held_found es h off = sym (found_is h es) ∙ ap (λ y. cond y (Some []) (found_in es h)) (sym off)

-- what isn't stored isn't held, but for no bytes
pub not_held : (es : List (List ℕ × Held)) (h : List ℕ) → bytes_eq (sha256 []) h ≡ false → is_stored bytes_eq es h ≡ false → held_under (found_in es) h ≡ None
not_held es h off none = sym (held_found es h off) ∙ nothing (lookup (bytes_eq h) es) none
  where
    nothing : (o : Option Held) → is_some o ≡ false → option_map (λ (x : Held). x.bytes) o ≡ None
    nothing None e = refl
    nothing (Some x) e = absurd cc

-- what is held under a hash has it
found_has_hash : (es : List (List ℕ × Held)) (h : List ℕ) → AreBlobs es → HasHash (found_in es h) h
found_has_hash [] h a = tt
found_has_hash (e ∷ es) h a = (elim (bytes_eq h e.0) as (λ y. bytes_eq h e.0 ≡ y → HasHash (cond y (Some e.1.bytes) (found_in es h)) h) [
  | true ↦ λ t. sym a.0.0 ∙ sym ((bytes_eq-Decides h e.0).0 t)
  | false ↦ λ t. found_has_hash es h a.1
]) refl

pub held_has_hash : (es : List (List ℕ × Held)) (h : List ℕ) → AreBlobs es → HasHash (held_under (found_in es) h) h
held_has_hash es h a = (elim (bytes_eq (sha256 []) h) as (λ y. bytes_eq (sha256 []) h ≡ y → HasHash (cond y (Some []) (found_in es h)) h) [
  | true ↦ λ t. (bytes_eq-Decides (sha256 []) h).0 t
  | false ↦ λ t. found_has_hash es h a
]) refl

-- lack of memory isn't told of as another refusal
pub wanting_not : {X : Type 0} (r : Result X BlobError) (e : BlobError) → IsErrAnd r (λ x. x ≡ Memory) → (e ≡ Memory → ⊥) → r ≡ Err e → ⊥
wanting_not (Ok x) e a not is = absurd a
wanting_not (Err d) e a not is = let same : d ≡ e = cc in not (sym same ∙ a)

pub touched_blobs : (k : List ℕ) (es : List (List ℕ × Held)) → AreBlobs es → AreBlobs (moved_to_front bytes_eq k es)
touched_blobs k es a = all_touched (λ k b. (k ≡ sha256 b) × (bytes_eq (sha256 []) k ≡ false)) k es a

pub repinned_blobs : (f : List ℕ → ℕ → ℕ) (es : List (List ℕ × Held)) → AreBlobs es → AreBlobs (repinned f es)
repinned_blobs f es a = all_repinned (λ k b. (k ≡ sha256 b) × (bytes_eq (sha256 []) k ≡ false)) f es a

pub hash_of : (b : List ℕ) → (digest_of b).hash ≡ sha256 b
unfolding digest_of
hash_of b = refl

pub used_blobs : (s : Kept (List ℕ)) (h : List ℕ) → AreBlobs s.entries → AreBlobs (used s h).entries
used_blobs s h a = elim (bytes_eq (sha256 []) h) as (λ b. AreBlobs (cond b s (touched bytes_eq s h)).entries) [ true ↦ a | false ↦ touched_blobs h s.entries a ]

pub used_overhead : (s : Kept (List ℕ)) (h : List ℕ) → (used s h).overhead ≡ s.overhead
used_overhead s h = elim (bytes_eq (sha256 []) h) as (λ b. (cond b s (touched bytes_eq s h)).overhead ≡ s.overhead) [ true ↦ refl | false ↦ refl ]

-- a look-up doesn't see the order
pub found_touched : (h k : List ℕ) (es : List (List ℕ × Held)) → found_in (moved_to_front bytes_eq k es) h ≡ found_in es h
found_touched h k es = found_is h (moved_to_front bytes_eq k es) ∙ ap (option_map (λ (x : Held). x.bytes)) (lookup_moved bytes_eq nat_list_eq_equiv h k es) ∙ sym (found_is h es)

pub held_used : (s : Kept (List ℕ)) (k h : List ℕ) → held_under (found_in (used s k).entries) h ≡ held_under (found_in s.entries) h
held_used s k h = elim (bytes_eq (sha256 []) k) as (λ b. held_under (found_in (cond b s (touched bytes_eq s k)).entries) h ≡ held_under (found_in s.entries) h)
    [ true ↦ refl | false ↦ ap (λ o. cond (bytes_eq (sha256 []) h) (Some []) o) (found_touched h k s.entries) ]

-- the test of a digest against that of no bytes
pub empty_test : (d : DigestValue) (e : DigestValue) → e ≡ empty_digest → (bytes_eq d.hash e.hash && (d.size == e.size)) ≡ is_empty d
unfolding digest_of
empty_test d e h = ap (λ (x : DigestValue). bytes_eq d.hash x.hash && (d.size == x.size)) h ∙ and_comm (bytes_eq d.hash (sha256 [])) (d.size == 0)
  where
    and_comm : (a b : Bool) → (a && b) ≡ (b && a)
    and_comm true true = refl
    and_comm true false = refl
    and_comm false true = refl
    and_comm false false = refl

sized : (n : ℕ) (b : List ℕ) → is_some (of_size n (Some b)) ≡ (length b == n)
sized n b = elim (length b == n) as (λ y. is_some (cond y (Some b) None) ≡ y) [ true ↦ refl | false ↦ refl ]

pub held_some : (found : List ℕ → Option (List ℕ)) (d : DigestValue) (b : List ℕ) → held_under found d.hash ≡ Some b → (length b == d.size) ≡ is_held found d
held_some found d b f = rw f (sym (sized d.size b))

pub held_none : (found : List ℕ → Option (List ℕ)) (d : DigestValue) → held_under found d.hash ≡ None → false ≡ is_held found d
held_none found d f = rw f refl

empty_size : (n : ℕ) → is_some (of_size n (Some [])) ≡ true → (n == 0) ≡ true
empty_size n h = eq-eqb n 0 (sym (eqb-true 0 n (sym (sized n []) ∙ h)))

-- a digest with the hash of no bytes is held if it is that of no bytes
empty_held : (d : DigestValue) → bytes_eq (sha256 []) d.hash ≡ true → is_some (of_size d.size (Some [])) ≡ true → is_empty d ≡ true
empty_held d e h = λ i. empty_size d.size h i && (nat_list_eq_equiv.symm d.hash (sha256 []) ∙ e) i

sized_some : (n : ℕ) (o : Option (List ℕ)) → is_some (of_size n o) ≡ true → is_some o ≡ true
sized_some n None h = h
sized_some n (Some b) h = refl

-- what is held is found, but for no bytes
pub held_is_found : (found : List ℕ → Option (List ℕ)) (d : DigestValue) → is_empty d ≡ false → is_held found d ≡ true → is_some (found d.hash) ≡ true
held_is_found found d t h = (elim (bytes_eq (sha256 []) d.hash) as (λ b. bytes_eq (sha256 []) d.hash ≡ b → is_some (of_size d.size (cond b (Some []) (found d.hash))) ≡ true → is_some (found d.hash) ≡ true) [
  | true ↦ λ q held. let empty = empty_held d q held in absurd cc
  | false ↦ λ q held. sized_some d.size (found d.hash) held
]) refl h

-- the hashes of the digests and one more
pub hashes_push : (ds : List DigestValue) (d : DigestValue) → hashes_of (ds ++ d ∷ []) ≡ hashes_of ds ++ cond (is_empty d) [] (d.hash ∷ [])
hashes_push [] d = elim (is_empty d) as (λ b. map (λ (x : DigestValue). x.hash) (cond (not b) (d ∷ []) []) ≡ cond b [] (d.hash ∷ [])) [ true ↦ refl | false ↦ refl ]
hashes_push (e ∷ ds) d = elim (is_empty e) as (λ b. map (λ (x : DigestValue). x.hash) (cond (not b) (e ∷ filter (λ x. not (is_empty x)) (ds ++ d ∷ [])) (filter (λ x. not (is_empty x)) (ds ++ d ∷ []))) ≡ map (λ (x : DigestValue). x.hash) (cond (not b) (e ∷ filter (λ x. not (is_empty x)) ds) (filter (λ x. not (is_empty x)) ds)) ++ cond (is_empty d) [] (d.hash ∷ [])) [
  | true ↦ hashes_push ds d
  | false ↦ ap (λ l. e.hash ∷ l) (hashes_push ds d)
]

-- what is held is stored, but for no bytes
pub held_stored : (es : List (List ℕ × Held)) (ds : List DigestValue) → all_held (found_in es) ds ≡ true → all_stored bytes_eq es (hashes_of ds) ≡ true
held_stored es [] a = refl
held_stored es (d ∷ ds) a = (elim (is_empty d) as (λ b. is_empty d ≡ b → all_stored bytes_eq es (map (λ (x : DigestValue). x.hash) (cond (not b) (d ∷ filter (λ x. not (is_empty x)) ds) (filter (λ x. not (is_empty x)) ds))) ≡ true) [
  | true ↦ λ t. held_stored es ds (both_right (is_held (found_in es) d) (all_held (found_in es) ds) a)
  | false ↦ λ t. both (is_stored bytes_eq es d.hash) (all_stored bytes_eq es (hashes_of ds)) (stored t (both_left (is_held (found_in es) d) (all_held (found_in es) ds) a)) (held_stored es ds (both_right (is_held (found_in es) d) (all_held (found_in es) ds) a))
]) refl
  where
    both : (a b : Bool) → a ≡ true → b ≡ true → (a && b) ≡ true
    both a b p q = λ i. p i && q i

    both_left : (a b : Bool) → (a && b) ≡ true → a ≡ true
    both_left true b h = refl
    both_left false b h = h

    both_right : (a b : Bool) → (a && b) ≡ true → b ≡ true
    both_right true b h = h
    both_right false b h = absurd cc

    present : (o : Option Held) → is_some (option_map (λ (x : Held). x.bytes) o) ≡ is_some o
    present None = refl
    present (Some x) = refl

    stored : is_empty d ≡ false → is_held (found_in es) d ≡ true → is_stored bytes_eq es d.hash ≡ true
    stored t h = sym (present (lookup (bytes_eq d.hash) es)) ∙ ap is_some (sym (found_is d.hash es)) ∙ held_is_found (found_in es) d t h

-- each of the digests is pinned, but that of no bytes
pub each_pinned : (es : List (List ℕ × Held)) (ds : List DigestValue) → list_all (can_unpin es) ds ≡ all_pinned bytes_eq es (hashes_of ds)
unfolding can_unpin
each_pinned es [] = refl
each_pinned es (d ∷ ds) = elim (is_empty d) as (λ b. ((b || nat_lt 0 (pins_of bytes_eq es d.hash)) && list_all (can_unpin es) ds) ≡ all_pinned bytes_eq es (map (λ (x : DigestValue). x.hash) (cond (not b) (d ∷ filter (λ x. not (is_empty x)) ds) (filter (λ x. not (is_empty x)) ds)))) [
  | true ↦ each_pinned es ds
  | false ↦ ap (λ y. nat_lt 0 (pins_of bytes_eq es d.hash) && y) (each_pinned es ds)
]

-- where one of the digests isn't that of no bytes there is a hash
pub some_hash : (ds : List DigestValue) (i : ℕ) (d : DigestValue) → i < length ds → d ≡ get_or ds i d → is_empty d ≡ false → hashes_of ds ≢ []
some_hash [] i d h at e = absurd (omega arith)
some_hash (x ∷ ds) zero d h at e = λ none. (elim (is_empty x) as (λ b. is_empty x ≡ b → map (λ (y : DigestValue). y.hash) (cond (not b) (x ∷ filter (λ y. not (is_empty y)) ds) (filter (λ y. not (is_empty y)) ds)) ≡ [] → ⊥) [
  | true ↦ λ t n. absurd (let f : is_empty x ≡ false = ap is_empty (sym at) ∙ e in cc)
  | false ↦ λ t n. absurd cc
]) refl none
some_hash (x ∷ ds) (suc i) d h at e = λ none. (elim (is_empty x) as (λ b. map (λ (y : DigestValue). y.hash) (cond (not b) (x ∷ filter (λ y. not (is_empty y)) ds) (filter (λ y. not (is_empty y)) ds)) ≡ [] → ⊥) [
  | true ↦ λ n. some_hash ds i d (omega arith) at e n
  | false ↦ λ n. absurd cc
]) none
