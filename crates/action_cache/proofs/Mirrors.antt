-- Puts of blobs, in the store and in the machine.
use Rattle.std.proofs.Common.{◌≡◌, ℕ, Bool, true, false, cond, not, nat_lt, List, [], ◌++◌, length, bytes_eq, Option, Some, None, is_some, is_none, option_map, refl, ap, sym, ◌∙◌, subst, ◌⊎◌, inl, inr}
use Rattle.std.specs.Prelude.{Result, Ok, Err, IsErrAnd, IfErr, OnErr}
use Rattle.std.specs.List.{filter, IsDistinct}
use Rattle.std.specs.Map.{keys_of, lookup}
use Rattle.std.proofs.lemmas.List.{map-append}
use Rattle.sha2.specs.Sha256.{sha256}
use Rattle.eviction.specs.Kept.{Held, Kept, touched, moved_to_front}
use Rattle.eviction.specs.Entering.{entered}
use Rattle.eviction.specs.Pinning.{is_stored}
use Rattle.eviction.proofs.Filters.{filter-map}
use Rattle.blob_store.specs.declared.error.BlobError.{BlobError}
use Rattle.blob_store.specs.declared.error.BlobError.TheVariants.{TooLarge, HashDiffers, Full, Memory}
use Rattle.blob_store.specs.Storing.{blob_put, refused_put as put_refusal, IsRefusal}
use Rattle.blob_digest.specs.Body.{greatest_blob}
use Rattle.eviction.proofs.Entered.{entered_is}
use Rattle.action_cache.specs.References.{Reader}
use Rattle.action_cache.specs.Machine.{CacheState, Answer, done, refused, too_large, hash_differs, full, put_blob, found, with_blobs, fronted, blobs_entered, or_full}
use Rattle.action_cache.specs.Tied.{plain, IsTied}
use Rattle.action_cache.specs.State.{state_of}
use Rattle.action_cache.specs.CacheError.{of_blob, IsRefused}
use Rattle.action_cache.proofs.Pins.{kept_tied}
use Rattle.action_cache.proofs.Changes.{under-plain, moved_keeps}
use Rattle.action_cache.proofs.Entered.{entered_marked, entered_keeps}

none_refused : (p q r : Bool) → cond p (Some TooLarge) (cond (not q) (Some HashDiffers) (cond r (Some Full) None)) ≡ None → (p ≡ false) × (q ≡ true) × (r ≡ false)
none_refused true q r h = absurd cc
none_refused false false r h = absurd cc
none_refused false true true h = absurd cc
none_refused false true false h = (refl, refl, refl)

pub fronted-plain : (h : List ℕ) (es : List (List ℕ × Held)) → fronted h (plain es) ≡ plain (moved_to_front bytes_eq h es)
fronted-plain h es =
    (λ i. filter-map (λ (e : List ℕ × Held). (e.0, e.1.bytes)) (λ x. bytes_eq h x.0) es i ++ filter-map (λ (e : List ℕ × Held). (e.0, e.1.bytes)) (λ x. not (bytes_eq h x.0)) es i)
    ∙ sym (map-append (λ (e : List ℕ × Held). (e.0, e.1.bytes)) (filter (λ (e : List ℕ × Held). bytes_eq h e.0) es) (filter (λ (e : List ℕ × Held). not (bytes_eq h e.0)) es))

absent : (o : Option Held) → is_some o ≡ false → o ≡ None
absent None h = refl
absent (Some x) h = absurd cc

present : (o : Option Held) → is_some (option_map (λ (x : Held). x.bytes) o) ≡ is_some o
present None = refl
present (Some x) = refl

module _ (reader : Reader) (s : Kept (List ℕ)) (rl : ℕ) (results : List (List ℕ × Held)) (flat : s.overhead ≡ 0) (d : IsDistinct bytes_eq (keys_of s.entries)) (tied : IsTied reader s.entries results) (h : List ℕ) where
  abbrev pub st : CacheState
  st = state_of s.limit rl s.entries results

  -- the store u stands for what the machine answers
  pub record IsPut (u : Kept (List ℕ)) (out : Answer × CacheState) : Type 0 where
    pub out_is : out ≡ (done, state_of u.limit rl u.entries results)
    pub still : IsTied reader u.entries results
    pub flat_still : u.overhead ≡ 0

  held_is : is_some (found reader st h) ≡ is_stored bytes_eq s.entries h
  held_is = ap is_some (under-plain h s.entries) ∙ present (lookup (bytes_eq h) s.entries)

  stays : (u : Kept (List ℕ)) (out : Answer × CacheState) → s ≡ u → out ≡ (done, st) → IsPut u out
  stays u out e o = subst (λ (w : Kept (List ℕ)). IsPut w out) e (record { out_is = o; still = tied; flat_still = flat })

  moves : (u : Kept (List ℕ)) (out : Answer × CacheState) → touched bytes_eq s h ≡ u → out ≡ (done, with_blobs reader st (fronted h (plain s.entries))) → IsPut u out
  moves u out e o = subst (λ (w : Kept (List ℕ)). IsPut w out) e (record {
    out_is = o ∙ ap (λ bs. (done, with_blobs reader st bs)) (fronted-plain h s.entries);
    still = kept_tied reader s.entries (moved_to_front bytes_eq h s.entries) results tied (moved_keeps h s.entries);
    flat_still = flat;
  })

  enters : (b : List ℕ) (u : Kept (List ℕ)) (out : Answer × CacheState) → lookup (bytes_eq h) s.entries ≡ None → entered bytes_eq s h b ≡ Some u → out ≡ or_full reader st (option_map (with_blobs reader st) (blobs_entered reader st h b)) → IsPut u out
  enters b u out none e o =
      let is = entered_is bytes_eq s u h b e in
      record {
        out_is = o ∙ ap (λ x. or_full reader st (option_map (with_blobs reader st) x)) (entered_marked reader s flat d h b rl results tied ∙ ap (option_map (λ (t : Kept (List ℕ)). plain t.entries)) e)
            ∙ ap (λ n. (done, state_of n rl u.entries results)) (sym is.limit);
        still = kept_tied reader s.entries u.entries results tied (entered_keeps reader s flat d h b u e none);
        flat_still = is.overhead ∙ flat;
      }

  pub put_ok : (b : List ℕ) (u : Kept (List ℕ)) → blob_put s h b ≡ Some u → put_refusal s h b ≡ None → IsPut u (put_blob reader st h b)
  put_ok b u e n =
      let q = none_refused (nat_lt greatest_blob (length b)) (bytes_eq (sha256 b) h) (is_none (blob_put s h b)) n in
      (elim (bytes_eq (sha256 []) h) as (λ z. bytes_eq (sha256 []) h ≡ z → IsPut u (put_blob reader st h b)) [
        | true ↦ λ z. let e' = rw z at e in stays u (put_blob reader st h b) (cc) (rw (q.0, q.1, z) refl)
        | false ↦ λ z. (elim (is_stored bytes_eq s.entries h) as (λ y. is_stored bytes_eq s.entries h ≡ y → IsPut u (put_blob reader st h b)) [
          | true ↦ λ t. let e' = rw (z, t) at e in moves u (put_blob reader st h b) (cc) (rw (q.0, q.1, z, held_is, t) refl)
          | false ↦ λ t. let e' = rw (z, t) at e in enters b u (put_blob reader st h b) (absent (lookup (bytes_eq h) s.entries) t) e' (rw (q.0, q.1, z, held_is, t) refl)
        ]) refl
      ]) refl

  -- why a put is refused: the length, the hash, want of room, or memory
  refusals : (p q r : Bool) (e : BlobError) → IsRefusal (cond p (Some TooLarge) (cond (not q) (Some HashDiffers) (cond r (Some Full) None))) e
      → ((p ≡ true) × (e ≡ TooLarge)) ⊎ (((p ≡ false) × (q ≡ false) × (e ≡ HashDiffers)) ⊎ (((p ≡ false) × (q ≡ true) × (r ≡ true) × (e ≡ Full)) ⊎ (e ≡ Memory)))
  refusals true q r e i = inl (refl, i)
  refusals false false r e i = inr (inl (refl, refl, i))
  refusals false true true e i = inr (inr (inl (refl, refl, refl, i)))
  refusals false true false e i = inr (inr (inr i))

  too_long : (b : List ℕ) → nat_lt greatest_blob (length b) ≡ true → put_blob reader st h b ≡ (refused too_large, st)
  too_long b p = rw p refl

  wrong_hash : (b : List ℕ) → nat_lt greatest_blob (length b) ≡ false → bytes_eq (sha256 b) h ≡ false → put_blob reader st h b ≡ (refused hash_differs, st)
  wrong_hash b p q = rw (p, q) refl

  no_room : (b : List ℕ) → nat_lt greatest_blob (length b) ≡ false → bytes_eq (sha256 b) h ≡ true → is_none (blob_put s h b) ≡ true → put_blob reader st h b ≡ (refused full, st)
  no_room b p q n = (elim (bytes_eq (sha256 []) h) as (λ z. bytes_eq (sha256 []) h ≡ z → put_blob reader st h b ≡ (refused full, st)) [
    | true ↦ λ z. let n' = rw z at n in absurd cc
    | false ↦ λ z. (elim (is_stored bytes_eq s.entries h) as (λ y. is_stored bytes_eq s.entries h ≡ y → put_blob reader st h b ≡ (refused full, st)) [
      | true ↦ λ t. let n' = rw (z, t) at n in absurd cc
      | false ↦ λ t.
          let n' = rw (z, t) at n in
          let full : entered bytes_eq s h b ≡ None = nothing (entered bytes_eq s h b) n' in
          rw (p, q, z, held_is, t) (ap (λ o. or_full reader st (option_map (with_blobs reader st) o)) (entered_marked reader s flat d h b rl results tied ∙ ap (option_map (λ (t : Kept (List ℕ)). plain t.entries)) full))
    ]) refl
  ]) refl
    where
      nothing : (o : Option (Kept (List ℕ))) → is_none o ≡ true → o ≡ None
      nothing None e = refl
      nothing (Some t) e = absurd cc

  pub put_refused : (b : List ℕ) (e : BlobError) → IsRefusal (put_refusal s h b) e → IsRefused st (put_blob reader st h b) (of_blob e)
  put_refused b e i =
      elim (refusals (nat_lt greatest_blob (length b)) (bytes_eq (sha256 b) h) (is_none (blob_put s h b)) e i) [
        | inl long ↦ as_told TooLarge long.1 (too_long b long.0)
        | inr more ↦ elim more [
          | inl hash ↦ as_told HashDiffers hash.2 (wrong_hash b hash.0 hash.1)
          | inr rest ↦ elim rest [
            | inl room ↦ as_told Full room.3 (no_room b room.0 room.1 room.2)
            | inr memory ↦ as_told Memory memory tt
          ]
        ]
      ]
    where
      as_told : (f : BlobError) → e ≡ f → IsRefused st (put_blob reader st h b) (of_blob f) → IsRefused st (put_blob reader st h b) (of_blob e)
      as_told f same told = subst (λ x. IsRefused st (put_blob reader st h b) (of_blob x)) (sym same) told

  -- memory is wanting only where the machine puts the blob
  unrefused : (p q r : Bool) (e : BlobError) → IsRefusal (cond p (Some TooLarge) (cond (not q) (Some HashDiffers) (cond r (Some Full) None))) e → e ≡ Memory → cond p (Some TooLarge) (cond (not q) (Some HashDiffers) (cond r (Some Full) None)) ≡ None
  unrefused true q r e i m = let no : TooLarge ≡ Memory = sym i ∙ m in absurd cc
  unrefused false false r e i m = let no : HashDiffers ≡ Memory = sym i ∙ m in absurd cc
  unrefused false true true e i m = let no : Full ≡ Memory = sym i ∙ m in absurd cc
  unrefused false true false e i m = refl

  taken : (o : Option (Kept (List ℕ))) → is_none o ≡ false → (u : Kept (List ℕ)) × (o ≡ Some u)
  taken None e = absurd cc
  taken (Some u) e = (u, refl)

  pub put_wanting : (b : List ℕ) (e : BlobError) → IsRefusal (put_refusal s h b) e → e ≡ Memory → (put_blob reader st h b).0 ≡ done
  put_wanting b e i m =
      let none = unrefused (nat_lt greatest_blob (length b)) (bytes_eq (sha256 b) h) (is_none (blob_put s h b)) e i m in
      let q = none_refused (nat_lt greatest_blob (length b)) (bytes_eq (sha256 b) h) (is_none (blob_put s h b)) none in
      let u = taken (blob_put s h b) q.2 in
      ap (λ (o : Answer × CacheState). o.0) (put_ok b u.0 u.1 none).out_is

-- what holds of a passed-on refusal
pub told : {X E : Type 0} (r : Result X E) (f : E) (P : E → Type 0) → IsErrAnd r (λ e. e ≡ f) → P f → IfErr r P
told (Ok x) f P a p = absurd a
told (Err e) f P a p = subst P (sym a) p

-- which one is passed on
pub told_is : {X E : Type 0} (r : Result X E) (f e : E) → IsErrAnd r (λ x. x ≡ f) → r ≡ Err e → f ≡ e
told_is (Ok x) f e a is = absurd a
told_is (Err d) f e a is = let same : d ≡ e = cc in sym a ∙ same

pub on_err : {X E P : Type 0} (r : Result X E) → P → OnErr r P
on_err (Ok x) p = tt
on_err (Err e) p = p
