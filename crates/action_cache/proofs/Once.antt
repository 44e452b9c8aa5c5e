-- Digests, each hash once.
use Rattle.std.proofs.Common.{◌≡◌, ℕ, Bool, true, false, cond, not, ◌&&◌, ◌||◌, List, [], ◌∷◌, ◌++◌, bytes_eq, Option, Some, None, unwrap_or, refl, sym, ap, subst, ◌∙◌}
use Rattle.std.specs.List.{IsDistinct, list_any, find}
use Rattle.std.specs.Ordering.{is_eq, nat_cmp}
use Rattle.std.specs.Cmp.Lexicographic.{slice_cmp, nat_list_eq_equiv}
use Rattle.std.proofs.lemmas.Map.Text.{is_eq-slice_cmp}
use Rattle.std.proofs.lemmas.Map.Keys.{IsDistinct-push}
use Rattle.std.proofs.lemmas.List.Folds.{list_any-append, list_all-append}
use Rattle.std.proofs.lemmas.Slice.Eq.{bytes_eq-Decides}
use Rattle.blob_digest.specs.DigestValue.{DigestValue}
use Rattle.eviction.specs.Pinning.{is_among}
use Rattle.blob_store.specs.Blobs.{hashes_of, is_held, all_held}
use Rattle.blob_store.proofs.BlobLemmas.{hashes_push}
use Rattle.action_cache.specs.References.{Reference, Reader, is_empty, names_hash, files_of, digests_of, references, fault_in_tree, fault_of, first_given, first_fault}
use Rattle.action_cache.specs.Survey.{AreOnce}

or_none : (a : Bool) → (a || false) ≡ a
or_none true = refl
or_none false = refl

pub none_once : AreOnce [] []
unfolding IsDistinct
none_once = record { distinct = tt; named = λ h. refl; held = λ found all. refl }

pub not_false : (a : Bool) → not a ≡ false → a ≡ true
not_false true h = refl
not_false false h = absurd cc

pub not_true : (a : Bool) → not a ≡ true → a ≡ false
not_true true h = absurd cc
not_true false h = refl

both : (a b : Bool) → (a && b) ≡ true → (a ≡ true) × (b ≡ true)
both true b h = (refl, h)
both false b h = absurd cc

-- all are held, and one more
held_parts : (found : List ℕ → Option (List ℕ)) (ds : List DigestValue) (d : DigestValue) → all_held found (ds ++ d ∷ []) ≡ true → (all_held found ds ≡ true) × (is_held found d ≡ true)
held_parts found ds d all =
    let parts = both (all_held found ds) (is_held found d && true) (sym (list_all-append (is_held found) ds (d ∷ [])) ∙ all) in (parts.0, (both (is_held found d) true parts.1).0)

turned : (xs : List (List ℕ)) (y : List ℕ) → list_any (bytes_eq y) xs ≡ is_among bytes_eq xs y
turned [] y = refl
turned (x ∷ xs) y = λ i. nat_list_eq_equiv.symm y x i || turned xs y i

among_push : (xs : List (List ℕ)) (y h : List ℕ) → is_among bytes_eq (xs ++ y ∷ []) h ≡ (is_among bytes_eq xs h || bytes_eq y h)
among_push xs y h = list_any-append (λ x. bytes_eq x h) xs (y ∷ []) ∙ ap (λ b. is_among bytes_eq xs h || b) (or_none (bytes_eq y h))

module _ (ds once : List DigestValue) (d : DigestValue) (o : AreOnce ds once) where
  named_more : (h : List ℕ) → list_any (names_hash h) (ds ++ d ∷ []) ≡ (list_any (names_hash h) ds || names_hash h d)
  named_more h = list_any-append (names_hash h) ds (d ∷ []) ∙ ap (λ b. list_any (names_hash h) ds || b) (or_none (names_hash h d))

  -- that of no bytes is left out
  pub once_empty : is_empty d ≡ true → AreOnce (ds ++ d ∷ []) once
  once_empty e = record {
    distinct = o.distinct;
    named = λ h. o.named h ∙ sym (or_none (list_any (names_hash h) ds)) ∙ (λ i. list_any (names_hash h) ds || (not (sym e i) && bytes_eq d.hash h)) ∙ sym (named_more h);
    held = λ found all. o.held found (held_parts found ds d all).0;
  }

  -- a hash that came before is left out
  pub once_again : is_empty d ≡ false → is_among bytes_eq (hashes_of once) d.hash ≡ true → AreOnce (ds ++ d ∷ []) once
  once_again e seen = record {
    distinct = o.distinct;
    named = λ h. same h ∙ (λ i. o.named h i || (not (sym e i) && bytes_eq d.hash h)) ∙ sym (named_more h);
    held = λ found all. o.held found (held_parts found ds d all).0;
  }
    where
      same : (h : List ℕ) → is_among bytes_eq (hashes_of once) h ≡ (is_among bytes_eq (hashes_of once) h || bytes_eq d.hash h)
      same h = (elim (bytes_eq d.hash h) as (λ b. bytes_eq d.hash h ≡ b → is_among bytes_eq (hashes_of once) h ≡ (is_among bytes_eq (hashes_of once) h || b)) [
        | true ↦ λ t. let at = ap (is_among bytes_eq (hashes_of once)) (sym ((bytes_eq-Decides d.hash h).0 t)) ∙ seen in rw at refl
        | false ↦ λ t. sym (or_none (is_among bytes_eq (hashes_of once) h))
      ]) refl

  -- a new one
  pub once_more : is_empty d ≡ false → is_among bytes_eq (hashes_of once) d.hash ≡ false → AreOnce (ds ++ d ∷ []) (once ++ d ∷ [])
  once_more e new = record {
    distinct = subst (IsDistinct bytes_eq) (sym pushed) (IsDistinct-push nat_list_eq_equiv (hashes_of once) d.hash o.distinct (turned (hashes_of once) d.hash ∙ new));
    named = λ h. ap (λ l. is_among bytes_eq l h) pushed ∙ among_push (hashes_of once) d.hash h ∙ (λ i. o.named h i || (not (sym e i) && bytes_eq d.hash h)) ∙ sym (named_more h);
    held = λ found all.
        let parts = held_parts found ds d all in
        list_all-append (is_held found) once (d ∷ []) ∙ (λ i. o.held found parts.0 i && (parts.1 i && true));
  }
    where
      pushed : hashes_of (once ++ d ∷ []) ≡ hashes_of once ++ d.hash ∷ []
      pushed = hashes_push once d ∙ ap (λ b. hashes_of once ++ cond b [] (d.hash ∷ [])) e

-- ---- one more digest, and the set of those that came before

module _ (ds once : List DigestValue) (d : DigestValue) (old new : List ℕ → Bool) (o : AreOnce ds once) (seen : (h : List ℕ) → old h ≡ is_among bytes_eq (hashes_of once) h)
    (put : (h : List ℕ) → new h ≡ cond (is_eq (slice_cmp nat_cmp d.hash h)) true (old h)) (e : is_empty d ≡ false) where
  put_is : (h : List ℕ) → new h ≡ cond (bytes_eq d.hash h) true (is_among bytes_eq (hashes_of once) h)
  put_is h = put h ∙ (λ i. cond (is_eq-slice_cmp d.hash h i) true (seen h i))

  pub step_again : old d.hash ≡ true → AreOnce (ds ++ d ∷ []) once × ((h : List ℕ) → new h ≡ is_among bytes_eq (hashes_of once) h)
  step_again t = (once_again ds once d o e (sym (seen d.hash) ∙ t), λ h. put_is h ∙ same h)
    where
      same : (h : List ℕ) → cond (bytes_eq d.hash h) true (is_among bytes_eq (hashes_of once) h) ≡ is_among bytes_eq (hashes_of once) h
      same h = (elim (bytes_eq d.hash h) as (λ b. bytes_eq d.hash h ≡ b → cond b true (is_among bytes_eq (hashes_of once) h) ≡ is_among bytes_eq (hashes_of once) h) [
        | true ↦ λ q. sym (ap (is_among bytes_eq (hashes_of once)) (sym ((bytes_eq-Decides d.hash h).0 q)) ∙ sym (seen d.hash) ∙ t)
        | false ↦ λ q. refl
      ]) refl

  pub step_more : old d.hash ≡ false → AreOnce (ds ++ d ∷ []) (once ++ d ∷ []) × ((h : List ℕ) → new h ≡ is_among bytes_eq (hashes_of (once ++ d ∷ [])) h)
  step_more t = (
    once_more ds once d o e (sym (seen d.hash) ∙ t),
    λ h. put_is h ∙ turn (bytes_eq d.hash h) (is_among bytes_eq (hashes_of once) h) ∙ sym (among_push (hashes_of once) d.hash h)
        ∙ ap (λ l. is_among bytes_eq l h) (sym (hashes_push once d ∙ ap (λ b. hashes_of once ++ cond b [] (d.hash ∷ [])) e)),
  )
    where
      turn : (a b : Bool) → cond a true b ≡ (b || a)
      turn true true = refl
      turn true false = refl
      turn false true = refl
      turn false false = refl

-- ---- where there is no fault all is held

module _ (found : List ℕ → Option (List ℕ)) where
  pub none_missing : (fs : List DigestValue) → find (λ f. not (is_held found f)) fs ≡ None → all_held found fs ≡ true
  none_missing [] e = refl
  none_missing (f ∷ fs) e = (elim (is_held found f) as (λ b. is_held found f ≡ b → all_held found (f ∷ fs) ≡ true) [
    | true ↦ λ t. let others = none_missing fs (rw t at e) in λ i. t i && others i
    | false ↦ λ t. let e' = rw t at e in absurd cc
  ]) refl

  tree_held : (d : DigestValue) (t : Bool) (o : Option (List DigestValue)) → cond t (fault_in_tree found d o) None ≡ None → all_held found (cond t (unwrap_or o []) []) ≡ true
  tree_held d false o e = refl
  tree_held d true None e = refl
  tree_held d true (Some fs) e = none_missing fs e

  first_none : (a b : Option DigestValue) → first_given a b ≡ None → (a ≡ None) × (b ≡ None)
  first_none None b e = (refl, e)
  first_none (Some d) b e = absurd cc

  module _ (reader : Reader) where
    reference_held : (r : Reference) → fault_of found reader r ≡ None → all_held found (digests_of found reader r) ≡ true
    reference_held r e = (elim (is_held found r.digest) as (λ b. is_held found r.digest ≡ b → all_held found (digests_of found reader r) ≡ true) [
      | true ↦ λ t. let files = tree_held r.digest r.is_tree (files_of found reader r.digest) (rw t at e) in λ i. t i && files i
      | false ↦ λ t. let e' = rw t at e in absurd cc
    ]) refl

    pub all_held_of : (rs : List Reference) → first_fault found reader rs ≡ None → all_held found (references found reader rs) ≡ true
    all_held_of [] e = refl
    all_held_of (r ∷ rs) e =
        let n = first_none (fault_of found reader r) (first_fault found reader rs) e in
        list_all-append (is_held found) (digests_of found reader r) (references found reader rs) ∙ (λ i. reference_held r n.0 i && all_held_of rs n.1 i)
