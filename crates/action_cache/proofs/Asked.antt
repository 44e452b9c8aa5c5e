-- What a list of asks leaves.
use Rattle.std.proofs.Common.{◌≡◌, ℕ, true, false, cond, List, [], ◌∷◌, ◌++◌, Option, Some, None, is_some, is_none, bytes_eq, refl, ap, sym, ◌∙◌, subst, arith}
use Rattle.std.proofs.lemmas.Slice.Eq.{bytes_eq-Decides}
use Rattle.sha2.specs.Sha256.{sha256}
use Rattle.std.specs.List.{AllByRecursion, IsDistinct}
use Rattle.blob_digest.specs.DigestValue.{DigestValue}
use Rattle.blob_store.specs.Blobs.{all_held}
use Rattle.action_cache.specs.References.{Reference, Reader, is_held, files_of, fault_of, fault_in_tree, first_given, refers, is_complete, outputs_of, first_fault}
use Rattle.action_cache.specs.Machine.{CacheState, Answer, Marked, given, nothing, empty_cache, under, found, result_used, got_blob, get_blob, got_result, get_result}
use Rattle.action_cache.specs.Asking.{CacheAsk, Unpin, after_ask, after, IsWhole, AreWhole, StaysPinned}
use Rattle.action_cache.proofs.Once.{none_missing}
use Rattle.action_cache.proofs.Keeping.{both_true, all_under, same_complete, same_refers_to, wanted_under}
use Rattle.action_cache.proofs.Leading.{AreUnderHashes, IsSound, leads_ask, stays_ask, used_found}

hash_found : (h b : List ℕ) (bs : List (List ℕ × List ℕ)) → AreUnderHashes bs → under h bs ≡ Some b → sha256 b ≡ h
hash_found h b [] a e = absurd cc
hash_found h b (x ∷ bs) a e = (elim (bytes_eq h x.0) as (λ y. bytes_eq h x.0 ≡ y → cond y (Some x.1) (under h bs) ≡ Some b → sha256 b ≡ h) [
  | true ↦ λ t f. let same : x.1 ≡ b = cc in ap sha256 (sym same) ∙ a.0 ∙ sym ((bytes_eq-Decides h x.0).0 t)
  | false ↦ λ t f. hash_found h b bs a.1 f
]) refl e

module _ (reader : Reader) where
  -- ---- complete results, in words

  module _ (found : List ℕ → Option (List ℕ)) where
    firsts : (a b : Option DigestValue) → first_given a b ≡ None → (a ≡ None) × (b ≡ None)
    firsts None b e = (refl, e)
    firsts (Some d) b e = absurd cc

    held_files : (d : DigestValue) (o : Option (List DigestValue)) → fault_in_tree found d o ≡ None → (files : List DigestValue) × (o ≡ Some files) × (all_held found files ≡ true)
    held_files d None e = absurd cc
    held_files d (Some fs) e = (fs, refl, none_missing found fs e)

  module _ (s : CacheState) where
    whole_one : (r : Reference) → fault_of (found reader s) reader r ≡ None → IsWhole reader s r
    whole_one r e = (elim (is_held (found reader s) r.digest) as (λ y. is_held (found reader s) r.digest ≡ y → cond y (cond r.is_tree (fault_in_tree (found reader s) r.digest (files_of (found reader s) reader r.digest)) None) (Some r.digest) ≡ None → IsWhole reader s r) [
      | true ↦ λ t n. record {
        held = t;
        files = λ tree. held_files (found reader s) r.digest (files_of (found reader s) reader r.digest) (sym (λ i. cond (tree i) (fault_in_tree (found reader s) r.digest (files_of (found reader s) reader r.digest)) None) ∙ n);
      }
      | false ↦ λ t n. absurd cc
    ]) refl e

    whole_all : (rs : List Reference) → first_fault (found reader s) reader rs ≡ None → AllByRecursion (IsWhole reader s) rs
    whole_all [] e = tt
    whole_all (r ∷ rs) e =
        let n = firsts (found reader s) (fault_of (found reader s) reader r) (first_fault (found reader s) reader rs) e in
        (whole_one r n.0, whole_all rs n.1)

    pub complete_whole : (bytes : List ℕ) → is_complete (found reader s) reader bytes ≡ true → AreWhole reader s bytes
    complete_whole bytes c = whole_all (outputs_of reader bytes) (no_value (first_fault (found reader s) reader (outputs_of reader bytes)) (both_true (is_some (reader.outputs bytes)) (is_none (first_fault (found reader s) reader (outputs_of reader bytes))) c).1)
      where
        no_value : {X : Type 0} (o : Option X) → is_none o ≡ true → o ≡ None
        no_value None e = refl
        no_value (Some x) e = absurd cc

  -- ---- lists of asks

  pub sound_opened : (limit result_limit : ℕ) → IsSound reader (empty_cache limit result_limit)
  unfolding IsDistinct
  sound_opened limit result_limit = record {
    distinct = tt;
    whole = tt;
    within = record { blobs = omega arith; results = omega arith };
    hashes = tt;
  }

  pub sound_after : (asks : List CacheAsk) (s : CacheState) → IsSound reader s → IsSound reader (after reader s asks)
  sound_after [] s k = k
  sound_after (ask ∷ asks) s k = sound_after asks (after_ask reader s ask) (leads_ask reader s k ask).sound

  pub after-append : (before later : List CacheAsk) (s : CacheState) → after reader s (before ++ later) ≡ after reader (after reader s before) later
  after-append [] later s = refl
  after-append (ask ∷ before) later s = after-append before later (after_ask reader s ask)

  whole_now : (s : CacheState) → IsSound reader s → (h : List ℕ) (r : Marked) → under h s.results ≡ Some r → r.pinned ≡ true → is_complete (found reader s) reader r.bytes ≡ true
  whole_now s k h r u p = all_under (λ (m : Marked). m.pinned ≡ true → is_complete (found reader s) reader m.bytes ≡ true) h r s.results k.whole u p

  pub stays_after : (later : List CacheAsk) (s : CacheState) → IsSound reader s → (h : List ℕ) (r : Marked) → under h s.results ≡ Some r → r.pinned ≡ true
      → AllByRecursion (λ ask. ask ≡ Unpin h → ⊥) later → StaysPinned reader s (after reader s later) h r
  stays_after [] s k h r u p n = record { result = u; blobs = λ b w. refl; whole = complete_whole s r.bytes (whole_now s k h r u p) }
  stays_after (ask ∷ later) s k h r u p n =
      let step = leads_ask reader s k ask in
      let t = after_ask reader s ask in
      let kept : (b : List ℕ) → refers (found reader s) reader r.bytes b ≡ true → found reader t b ≡ found reader s b = λ b w. step.blobs b (wanted_under reader (found reader s) h r b s.results u p w) in
      let on = stays_after later t step.sound h r (stays_ask reader s k ask h n.0 r u p) p n.1 in
      record {
        result = on.result;
        blobs = λ b w. on.blobs b (same_refers_to reader (found reader s) (found reader t) r.bytes kept b ∙ w) ∙ kept b w;
        whole = on.whole;
      }

  -- a blob that is answered has the hash that was asked for
  pub hash_answered : (s : CacheState) → IsSound reader s → (h bytes : List ℕ) → (get_blob reader s h).0 ≡ given bytes → sha256 bytes ≡ h
  hash_answered s k h bytes e = (elim (bytes_eq (sha256 []) h) as (λ y. bytes_eq (sha256 []) h ≡ y → (cond {A = Answer × CacheState} y (given [], s) (got_blob reader s h (found reader s h))).0 ≡ given bytes → sha256 bytes ≡ h) [
    | true ↦ λ t g. let none : [] ≡ bytes = cc in ap sha256 (sym none) ∙ (bytes_eq-Decides (sha256 []) h).0 t
    | false ↦ λ t g. by (found reader s h) refl g
  ]) refl e
    where
      by : (o : Option (List ℕ)) → found reader s h ≡ o → (got_blob reader s h o).0 ≡ given bytes → sha256 bytes ≡ h
      by None f g = absurd cc
      by (Some b) f g = let same : b ≡ bytes = cc in ap sha256 (sym same) ∙ hash_found h b s.blobs k.hashes f

  pub whole_answer : (s : CacheState) → IsSound reader s → (h bytes : List ℕ) → (get_result reader s h).0 ≡ given bytes → AreWhole reader (get_result reader s h).1 bytes
  whole_answer s k h bytes e = by (under h s.results) e
    where
      by : (o : Option Marked) → (got_result reader s h o).0 ≡ given bytes → AreWhole reader (got_result reader s h o).1 bytes
      by None e = absurd cc
      by (Some r) e = (elim (is_complete (found reader s) reader r.bytes) as (λ y. is_complete (found reader s) reader r.bytes ≡ y
          → (cond {A = Answer × CacheState} y (given r.bytes, result_used reader s h r.bytes) (nothing, s)).0 ≡ given bytes → AreWhole reader (cond {A = Answer × CacheState} y (given r.bytes, result_used reader s h r.bytes) (nothing, s)).1 bytes) [
            | true ↦ λ c g.
                let same : r.bytes ≡ bytes = cc in
                let t = result_used reader s h r.bytes in
                subst (AreWhole reader t) same (complete_whole t r.bytes (same_complete reader (found reader s) (found reader t) r.bytes (λ b w. used_found reader s k h r.bytes b) ∙ c))
            | false ↦ λ c g. absurd cc
          ]) refl e
