-- What a memo keeps, and what is known when it has asked.
use Rattle.std.proofs.Common.{◌≡◌, ◌≢◌, ℕ, ◌+◌, ◌≤◌, List, Bool, true, false, refl, ap, sym, ◌∙◌, subst, arith, inl, inr}
use Rattle.std.specs.Prelude.{◌⊎◌, ◌&&◌, nat_eq, Option, Some, None, option_map, Contains}
use Rattle.std.specs.Ordering.{is_eq}
use Rattle.std.specs.Cmp.Lexicographic.{pointwise, bytes_decides}
use Rattle.std.specs.BTreeMap.{get}
use Rattle.std.specs.Map.{lookup}
use Rattle.std.specs.declared.vec.Vec.{Vec}
use Rattle.std.proofs.lemmas.Bool.{eqb-true, eq-eqb}
use Rattle.blob_digest.specs.Digest.{DigestValue, digest_cmp, empty_digest}
use Rattle.blob_source.specs.Source.{Telling, Asks, AsksBlob, AsksResult, IsBlobUnder}
use Rattle.blob_source.proofs.Digests.{other_digests}
use Rattle.tree.specs.declared.memo.Memo.{Memo}
use Rattle.tree.specs.declared.memo.Kept.{Kept}
use Rattle.tree.specs.Memo.{Asked, blob, result, Known, IsKnownOf, IsSame, KnowsToo, AsksNoOther, Learns, LooksAtBlob, LooksAtResult, kept_bytes, known_by, count_unknown}
use Rattle.tree.proofs.LookupOnce.{bytes_once}
use Rattle.tree.proofs.Learning.{fewer, one_fewer, one_unknown, known_still}

-- ---- two digests, and two things that may be asked for

and_true : (a b : Bool) → (a && b) ≡ true → (a ≡ true) × (b ≡ true)
and_true true true e = (refl, refl)
and_true true false e = cc
and_true false b e = cc

pub same_or_other : (d e : DigestValue) → (d ≡ e) ⊎ (d ≢ e)
same_or_other d e = by (pointwise nat_eq d.hash e.hash && nat_eq d.size e.size) refl
  where
    by : (b : Bool) → (pointwise nat_eq d.hash e.hash && nat_eq d.size e.size) ≡ b → (d ≡ e) ⊎ (d ≢ e)
    by true h =
        let both = and_true (pointwise nat_eq d.hash e.hash) (nat_eq d.size e.size) h in
        let hashes = (bytes_decides d.hash e.hash).0 both.0 in
        let sizes = eqb-true d.size e.size both.1 in
        inl (λ i. record { hash = hashes i; size = sizes i })
    by false h = inr (λ is.
        let hashes = (bytes_decides d.hash e.hash).1 (ap (λ x. x.hash) is) in
        let sizes = eq-eqb d.size e.size (ap (λ x. x.size) is) in
        let both : (pointwise nat_eq d.hash e.hash && nat_eq d.size e.size) ≡ true = ap (λ b. b && nat_eq d.size e.size) hashes ∙ sizes in
        (let never : ◌≡◌ {A = Bool} true false = sym both ∙ h in cc))

other_blob : {d e : DigestValue} → e ≢ d → ◌≢◌ {A = Asked} (blob e) (blob d)
other_blob n is = n (ap digest_in is)
  where
    digest_in : Asked → DigestValue
    digest_in (blob x) = x
    digest_in (result x) = x

other_result : {d e : DigestValue} → e ≢ d → ◌≢◌ {A = Asked} (result e) (result d)
other_result n is = n (ap digest_in is)
  where
    digest_in : Asked → DigestValue
    digest_in (blob x) = x
    digest_in (result x) = x

blob_or_result : {d e : DigestValue} → ◌≡◌ {A = Asked} (blob d) (result e) → ⊥
blob_or_result is = cc

-- ---- tables

module _ {A : Type 0} (old new : Memo A) (d : DigestValue) where
  pub knows_blob : (k : Kept A) → get digest_cmp new.blobs d ≡ Some k
      → ((e : DigestValue) → is_eq (digest_cmp d e) ≡ false → get digest_cmp new.blobs e ≡ get digest_cmp old.blobs e)
      → new.results ≡ old.results → KnowsToo (blob d) (kept_bytes k) (known_by old) (known_by new)
  knows_blob k there others same = record { held = ap (option_map kept_bytes) there; others = by }
    where
      by : (e : Asked) → e ≢ blob d → known_by new e ≡ known_by old e
      by (blob e) n = ap (option_map kept_bytes) (others e (other_digests d e (λ is. n (ap blob is))))
      by (result e) n = ap (λ m. option_map (λ (v : Vec ℕ A). v.items) (get digest_cmp m e)) same

  pub knows_result : (v : Vec ℕ A) → get digest_cmp new.results d ≡ Some v
      → ((e : DigestValue) → is_eq (digest_cmp d e) ≡ false → get digest_cmp new.results e ≡ get digest_cmp old.results e)
      → new.blobs ≡ old.blobs → KnowsToo (result d) v.items (known_by old) (known_by new)
  knows_result v there others same = record { held = ap (option_map (λ (x : Vec ℕ A). x.items)) there; others = by }
    where
      by : (e : Asked) → e ≢ result d → known_by new e ≡ known_by old e
      by (result e) n = ap (option_map (λ (x : Vec ℕ A). x.items)) (others e (other_digests d e (λ is. n (ap result is))))
      by (blob e) n = ap (λ m. option_map kept_bytes (get digest_cmp m e)) same

-- a table of results that is as it was
pub same_results : {A : Type 0} (old new : Memo A) → new.blobs ≡ old.blobs → new.results.entries ≡ old.results.entries → IsSame (known_by old) (known_by new)
same_results old new same entries (blob e) = ap (λ m. option_map kept_bytes (get digest_cmp m e)) same
same_results {A} old new same entries (result e) = ap (λ es. option_map (λ (v : Vec ℕ A). v.items) (lookup (λ k. is_eq (digest_cmp e k)) es)) entries

-- a fetch of one blob
pub others_at : {d : DigestValue} {old new : Telling} → (d ≢ empty_digest → AsksBlob d old new) → (d ≡ empty_digest → new ≡ old) → AsksNoOther (LooksAtBlob d) old new
others_at {d} {old} {new} once unasked = by (same_or_other d empty_digest)
  where
    by : (d ≡ empty_digest) ⊎ (d ≢ empty_digest) → AsksNoOther (LooksAtBlob d) old new
    by (inl empty) = let same = unasked empty in record { blobs = λ e not. ap (λ t. t.blobs e) same; results = λ e not. ap (λ t. t.results e) same }
    by (inr other) =
        let asked = once other in
        record { blobs = λ e not. asked.blobs.others e (λ is. not (ap blob is, other)); results = λ e not. ap (λ R. R e) asked.results }

-- a call for one result
others_result : {d : DigestValue} {old new : Telling} → AsksResult d old new → AsksNoOther (LooksAtResult d) old new
others_result asked = record { blobs = λ e not. ap (λ B. B e) asked.blobs; results = λ e not. asked.results.others e (λ is. not (ap result is)) }

-- ---- a blob

module _ {d : DigestValue} {old new : Known} {before after : Telling} (known : IsKnownOf old before) (asks : Asks 1 before after) where
  -- it is known then, and wasn't if the source was asked
  pub learns_blob : {b : List ℕ} {refused : Type 0} → AsksNoOther (LooksAtBlob d) before after → (d ≡ empty_digest → after ≡ before) → (old (blob d) ≡ None) ⊎ (after ≡ before)
      → IsBlobUnder after.blobs d b → KnowsToo (blob d) b old new → Learns (LooksAtBlob d) refused old new before after
  learns_blob {b} only unasked asked held too = record {
    known = now;
    kept = kept;
    others = λ a not other. too.others a (λ is. not (is, λ empty. other (is ∙ ap blob empty)));
    only = only;
    once = λ list covers. let most = by_once list (λ other. covers (blob d) (refl, other)) (same_or_other d empty_digest) asked in omega (arith, most);
    learned = λ none list covers. by_once list (λ other. covers (blob d) (refl, other)) (same_or_other d empty_digest) asked;
    last = λ list covers. let most = by_once list (λ other. covers (blob d) (refl, other)) (same_or_other d empty_digest) asked in omega (arith, most);
  }
    where
      still : IsKnownOf old after
      still = known_still asks.some.blobs asks.some.results known

      kept_at : (e : DigestValue) (x : List ℕ) → old (blob e) ≡ Some x → (e ≡ d) ⊎ (e ≢ d) → new (blob e) ≡ Some x
      kept_at e x is (inr n) = too.others (blob e) (other_blob n) ∙ is
      kept_at e x is (inl same) =
          let was = subst (λ y. IsBlobUnder after.blobs y x) same (still.blobs e x is) in
          ap (λ y. new (blob y)) same ∙ too.held ∙ ap Some (bytes_once after.blobs d b x held.held was.held)

      kept : (a : Asked) (x : List ℕ) → old a ≡ Some x → new a ≡ Some x
      kept (blob e) x is = kept_at e x is (same_or_other e d)
      kept (result e) x is = too.others (result e) (λ h. blob_or_result (sym h)) ∙ is

      some_is : {x y : List ℕ} → ◌≡◌ {A = Option (List ℕ)} (Some x) (Some y) → x ≡ y
      some_is e = cc

      now_at : (e : DigestValue) (x : List ℕ) → new (blob e) ≡ Some x → (e ≡ d) ⊎ (e ≢ d) → IsBlobUnder after.blobs e x
      now_at e x is (inr n) = still.blobs e x (sym (too.others (blob e) (other_blob n)) ∙ is)
      now_at e x is (inl same) =
          let bytes : b ≡ x = some_is (sym too.held ∙ ap (λ y. new (blob y)) (sym same) ∙ is) in
          subst (λ y. IsBlobUnder after.blobs y x) (sym same) (subst (IsBlobUnder after.blobs d) bytes held)

      now : IsKnownOf new after
      now = record {
        blobs = λ e x is. now_at e x is (same_or_other e d);
        results = λ e x is. still.results e x (sym (too.others (result e) (λ h. blob_or_result (sym h))) ∙ is);
      }

      by_once : (list : List Asked) → (d ≢ empty_digest → Contains list (blob d)) → (d ≡ empty_digest) ⊎ (d ≢ empty_digest) → (old (blob d) ≡ None) ⊎ (after ≡ before)
          → after.calls + count_unknown new list ≤ before.calls + count_unknown old list
      by_once list covers empty (inr same) = let calls = ap (λ t. t.calls) same in let rest = fewer old new kept list in omega (arith, calls, rest)
      by_once list covers (inl empty) (inl none) = let calls = ap (λ t. t.calls) (unasked empty) in let rest = fewer old new kept list in omega (arith, calls, rest)
      by_once list covers (inr other) (inl none) =
          let one = one_fewer old new kept (blob d) b list none too.held (covers other) in
          let most = asks.most_calls in
          omega (arith, one, most)

-- what was asked for isn't known: the call is refused
module _ {old new : Known} {before after : Telling} (known : IsKnownOf old before) (asks : Asks 1 before after) (same : IsSame old new) where
  same_known : IsKnownOf new after
  same_known =
      let still : IsKnownOf old after = known_still {old = before} {new = after} asks.some.blobs asks.some.results known in
      record {
        blobs = λ e x is. still.blobs e x (sym (same (blob e)) ∙ is);
        results = λ e x is. still.results e x (sym (same (result e)) ∙ is);
      }

  one_lost : (list : List Asked) → after.calls + count_unknown new list ≤ before.calls + count_unknown old list + 1
  one_lost list = let most = asks.most_calls in let rest = fewer old new (λ a b is. same a ∙ is) list in omega (arith, most, rest)

  pub learns_no_blob : {d : DigestValue} {refused : Type 0} → AsksNoOther (LooksAtBlob d) before after → (d ≡ empty_digest → after ≡ before) → (old (blob d) ≡ None) ⊎ (after ≡ before) → refused → Learns (LooksAtBlob d) refused old new before after
  learns_no_blob {d} only unasked asked is = record {
    known = same_known;
    kept = λ a x k. same a ∙ k;
    others = λ a not other. same a;
    only = only;
    once = λ list covers. by list (λ other. covers (blob d) (refl, other)) (same_or_other d empty_digest) asked;
    learned = λ none list covers. absurd (none is);
    last = λ list covers. one_lost list;
  }
    where
      by : (list : List Asked) → (d ≢ empty_digest → Contains list (blob d)) → (d ≡ empty_digest) ⊎ (d ≢ empty_digest) → (old (blob d) ≡ None) ⊎ (after ≡ before) → after.calls ≤ before.calls + count_unknown old list
      by list covers empty (inr same) = let calls = ap (λ t. t.calls) same in omega (arith, calls)
      by list covers (inl empty) (inl none) = let calls = ap (λ t. t.calls) (unasked empty) in omega (arith, calls)
      by list covers (inr other) (inl none) = let one = one_unknown old (blob d) list none (covers other) in let most = asks.most_calls in omega (arith, one, most)

  pub learns_no_result : {d : DigestValue} {refused : Type 0} → AsksResult d before after → old (result d) ≡ None → refused → Learns (LooksAtResult d) refused old new before after
  learns_no_result {d} asked none is = record {
    known = same_known;
    kept = λ a x k. same a ∙ k;
    others = λ a not other. same a;
    only = others_result asked;
    once = λ list covers. let one = one_unknown old (result d) list none (covers (result d) refl) in let most = asks.most_calls in omega (arith, one, most);
    learned = λ not list covers. absurd (not is);
    last = λ list covers. one_lost list;
  }

-- ---- a result

pub learns_result : {d : DigestValue} {old new : Known} {before after : Telling} {b : List ℕ} {refused : Type 0} → IsKnownOf old before → Asks 1 before after → AsksResult d before after
    → old (result d) ≡ None → after.results d ≡ Some b → KnowsToo (result d) b old new → Learns (LooksAtResult d) refused old new before after
learns_result {d} {old} {new} {before} {after} {b} known asks asked none held too = record {
  known = now;
  kept = kept;
  others = λ a not other. too.others a not;
  only = others_result asked;
  once = λ list covers.
      let one = one_fewer old new kept (result d) b list none too.held (covers (result d) refl) in
      let most = asks.most_calls in
      omega (arith, one, most);
  learned = λ no list covers.
      let one = one_fewer old new kept (result d) b list none too.held (covers (result d) refl) in
      let most = asks.most_calls in
      omega (arith, one, most);
  last = λ list covers. let most = asks.most_calls in let rest = fewer old new kept list in omega (arith, most, rest);
}
  where
    still : IsKnownOf old after
    still = known_still asks.some.blobs asks.some.results known

    some_is : {x y : List ℕ} → ◌≡◌ {A = Option (List ℕ)} (Some x) (Some y) → x ≡ y
    some_is e = cc

    none_is : {x : List ℕ} → ◌≡◌ {A = Option (List ℕ)} None (Some x) → ⊥
    none_is e = cc

    kept_at : (e : DigestValue) (x : List ℕ) → old (result e) ≡ Some x → (e ≡ d) ⊎ (e ≢ d) → new (result e) ≡ Some x
    kept_at e x is (inr n) = too.others (result e) (other_result n) ∙ is
    kept_at e x is (inl same) = absurd (none_is (sym none ∙ ap (λ y. old (result y)) (sym same) ∙ is))

    kept : (a : Asked) (x : List ℕ) → old a ≡ Some x → new a ≡ Some x
    kept (blob e) x is = too.others (blob e) blob_or_result ∙ is
    kept (result e) x is = kept_at e x is (same_or_other e d)

    now_at : (e : DigestValue) (x : List ℕ) → new (result e) ≡ Some x → (e ≡ d) ⊎ (e ≢ d) → after.results e ≡ Some x
    now_at e x is (inr n) = still.results e x (sym (too.others (result e) (other_result n)) ∙ is)
    now_at e x is (inl same) =
        let bytes : b ≡ x = some_is (sym too.held ∙ ap (λ y. new (result y)) (sym same) ∙ is) in
        ap after.results same ∙ held ∙ ap Some bytes

    now : IsKnownOf new after
    now = record {
      blobs = λ e x is. still.blobs e x (sym (too.others (blob e) blob_or_result) ∙ is);
      results = λ e x is. now_at e x is (same_or_other e d);
    }
