-- From state to state by one ask, and by a list of them.
use Rattle.std.proofs.Common.{◌≡◌, ℕ, ◌+◌, ◌≤◌, Bool, true, false, cond, not, ◌&&◌, nat_lt, List, [], ◌∷◌, map, length, bytes_eq, Option, Some, None, is_some, option_map, refl, ap, sym, ◌∙◌, subst}
use Rattle.std.specs.List.{fold, AllByRecursion, IsDistinct}
use Rattle.std.specs.Map.{keys_of}
use Rattle.std.specs.Option.{option_map_or}
use Rattle.std.proofs.lemmas.Slice.Eq.{bytes_eq-Decides}
use Rattle.sha2.specs.Sha256.{sha256}
use Rattle.blob_digest.specs.DigestValue.{DigestValue}
use Rattle.blob_digest.specs.Body.{greatest_blob}
use Rattle.eviction.specs.Kept.{total}
use Rattle.eviction.specs.Entering.{spared_last}
use Rattle.blob_store.proofs.BlobLemmas.{all_filter, all_spared_last}
use Rattle.action_cache.specs.References.{Reader, is_complete, references, outputs_of}
use Rattle.action_cache.specs.Machine.{CacheState, Marked, Answer, done, given, nothing, refused, too_large, hash_differs, pinned_differs, bad_result, not_pinned, why_incomplete, under, others_than, fronted, found, blob_is_pinned, with_blobs, with_results, blobs_entered, results_entered, or_full, blob_stored, put_blob, got_blob, get_blob, result_used, got_result, get_result, differs_pinned, put_result, marked, pinned_now, pin, unpinned_now, unpin}
use Rattle.action_cache.specs.Asking.{CacheAsk, PutBlob, GetBlob, PutResult, GetResult, Pin, Unpin, after_ask, IsWithin}
use Rattle.action_cache.proofs.Thinning.{Enters, enters, thins_last, thins_all, pinned_found, all_found}
use Rattle.action_cache.proofs.Keeping.{under_fronted, under_others, all_under, each_under, fronted_distinct, fronted_all, fronted_total, entered_distinct, is_wanted, ArePinnedWhole, still_whole, wanted_held}

-- a blob stands under its hash
abbrev pub IsUnderHash : List ℕ × List ℕ → Type 0
IsUnderHash b = sha256 b.1 ≡ b.0

abbrev pub AreUnderHashes : List (List ℕ × List ℕ) → Type 0
AreUnderHashes bs = AllByRecursion IsUnderHash bs

module _ (reader : Reader) where
  -- what holds of each state that a cache comes to
  pub record IsSound (s : CacheState) : Type 0 where
    pub distinct : IsDistinct bytes_eq (keys_of s.results)
    pub whole : ArePinnedWhole reader (found reader s) s.results
    pub within : IsWithin s
    pub hashes : AreUnderHashes s.blobs

  -- what an ask leaves: a sound state, and what pinned results want as it was
  pub record Leads (s t : CacheState) : Type 0 where
    pub sound : IsSound t
    pub blobs : (b : List ℕ) → is_wanted reader (found reader s) s.results b ≡ true → found reader t b ≡ found reader s b

  -- a result that is pinned stays
  abbrev pub Stays : CacheState → CacheState → List ℕ → Type 0
  Stays s t h = (r : Marked) → under h s.results ≡ Some r → r.pinned ≡ true → under h t.results ≡ Some r

  pub leads_same : (s : CacheState) → IsSound s → Leads s s
  leads_same s k = record { sound = k; blobs = λ b w. refl }

  -- ---- blobs

  module _ (s : CacheState) (k : IsSound s) where
    blobs_change : (bs : List (List ℕ × List ℕ)) → ((b : List ℕ) → is_wanted reader (found reader s) s.results b ≡ true → under b bs ≡ under b s.blobs)
        → total (λ b. length b.1) bs ≤ s.limit → AreUnderHashes bs → Leads s (with_blobs reader s bs)
    blobs_change bs on fits hashes = record {
      sound = record {
        distinct = k.distinct;
        whole = still_whole reader (found reader s) (λ h. under h bs) s.results on k.whole;
        within = record { blobs = fits; results = k.within.results };
        hashes = hashes;
      };
      blobs = on;
    }

    pub blobs_fronted : (h : List ℕ) → Leads s (with_blobs reader s (fronted h s.blobs))
    blobs_fronted h = blobs_change (fronted h s.blobs) (λ b w. under_fronted b h s.blobs) (subst (λ n. n ≤ s.limit) (sym (fronted_total (λ b. length b.1) h s.blobs)) k.within.blobs) (fronted_all IsUnderHash h s.blobs k.hashes)

    pub blobs_enter : (h bytes : List ℕ) (out : List (List ℕ × List ℕ)) → sha256 bytes ≡ h → is_some (found reader s h) ≡ false → blobs_entered reader s h bytes ≡ Some out → Leads s (with_blobs reader s out)
    blobs_enter h bytes out has absent e =
        let n = enters (blob_is_pinned reader s) (λ b. length b.1) s.limit (h, bytes) (others_than h s.blobs) out e in
        blobs_change out (λ b w. ap (under b) n.out_is ∙ kept n.most b w) n.within
        (subst AreUnderHashes (sym n.out_is) (has, all_spared_last IsUnderHash (blob_is_pinned reader s) n.most (others_than h s.blobs) (all_filter IsUnderHash (λ b. not (bytes_eq h b.0)) s.blobs k.hashes)))
      where
        clash : {y : Bool} → y ≡ true → y ≡ false → ⊥
        clash t f = let e : true ≡ false = sym t ∙ f in cc

        kept : (m : ℕ) (b : List ℕ) → is_wanted reader (found reader s) s.results b ≡ true → under b ((h, bytes) ∷ spared_last (blob_is_pinned reader s) m (others_than h s.blobs)) ≡ under b s.blobs
        kept m b w = (elim (bytes_eq b h) as (λ y. bytes_eq b h ≡ y → cond y (Some bytes) (under b (spared_last (blob_is_pinned reader s) m (others_than h s.blobs))) ≡ under b s.blobs) [
          | true ↦ λ t. absurd (clash (wanted_held reader (found reader s) h s.results k.whole (subst (λ q. is_wanted reader (found reader s) s.results q ≡ true) ((bytes_eq-Decides b h).0 t) w)) absent)
          | false ↦ λ t.
              all_found (blob_is_pinned reader s) b (others_than h s.blobs) (spared_last (blob_is_pinned reader s) m (others_than h s.blobs)) (thins_last (blob_is_pinned reader s) m (others_than h s.blobs))
              (λ x q u. subst (λ j. is_wanted reader (found reader s) s.results j ≡ true) ((bytes_eq-Decides b q).0 u) w)
              ∙ under_others b h s.blobs t
        ]) refl

    into_blobs : (o : Option (List (List ℕ × List ℕ))) → ((out : List (List ℕ × List ℕ)) → o ≡ Some out → Leads s (with_blobs reader s out)) → Leads s (or_full reader s (option_map (with_blobs reader s) o)).1
    into_blobs None f = leads_same s k
    into_blobs (Some out) f = f out refl

    pub leads_put_blob : (h bytes : List ℕ) → Leads s (put_blob reader s h bytes).1
    leads_put_blob h bytes =
        elim (nat_lt greatest_blob (length bytes)) as (λ y. Leads s (cond {A = Answer × CacheState} y (refused too_large, s) (cond (bytes_eq (sha256 bytes) h) (blob_stored reader s h bytes) (refused hash_differs, s))).1) [
          | true ↦ leads_same s k
          | false ↦ (elim (bytes_eq (sha256 bytes) h) as (λ y. bytes_eq (sha256 bytes) h ≡ y → Leads s (cond {A = Answer × CacheState} y (blob_stored reader s h bytes) (refused hash_differs, s)).1) [
            | true ↦ λ t. stored bytes ((bytes_eq-Decides (sha256 bytes) h).0 t)
            | false ↦ λ t. leads_same s k
          ]) refl
        ]
      where
        put : List ℕ → Answer × CacheState
        put bytes = cond {A = Answer × CacheState} (is_some (found reader s h)) (done, with_blobs reader s (fronted h s.blobs)) (or_full reader s (option_map (with_blobs reader s) (blobs_entered reader s h bytes)))

        stored : (bytes : List ℕ) → sha256 bytes ≡ h → Leads s (blob_stored reader s h bytes).1
        stored bytes has = elim (bytes_eq (sha256 []) h) as (λ z. Leads s (cond {A = Answer × CacheState} z (done, s) (put bytes)).1) [
          | true ↦ leads_same s k
          | false ↦ (elim (is_some (found reader s h)) as (λ y. is_some (found reader s h) ≡ y → Leads s (cond {A = Answer × CacheState} y (done, with_blobs reader s (fronted h s.blobs)) (or_full reader s (option_map (with_blobs reader s) (blobs_entered reader s h bytes)))).1) [
            | true ↦ λ t. blobs_fronted h
            | false ↦ λ t. into_blobs (blobs_entered reader s h bytes) (λ out e. blobs_enter h bytes out has t e)
          ]) refl
        ]

    pub leads_get_blob : (h : List ℕ) → Leads s (get_blob reader s h).1
    leads_get_blob h = elim (bytes_eq (sha256 []) h) as (λ y. Leads s (cond {A = Answer × CacheState} y (given [], s) (got_blob reader s h (found reader s h))).1) [
      | true ↦ leads_same s k
      | false ↦ got (found reader s h)
    ]
      where
        got : (o : Option (List ℕ)) → Leads s (got_blob reader s h o).1
        got None = leads_same s k
        got (Some b) = blobs_fronted h

    into_stays : (q : List ℕ) (o : Option (List (List ℕ × List ℕ))) → Stays s (or_full reader s (option_map (with_blobs reader s) o)).1 q
    into_stays q None = λ r u p. u
    into_stays q (Some out) = λ r u p. u

    pub blob_put_stays : (h bytes q : List ℕ) → Stays s (put_blob reader s h bytes).1 q
    blob_put_stays h bytes q =
        elim (nat_lt greatest_blob (length bytes)) as (λ y. Stays s (cond {A = Answer × CacheState} y (refused too_large, s) (cond (bytes_eq (sha256 bytes) h) (blob_stored reader s h bytes) (refused hash_differs, s))).1 q) [
          | true ↦ λ r u p. u
          | false ↦ elim (bytes_eq (sha256 bytes) h) as (λ y. Stays s (cond {A = Answer × CacheState} y (blob_stored reader s h bytes) (refused hash_differs, s)).1 q) [
            | true ↦ stored bytes
            | false ↦ λ r u p. u
          ]
        ]
      where
        put : (bytes : List ℕ) (y : Bool) → Stays s (cond {A = Answer × CacheState} y (done, with_blobs reader s (fronted h s.blobs)) (or_full reader s (option_map (with_blobs reader s) (blobs_entered reader s h bytes)))).1 q
        put bytes true = λ r u p. u
        put bytes false = into_stays q (blobs_entered reader s h bytes)

        stored : (bytes : List ℕ) → Stays s (blob_stored reader s h bytes).1 q
        stored bytes = elim (bytes_eq (sha256 []) h) as (λ z. Stays s (cond {A = Answer × CacheState} z (done, s) (cond (is_some (found reader s h)) (done, with_blobs reader s (fronted h s.blobs)) (or_full reader s (option_map (with_blobs reader s) (blobs_entered reader s h bytes))))).1 q) [
          | true ↦ λ r u p. u
          | false ↦ put bytes (is_some (found reader s h))
        ]

    pub blob_got_stays : (h q : List ℕ) → Stays s (get_blob reader s h).1 q
    blob_got_stays h q = elim (bytes_eq (sha256 []) h) as (λ y. Stays s (cond {A = Answer × CacheState} y (given [], s) (got_blob reader s h (found reader s h))).1 q) [
      | true ↦ λ r u p. u
      | false ↦ got (found reader s h)
    ]
      where
        got : (o : Option (List ℕ)) → Stays s (got_blob reader s h o).1 q
        got None = λ r u p. u
        got (Some b) = λ r u p. u

    -- ---- results

    results_change : (rs : List (List ℕ × Marked)) → IsDistinct bytes_eq (keys_of rs) → ArePinnedWhole reader (found reader s) rs
        → total (λ r. length r.1.bytes + 64) rs ≤ s.result_limit → Leads s (with_results reader s rs)
    results_change rs d w fits = record {
      sound = record { distinct = d; whole = w; within = record { blobs = k.within.blobs; results = fits }; hashes = k.hashes };
      blobs = λ b w. refl;
    }

    -- a result that is put
    abbrev new_result : List ℕ → List ℕ → Marked
    new_result h bytes = record { bytes = bytes; pinned = option_map_or (λ (r : Marked). r.pinned) (under h s.results) false }

    same_bytes : (h bytes : List ℕ) (r : Marked) → differs_pinned reader s bytes (under h s.results) ≡ false → under h s.results ≡ Some r → r.pinned ≡ true → r ≡ new_result h bytes
    same_bytes h bytes r off e p =
        let off' : (r.pinned && not (bytes_eq r.bytes bytes)) ≡ false = ap (differs_pinned reader s bytes) (sym e) ∙ off in
        let equal : r.bytes ≡ bytes = (bytes_eq-Decides r.bytes bytes).0 (by (bytes_eq r.bytes bytes) (sym (λ i. p i && not (bytes_eq r.bytes bytes)) ∙ off')) in
        λ i. record { bytes = equal i; pinned = option_map_or (λ (m : Marked). m.pinned) (sym e i) false }
      where
        by : (y : Bool) → (true && not y) ≡ false → y ≡ true
        by true h = refl
        by false h = absurd cc

    new_whole : (h bytes : List ℕ) → differs_pinned reader s bytes (under h s.results) ≡ false → (new_result h bytes).pinned ≡ true → is_complete (found reader s) reader bytes ≡ true
    new_whole h bytes off p = by (under h s.results) refl
      where
        by : (o : Option Marked) → under h s.results ≡ o → is_complete (found reader s) reader bytes ≡ true
        by None e = let p' : false ≡ true = sym (ap (λ (o : Option Marked). option_map_or (λ (r : Marked). r.pinned) o false) e) ∙ p in absurd cc
        by (Some r) e =
            let on : r.pinned ≡ true = sym (ap (λ (o : Option Marked). option_map_or (λ (m : Marked). m.pinned) o false) e) ∙ p in
            let same = same_bytes h bytes r off e on in
            ap (λ (m : Marked). is_complete (found reader s) reader m.bytes) (sym same)
            ∙ all_under (λ (m : Marked). m.pinned ≡ true → is_complete (found reader s) reader m.bytes ≡ true) h r s.results k.whole e on

    result_enters : (h bytes : List ℕ) (out : List (List ℕ × Marked)) → results_entered reader s h bytes ≡ Some out
        → Enters (λ (r : List ℕ × Marked). r.1.pinned) (λ (r : List ℕ × Marked). length r.1.bytes + 64) s.result_limit (h, new_result h bytes) (others_than h s.results) out
    result_enters h bytes out e = enters (λ (r : List ℕ × Marked). r.1.pinned) (λ (r : List ℕ × Marked). length r.1.bytes + 64) s.result_limit (h, new_result h bytes) (others_than h s.results) out e

    result_put : (h bytes : List ℕ) (out : List (List ℕ × Marked)) → differs_pinned reader s bytes (under h s.results) ≡ false → results_entered reader s h bytes ≡ Some out → Leads s (with_results reader s out)
    result_put h bytes out off e =
        let n = result_enters h bytes out e in
        let P : List ℕ × Marked → Type 0 = λ r. r.1.pinned ≡ true → is_complete (found reader s) reader r.1.bytes ≡ true in
        let rest = spared_last (λ (r : List ℕ × Marked). r.1.pinned) n.most (others_than h s.results) in
        results_change out
        (subst (λ l. IsDistinct bytes_eq (keys_of l)) (sym n.out_is) (entered_distinct (λ (r : List ℕ × Marked). r.1.pinned) n.most h (new_result h bytes) s.results k.distinct))
        (subst (AllByRecursion P) (sym n.out_is) (new_whole h bytes off, thins_all (λ (r : List ℕ × Marked). r.1.pinned) P (others_than h s.results) rest (thins_last (λ (r : List ℕ × Marked). r.1.pinned) n.most (others_than h s.results)) (all_filter P (λ (r : List ℕ × Marked). not (bytes_eq h r.0)) s.results k.whole)))
        n.within

    result_stays : (h bytes : List ℕ) (out : List (List ℕ × Marked)) → differs_pinned reader s bytes (under h s.results) ≡ false → results_entered reader s h bytes ≡ Some out → (q : List ℕ) → Stays s (with_results reader s out) q
    result_stays h bytes out off e q r u p =
        let n = result_enters h bytes out e in
        ap (under q) n.out_is
        ∙ (elim (bytes_eq q h) as (λ y. bytes_eq q h ≡ y → cond y (Some (new_result h bytes)) (under q (spared_last (λ (r : List ℕ × Marked). r.1.pinned) n.most (others_than h s.results))) ≡ Some r) [
          | true ↦ λ t. ap (λ (m : Marked). Some m) (sym (same_bytes h bytes r off (subst (λ j. under j s.results ≡ Some r) ((bytes_eq-Decides q h).0 t) u) p))
          | false ↦ λ t. pinned_found (λ (r : List ℕ × Marked). r.1.pinned) q r (others_than h s.results) (spared_last (λ (r : List ℕ × Marked). r.1.pinned) n.most (others_than h s.results)) (thins_last (λ (r : List ℕ × Marked). r.1.pinned) n.most (others_than h s.results)) (under_others q h s.results t ∙ u) (λ j. p)
        ]) refl

    -- after a put, by the state that it leaves
    puts : (P : CacheState → Type 0) (h bytes : List ℕ) → P s → ((out : List (List ℕ × Marked)) → differs_pinned reader s bytes (under h s.results) ≡ false → results_entered reader s h bytes ≡ Some out → P (with_results reader s out)) → P (put_result reader s h bytes).1
    puts P h bytes here there =
        elim (is_some (reader.outputs bytes)) as (λ y. P (cond {A = Answer × CacheState} y (cond (differs_pinned reader s bytes (under h s.results)) (refused pinned_differs, s) (or_full reader s (option_map (with_results reader s) (results_entered reader s h bytes)))) (refused bad_result, s)).1) [
          | true ↦ (elim (differs_pinned reader s bytes (under h s.results)) as (λ y. differs_pinned reader s bytes (under h s.results) ≡ y → P (cond {A = Answer × CacheState} y (refused pinned_differs, s) (or_full reader s (option_map (with_results reader s) (results_entered reader s h bytes)))).1) [
            | true ↦ λ t. here
            | false ↦ λ t. by (results_entered reader s h bytes) (there_is t)
          ]) refl
          | false ↦ here
        ]
      where
        there_is : differs_pinned reader s bytes (under h s.results) ≡ false → (out : List (List ℕ × Marked)) → results_entered reader s h bytes ≡ Some out → P (with_results reader s out)
        there_is t out e = there out t e

        by : (o : Option (List (List ℕ × Marked))) → ((out : List (List ℕ × Marked)) → o ≡ Some out → P (with_results reader s out)) → P (or_full reader s (option_map (with_results reader s) o)).1
        by None f = here
        by (Some out) f = f out refl

    pub leads_put_result : (h bytes : List ℕ) → Leads s (put_result reader s h bytes).1
    leads_put_result h bytes = puts (Leads s) h bytes (leads_same s k) (result_put h bytes)

    pub stays_put_result : (h bytes q : List ℕ) → Stays s (put_result reader s h bytes).1 q
    stays_put_result h bytes q = puts (λ t. Stays s t q) h bytes (λ r u p. u) (λ out off e. result_stays h bytes out off e q)

    -- ---- a look-up of a result

    pub blobs_used : (b : List ℕ) (ds : List DigestValue) (bs : List (List ℕ × List ℕ)) → under b (fold (λ l (d : DigestValue). fronted d.hash l) bs ds) ≡ under b bs
    blobs_used b [] bs = refl
    blobs_used b (d ∷ ds) bs = blobs_used b ds (fronted d.hash bs) ∙ under_fronted b d.hash bs

    total_used : (ds : List DigestValue) (bs : List (List ℕ × List ℕ)) → total (λ (x : List ℕ × List ℕ). length x.1) (fold (λ l (d : DigestValue). fronted d.hash l) bs ds) ≡ total (λ (x : List ℕ × List ℕ). length x.1) bs
    total_used [] bs = refl
    total_used (d ∷ ds) bs = total_used ds (fronted d.hash bs) ∙ fronted_total (λ (x : List ℕ × List ℕ). length x.1) d.hash bs

    hashes_used : (ds : List DigestValue) (bs : List (List ℕ × List ℕ)) → AreUnderHashes bs → AreUnderHashes (fold (λ l (d : DigestValue). fronted d.hash l) bs ds)
    hashes_used [] bs a = a
    hashes_used (d ∷ ds) bs a = hashes_used ds (fronted d.hash bs) (fronted_all IsUnderHash d.hash bs a)

    pub used_found : (h bytes b : List ℕ) → found reader (result_used reader s h bytes) b ≡ found reader s b
    used_found h bytes b = blobs_used b (references (found reader s) reader (outputs_of reader bytes)) s.blobs

    pub leads_used : (h bytes : List ℕ) → Leads s (result_used reader s h bytes)
    leads_used h bytes = record {
      sound = record {
        distinct = fronted_distinct h s.results k.distinct;
        whole = still_whole reader (found reader s) (found reader (result_used reader s h bytes)) (fronted h s.results) (λ b w. used_found h bytes b)
            (fronted_all (λ (r : List ℕ × Marked). r.1.pinned ≡ true → is_complete (found reader s) reader r.1.bytes ≡ true) h s.results k.whole);
        within = record {
          blobs = subst (λ n. n ≤ s.limit) (sym (total_used (references (found reader s) reader (outputs_of reader bytes)) s.blobs)) k.within.blobs;
          results = subst (λ n. n ≤ s.result_limit) (sym (fronted_total (λ (r : List ℕ × Marked). length r.1.bytes + 64) h s.results)) k.within.results;
        };
        hashes = hashes_used (references (found reader s) reader (outputs_of reader bytes)) s.blobs k.hashes;
      };
      blobs = λ b w. used_found h bytes b;
    }

    gets : (P : CacheState → Type 0) (h : List ℕ) → P s → ((bytes : List ℕ) → P (result_used reader s h bytes)) → P (get_result reader s h).1
    gets P h here there = by (under h s.results)
      where
        by : (o : Option Marked) → P (got_result reader s h o).1
        by None = here
        by (Some r) = elim (is_complete (found reader s) reader r.bytes) as (λ y. P (cond {A = Answer × CacheState} y (given r.bytes, result_used reader s h r.bytes) (nothing, s)).1) [ true ↦ there r.bytes | false ↦ here ]

    pub leads_get_result : (h : List ℕ) → Leads s (get_result reader s h).1
    leads_get_result h = gets (Leads s) h (leads_same s k) (leads_used h)

    pub stays_get_result : (h q : List ℕ) → Stays s (get_result reader s h).1 q
    stays_get_result h q = gets (λ t. Stays s t q) h (λ r u p. u) (λ bytes r u p. under_fronted q h s.results ∙ u)

    -- ---- pins

    marked_keys : (on : Bool) (h : List ℕ) (rs : List (List ℕ × Marked)) → keys_of (map (λ (r : List ℕ × Marked). (r.0, let m : Marked = record { bytes = r.1.bytes; pinned = cond (bytes_eq h r.0) on r.1.pinned } in m)) rs) ≡ keys_of rs
    marked_keys on h [] = refl
    marked_keys on h (r ∷ rs) = ap (λ l. r.0 ∷ l) (marked_keys on h rs)

    marked_total : (on : Bool) (h : List ℕ) (rs : List (List ℕ × Marked)) → total (λ (r : List ℕ × Marked). length r.1.bytes + 64) (map (λ (r : List ℕ × Marked). (r.0, let m : Marked = record { bytes = r.1.bytes; pinned = cond (bytes_eq h r.0) on r.1.pinned } in m)) rs) ≡ total (λ (r : List ℕ × Marked). length r.1.bytes + 64) rs
    marked_total on h [] = refl
    marked_total on h (r ∷ rs) = ap (λ n. (length r.1.bytes + 64) + n) (marked_total on h rs)

    -- what is found under a key, marked anew where it is that of the mark
    under_marked : (on : Bool) (h q : List ℕ) (rs : List (List ℕ × Marked)) (r : Marked) → under q rs ≡ Some r
        → under q (map (λ (x : List ℕ × Marked). (x.0, let m : Marked = record { bytes = x.1.bytes; pinned = cond (bytes_eq h x.0) on x.1.pinned } in m)) rs) ≡ Some (record { bytes = r.bytes; pinned = cond (bytes_eq h q) on r.pinned })
    under_marked on h q [] r e = absurd cc
    under_marked on h q (x ∷ rs) r e = (elim (bytes_eq q x.0) as (λ y. bytes_eq q x.0 ≡ y → cond y (Some x.1) (under q rs) ≡ Some r
        → cond y (Some (let m : Marked = record { bytes = x.1.bytes; pinned = cond (bytes_eq h x.0) on x.1.pinned } in m)) (under q (map (λ (z : List ℕ × Marked). (z.0, let m : Marked = record { bytes = z.1.bytes; pinned = cond (bytes_eq h z.0) on z.1.pinned } in m)) rs)) ≡ Some (record { bytes = r.bytes; pinned = cond (bytes_eq h q) on r.pinned })) [
          | true ↦ λ t u. let same : x.1 ≡ r = cc in λ i. Some (let m : Marked = record { bytes = (same i).bytes; pinned = cond (bytes_eq h (sym ((bytes_eq-Decides q x.0).0 t) i)) on (same i).pinned } in m)
          | false ↦ λ t u. under_marked on h q rs r u
        ]) refl e

    leads_marked : (on : Bool) (h : List ℕ) → ArePinnedWhole reader (found reader s) (marked reader s on h) → Leads s (with_results reader s (marked reader s on h))
    leads_marked on h w = results_change (marked reader s on h) (subst (IsDistinct bytes_eq) (sym (marked_keys on h s.results)) k.distinct) w (subst (λ n. n ≤ s.result_limit) (sym (marked_total on h s.results)) k.within.results)

    on_whole : (h : List ℕ) (r : Marked) (rs : List (List ℕ × Marked)) → is_complete (found reader s) reader r.bytes ≡ true → AllByRecursion (λ e. bytes_eq h e.0 ≡ true → e.1 ≡ r) rs → ArePinnedWhole reader (found reader s) rs
        → ArePinnedWhole reader (found reader s) (map (λ (x : List ℕ × Marked). (x.0, let m : Marked = record { bytes = x.1.bytes; pinned = cond (bytes_eq h x.0) true x.1.pinned } in m)) rs)
    on_whole h r [] c u w = tt
    on_whole h r (x ∷ rs) c u w = (here, on_whole h r rs c u.1 w.1)
      where
        here : cond (bytes_eq h x.0) true x.1.pinned ≡ true → is_complete (found reader s) reader x.1.bytes ≡ true
        here = (elim (bytes_eq h x.0) as (λ y. bytes_eq h x.0 ≡ y → cond y true x.1.pinned ≡ true → is_complete (found reader s) reader x.1.bytes ≡ true) [
          | true ↦ λ t p. ap (λ (m : Marked). is_complete (found reader s) reader m.bytes) (u.0 t) ∙ c
          | false ↦ λ t p. w.0 p
        ]) refl

    off_whole : (h : List ℕ) (rs : List (List ℕ × Marked)) → ArePinnedWhole reader (found reader s) rs
        → ArePinnedWhole reader (found reader s) (map (λ (x : List ℕ × Marked). (x.0, let m : Marked = record { bytes = x.1.bytes; pinned = cond (bytes_eq h x.0) false x.1.pinned } in m)) rs)
    off_whole h [] w = tt
    off_whole h (x ∷ rs) w = (here (bytes_eq h x.0), off_whole h rs w.1)
      where
        here : (y : Bool) → cond y false x.1.pinned ≡ true → is_complete (found reader s) reader x.1.bytes ≡ true
        here true p = absurd cc
        here false p = w.0 p

    pub leads_pin : (h : List ℕ) → Leads s (pin reader s h).1
    leads_pin h = by (under h s.results) refl
      where
        by : (o : Option Marked) → under h s.results ≡ o → Leads s (pinned_now reader s h o).1
        by None e = leads_same s k
        by (Some r) e = (elim (is_complete (found reader s) reader r.bytes) as (λ y. is_complete (found reader s) reader r.bytes ≡ y → Leads s (cond {A = Answer × CacheState} y (done, with_results reader s (marked reader s true h)) (refused (why_incomplete reader s r.bytes), s)).1) [
          | true ↦ λ c. leads_marked true h (on_whole h r s.results c (each_under h r s.results k.distinct e) k.whole)
          | false ↦ λ c. leads_same s k
        ]) refl

    pub stays_pin : (h q : List ℕ) → Stays s (pin reader s h).1 q
    stays_pin h q = by (under h s.results)
      where
        on : (y : Bool) (r : Marked) → r.pinned ≡ true → Some (let m : Marked = record { bytes = r.bytes; pinned = cond y true r.pinned } in m) ≡ Some r
        on true r p = λ i. Some (let m : Marked = record { bytes = r.bytes; pinned = sym p i } in m)
        on false r p = refl

        by : (o : Option Marked) → Stays s (pinned_now reader s h o).1 q
        by None = λ r u p. u
        by (Some v) = elim (is_complete (found reader s) reader v.bytes) as (λ y. Stays s (cond {A = Answer × CacheState} y (done, with_results reader s (marked reader s true h)) (refused (why_incomplete reader s v.bytes), s)).1 q) [
          | true ↦ λ r u p. under_marked true h q s.results r u ∙ on (bytes_eq h q) r p
          | false ↦ λ r u p. u
        ]

    pub leads_unpin : (h : List ℕ) → Leads s (unpin reader s h).1
    leads_unpin h = by (under h s.results)
      where
        by : (o : Option Marked) → Leads s (unpinned_now reader s h o).1
        by None = leads_same s k
        by (Some r) = elim r.pinned as (λ y. Leads s (cond {A = Answer × CacheState} y (done, with_results reader s (marked reader s false h)) (refused not_pinned, s)).1) [
          | true ↦ leads_marked false h (off_whole h s.results k.whole)
          | false ↦ leads_same s k
        ]

    pub stays_unpin : (h q : List ℕ) → (Unpin h ≡ Unpin q → ⊥) → Stays s (unpin reader s h).1 q
    stays_unpin h q other = by (under h s.results)
      where
        off : (y : Bool) → bytes_eq h q ≡ y → (r : Marked) → Some (let m : Marked = record { bytes = r.bytes; pinned = cond y false r.pinned } in m) ≡ Some r
        off true t r = absurd (other (ap Unpin ((bytes_eq-Decides h q).0 t)))
        off false t r = refl

        by : (o : Option Marked) → Stays s (unpinned_now reader s h o).1 q
        by None = λ r u p. u
        by (Some v) = elim v.pinned as (λ y. Stays s (cond {A = Answer × CacheState} y (done, with_results reader s (marked reader s false h)) (refused not_pinned, s)).1 q) [
          | true ↦ λ r u p. under_marked false h q s.results r u ∙ off (bytes_eq h q) refl r
          | false ↦ λ r u p. u
        ]

    -- ---- an ask

    pub leads_ask : (ask : CacheAsk) → Leads s (after_ask reader s ask)
    leads_ask (PutBlob h bytes) = leads_put_blob h bytes
    leads_ask (GetBlob h) = leads_get_blob h
    leads_ask (PutResult h bytes) = leads_put_result h bytes
    leads_ask (GetResult h) = leads_get_result h
    leads_ask (Pin h) = leads_pin h
    leads_ask (Unpin h) = leads_unpin h

    pub stays_ask : (ask : CacheAsk) (q : List ℕ) → (ask ≡ Unpin q → ⊥) → Stays s (after_ask reader s ask) q
    stays_ask (PutBlob h bytes) q n = blob_put_stays h bytes q
    stays_ask (GetBlob h) q n = blob_got_stays h q
    stays_ask (PutResult h bytes) q n = stays_put_result h bytes q
    stays_ask (GetResult h) q n = stays_get_result h q
    stays_ask (Pin h) q n = stays_pin h q
    stays_ask (Unpin h) q n = stays_unpin h q n
