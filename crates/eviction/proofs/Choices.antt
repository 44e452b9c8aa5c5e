-- What one pass from the least recent entry picks is what a new entry makes the store evict.
use Rattle.std.proofs.Common.{◌≡◌, ℕ, zero, suc, ◌+◌, ◌-◌, ◌≤◌, ◌<◌, Bool, true, false, cond, not, ◌||◌, nat_le, nat_lt, List, [], ◌∷◌, reverse, length, Option, Some, None, refl, ap, sym, ◌∙◌, subst, arith}
use Rattle.std.specs.Prelude.{◌==◌}
use Rattle.std.specs.Cmp.{IsEquivalence}
use Rattle.std.specs.List.{filter, AllByRecursion, IsDistinct}
use Rattle.std.specs.Map.{keys_of, lookup_entry}
use Rattle.std.specs.Option.{option_map_or}
use Rattle.lru.proofs.CallerLemmas.{Contains-lookup_entry}
use Rattle.std.proofs.lemmas.Bool.Decides.{Decides-eqb, nat_tests}
use Rattle.std.proofs.lemmas.List.{length-reverse, reverse-reverse}
use Rattle.std.proofs.lemmas.Map.Keys.{IsDistinct-head, IsDistinct-tail}
use Rattle.eviction.specs.Kept.{Held, Kept, IsTallied, is_pinned, cost_of, total_cost, pinned_cost, others}
use Rattle.eviction.specs.Entering.{least, spared, without_last, stored_key, new_entry, can_enter, evicted, entered}
use Rattle.eviction.specs.Pinning.{is_among}
use Rattle.eviction.specs.Victims.{IsStanding, part_if_pinned, victims, without_keys, placed_first}
use Rattle.eviction.proofs.Filters.{filter_all, filter-reverse}
use Rattle.eviction.proofs.Distinct.{filter_distinct, reverse_distinct}
use Rattle.eviction.proofs.Costs.{total-reverse, pinned_le}

pub le_is : (x y : ℕ) → x ≤ y → nat_le x y ≡ true
le_is x y h = grind (arith, nat_tests)

pub is_le : (x y : ℕ) → nat_le x y ≡ true → x ≤ y
is_le x y h = grind (arith, nat_tests)

lt_is : (x y : ℕ) → y < x → nat_le x y ≡ false
lt_is x y h = grind (arith, nat_tests)

pub least_same : (p q : ℕ → Bool) → ((m : ℕ) → p m ≡ q m) → (n : ℕ) → least p n ≡ least q n
least_same p q h zero = refl
least_same p q h (suc n) = λ i. cond (h 0 i) 0 (suc (least_same (λ m. p (suc m)) (λ m. q (suc m)) (λ m. h (suc m)) n i))

-- the entries without the first m that are not pinned
abbrev pub without_first : {K : Type 0} → ℕ → List (K × Held) → List (K × Held)
without_first m es = spared is_pinned m es

-- the least number passes, where the bound does
pub least_passes : (p : ℕ → Bool) (n : ℕ) → p n ≡ true → p (least p n) ≡ true
least_passes p zero h = h
least_passes p (suc n) h = (elim (p 0) as (λ b. p 0 ≡ b → p (cond b 0 (suc (least (λ m. p (suc m)) n))) ≡ true) [
  | true ↦ λ t. t
  | false ↦ λ t. least_passes (λ m. p (suc m)) n h
]) refl

-- no lesser one does
pub least_is_least : (p : ℕ → Bool) (n m : ℕ) → m < least p n → p m ≡ false
least_is_least p zero m h = absurd (omega arith)
least_is_least p (suc n) m h = (elim (p 0) as (λ b. p 0 ≡ b → m < cond b 0 (suc (least (λ j. p (suc j)) n)) → p m ≡ false) [
  | true ↦ λ t below. absurd (omega arith)
  | false ↦ λ t below. at m below t (λ j. least_is_least (λ i. p (suc i)) n j)
]) refl h
  where
    at : (m : ℕ) → m < suc (least (λ j. p (suc j)) n) → p 0 ≡ false → ((j : ℕ) → j < least (λ i. p (suc i)) n → p (suc j) ≡ false) → p m ≡ false
    at zero below t on = t
    at (suc m) below t on = on m (omega arith)

module _ {K : Type 0} where
  pub without_none : (es : List (K × Held)) → without_first 0 es ≡ es
  without_none [] = refl
  without_none (e ∷ es) = refl

  pub keeps_pinned : (m : ℕ) (e : K × Held) (es : List (K × Held)) → is_pinned e ≡ true → without_first m (e ∷ es) ≡ e ∷ without_first m es
  keeps_pinned zero e es h = ap (λ l. e ∷ l) (sym (without_none es))
  keeps_pinned (suc m) e es h = rw h refl

  pub gives_up : (m : ℕ) (e : K × Held) (es : List (K × Held)) → is_pinned e ≡ false → without_first (suc m) (e ∷ es) ≡ without_first m es
  gives_up m e es h = rw h refl

  same_filter : (p q : K × Held → Bool) (es : List (K × Held)) → AllByRecursion (λ e. p e ≡ q e) es → filter p es ≡ filter q es
  same_filter p q [] h = refl
  same_filter p q (e ∷ es) h = λ i. cond (h.0 i) (e ∷ same_filter p q es h.1 i) (same_filter p q es h.1 i)

  -- without as many as there are, the pinned ones are left
  pub without_all : (m : ℕ) (es : List (K × Held)) → length es ≤ m → without_first m es ≡ filter is_pinned es
  without_all m [] h = refl
  without_all zero (e ∷ es) h = absurd (omega arith)
  without_all (suc m) (e ∷ es) h = (elim (is_pinned e) as (λ b. is_pinned e ≡ b → cond b (e ∷ without_first (suc m) es) (without_first m es) ≡ cond b (e ∷ filter is_pinned es) (filter is_pinned es)) [
    | true ↦ λ t. ap (λ l. e ∷ l) (without_all (suc m) es (omega arith))
    | false ↦ λ t. without_all m es (omega arith)
  ]) refl

  -- the pinned entries all stay
  pub pinned-without_first : (m : ℕ) (es : List (K × Held)) → filter is_pinned (without_first m es) ≡ filter is_pinned es
  pinned-without_first m [] = refl
  pinned-without_first zero (e ∷ es) = refl
  pinned-without_first (suc m) (e ∷ es) = (elim (is_pinned e) as (λ b. is_pinned e ≡ b → filter is_pinned (cond b (e ∷ without_first (suc m) es) (without_first m es)) ≡ cond b (e ∷ filter is_pinned es) (filter is_pinned es)) [
    | true ↦ λ t. rw t (ap (λ l. e ∷ l) (pinned-without_first (suc m) es))
    | false ↦ λ t. pinned-without_first m es
  ]) refl

module _ {K : Type 0} (eq : K → K → Bool) (k : K) (overhead : ℕ) where
  abbrev Apart : List (K × Held) → Type 0
  Apart es = AllByRecursion (λ e. eq k e.0 ≡ false) es

  victims_none : (es : List (K × Held)) → victims eq k overhead 0 es ≡ []
  victims_none [] = refl
  victims_none (e ∷ es) = refl

  skipped : (x : ℕ) (e : K × Held) (es : List (K × Held)) → (eq k e.0 || is_pinned e) ≡ true → victims eq k overhead x (e ∷ es) ≡ victims eq k overhead x es
  skipped x e es h = rw h ((elim (x == 0) as (λ b. (x == 0) ≡ b → cond b [] (victims eq k overhead x es) ≡ victims eq k overhead x es) [
    | true ↦ λ t. rw ((Decides-eqb x 0).0 t) (sym (victims_none es))
    | false ↦ λ t. refl
  ]) refl)

  -- the key's own entry is passed over
  pub victims-others : (x : ℕ) (es : List (K × Held)) → victims eq k overhead x es ≡ victims eq k overhead x (others eq k es)
  victims-others x [] = refl
  victims-others x (e ∷ es) = (elim (eq k e.0) as (λ b. eq k e.0 ≡ b → victims eq k overhead x (e ∷ es) ≡ victims eq k overhead x (cond (not b) (e ∷ others eq k es) (others eq k es))) [
    | true ↦ λ t. skipped x e es (rw t refl) ∙ victims-others x es
    | false ↦ λ t. λ i. cond (x == 0) [] (cond (eq k e.0 || is_pinned e) (victims-others x es i) (e.0 ∷ victims-others (x - cost_of overhead e) es i))
  ]) refl

  -- what holds of all keys, holds of those that are picked
  pub victims_all : (P : K → Type 0) (x : ℕ) (es : List (K × Held)) → AllByRecursion P (keys_of es) → AllByRecursion P (victims eq k overhead x es)
  victims_all P x [] h = tt
  victims_all P x (e ∷ es) h =
      elim (x == 0) as (λ b. AllByRecursion P (cond b [] (cond (eq k e.0 || is_pinned e) (victims eq k overhead x es) (e.0 ∷ victims eq k overhead (x - cost_of overhead e) es)))) [
        | true ↦ tt
        | false ↦ elim (eq k e.0 || is_pinned e) as (λ b. AllByRecursion P (cond b (victims eq k overhead x es) (e.0 ∷ victims eq k overhead (x - cost_of overhead e) es))) [
          | true ↦ victims_all P x es h.1
          | false ↦ (h.0, victims_all P (x - cost_of overhead e) es h.1)
        ]
      ]

  pub others_apart : (es : List (K × Held)) → Apart (others eq k es)
  others_apart [] = tt
  others_apart (e ∷ es) = (elim (eq k e.0) as (λ b. eq k e.0 ≡ b → Apart (cond (not b) (e ∷ others eq k es) (others eq k es))) [
    | true ↦ λ t. others_apart es
    | false ↦ λ t. (t, others_apart es)
  ]) refl

  module _ (laws : IsEquivalence eq) where
    not_among : (y : K) (vs : List K) → AllByRecursion (λ v. eq y v ≡ false) vs → is_among eq vs y ≡ false
    not_among y [] h = refl
    not_among y (v ∷ vs) h = λ i. (laws.symm v y ∙ h.0) i || not_among y vs h.1 i

    nothing_among : (es : List (K × Held)) → AllByRecursion (λ e. not (is_among eq [] e.0) ≡ true) es
    nothing_among [] = tt
    nothing_among (e ∷ es) = (refl, nothing_among es)

    by_head : (y : K) (vs : List K) (es : List (K × Held)) → AllByRecursion (λ j. eq y j ≡ false) (keys_of es) → AllByRecursion (λ e. not (is_among eq (y ∷ vs) e.0) ≡ not (is_among eq vs e.0)) es
    by_head y vs [] h = tt
    by_head y vs (e ∷ es) h = ((λ i. not (h.0 i || is_among eq vs e.0)), by_head y vs es h.1)

    drops_head : (e : K × Held) (vs : List K) (es : List (K × Held)) → AllByRecursion (λ j. eq e.0 j ≡ false) (keys_of es) → without_keys eq (e.0 ∷ vs) (e ∷ es) ≡ without_keys eq vs es
    drops_head e vs es apart = rw (laws.refl e.0) (same_filter (λ f. not (is_among eq (e.0 ∷ vs) f.0)) (λ f. not (is_among eq vs f.0)) es (by_head e.0 vs es apart))

    keeps_head : (e : K × Held) (vs : List K) (es : List (K × Held)) → is_among eq vs e.0 ≡ false → without_keys eq vs (e ∷ es) ≡ e ∷ without_keys eq vs es
    keeps_head e vs es h = rw h refl

    -- to take away the keys that are picked is to take away as many unpinned entries
    pub without_victims : (x : ℕ) (es : List (K × Held)) → IsDistinct eq (keys_of es) → Apart es
        → without_keys eq (victims eq k overhead x es) es ≡ without_first (length (victims eq k overhead x es)) es
    without_victims x [] d a = refl
    without_victims x (e ∷ es) d a =
        let apart = IsDistinct-head eq e.0 (keys_of es) d in
        let tail = IsDistinct-tail eq e.0 (keys_of es) d in
        (elim (x == 0) as (λ b. (x == 0) ≡ b → without_keys eq (victims eq k overhead x (e ∷ es)) (e ∷ es) ≡ without_first (length (victims eq k overhead x (e ∷ es))) (e ∷ es)) [
          | true ↦ λ t.
              let none : victims eq k overhead x (e ∷ es) ≡ [] = rw t refl in
              subst (λ ws. without_keys eq ws (e ∷ es) ≡ without_first (length ws) (e ∷ es)) (sym none) (filter_all (λ f. not (is_among eq [] f.0)) (e ∷ es) (nothing_among (e ∷ es)))
          | false ↦ λ t. (elim (is_pinned e) as (λ b. is_pinned e ≡ b → without_keys eq (victims eq k overhead x (e ∷ es)) (e ∷ es) ≡ without_first (length (victims eq k overhead x (e ∷ es))) (e ∷ es)) [
            | true ↦ λ p.
                let same = skipped x e es (rw (a.0, p) refl) in
                let vs = victims eq k overhead x es in
                subst (λ ws. without_keys eq ws (e ∷ es) ≡ without_first (length ws) (e ∷ es)) (sym same)
                (keeps_head e vs es (not_among e.0 vs (victims_all (λ j. eq e.0 j ≡ false) x es apart)) ∙ ap (λ l. e ∷ l) (without_victims x es tail a.1) ∙ sym (keeps_pinned (length vs) e es p))
            | false ↦ λ p.
                let vs = victims eq k overhead (x - cost_of overhead e) es in
                let picked : victims eq k overhead x (e ∷ es) ≡ e.0 ∷ vs = rw (t, a.0, p) refl in
                subst (λ ws. without_keys eq ws (e ∷ es) ≡ without_first (length ws) (e ∷ es)) (sym picked)
                (drops_head e vs es apart ∙ without_victims (x - cost_of overhead e) es tail a.1 ∙ sym (gives_up (length vs) e es p))
          ]) refl
        ]) refl

  skipped_free : (x : ℕ) (e : K × Held) (es : List (K × Held)) → (x == 0) ≡ false → eq k e.0 ≡ false → is_pinned e ≡ false
      → victims eq k overhead x (e ∷ es) ≡ e.0 ∷ victims eq k overhead (x - cost_of overhead e) es
  skipped_free x e es t a p = rw (t, a, p) refl

  -- with the rest of the costs, c, what is left when the picked ones are gone fits a limit
  module _ (limit : ℕ) where
    abbrev Fits : ℕ → List (K × Held) → ℕ → Bool
    Fits c es m = nat_le (c + total_cost overhead (without_first m es)) limit

    moved : (c m : ℕ) (e : K × Held) (es : List (K × Held)) → is_pinned e ≡ true → Fits c (e ∷ es) m ≡ Fits (c + cost_of overhead e) es m
    moved c m e es p =
        let kept = keeps_pinned m e es p in
        let sum : c + total_cost overhead (without_first m (e ∷ es)) ≡ c + cost_of overhead e + total_cost overhead (without_first m es) = ap (λ l. c + total_cost overhead l) kept ∙ omega arith in
        ap (λ n. nat_le n limit) sum

    pinned_in : (e : K × Held) (es : List (K × Held)) → is_pinned e ≡ true → pinned_cost overhead (e ∷ es) ≡ cost_of overhead e + pinned_cost overhead es
    pinned_in e es p = rw p refl

    pinned_out : (e : K × Held) (es : List (K × Held)) → is_pinned e ≡ false → pinned_cost overhead (e ∷ es) ≡ pinned_cost overhead es
    pinned_out e es p = rw p refl

    -- as many are picked as the least number of unpinned entries without which the costs fit
    pub length-victims : (es : List (K × Held)) (c x n : ℕ) → Apart es → length es ≤ n → c + pinned_cost overhead es ≤ limit → x ≡ (c + total_cost overhead es) - limit
        → length (victims eq k overhead x es) ≡ least (Fits c es) n
    length-victims [] c x zero a l h e = refl
    length-victims [] c x (suc n) a l h e = rw (le_is (c + 0) limit h) refl
    length-victims (e ∷ es) c x n a l h q = (elim (is_pinned e) as (λ b. is_pinned e ≡ b → length (victims eq k overhead x (e ∷ es)) ≡ least (Fits c (e ∷ es)) n) [
      | true ↦ λ p.
          let costs = pinned_in e es p in
          ap length (skipped x e es (rw (a.0, p) refl))
          ∙ length-victims es (c + cost_of overhead e) x n a.1 (omega arith) (omega arith) (omega arith)
          ∙ sym (least_same (Fits c (e ∷ es)) (Fits (c + cost_of overhead e) es) (λ m. moved c m e es p) n)
      | false ↦ λ p. (elim (x == 0) as (λ b. (x == 0) ≡ b → length (victims eq k overhead x (e ∷ es)) ≡ least (Fits c (e ∷ es)) n) [
        | true ↦ λ t. fits_whole (e ∷ es) c x n ((Decides-eqb x 0).0 t) q
        | false ↦ λ t. one_more e es c x n p t a l h q (λ m. length-victims es c (x - cost_of overhead e) m a.1)
      ]) refl
    ]) refl
      where
        fits_whole : (es : List (K × Held)) (c x n : ℕ) → x ≡ 0 → x ≡ (c + total_cost overhead es) - limit → length (victims eq k overhead x es) ≡ least (Fits c es) n
        fits_whole es c x zero z q = ap (λ y. length (victims eq k overhead y es)) z ∙ ap length (victims_none es)
        fits_whole es c x (suc n) z q =
            let here : Fits c es 0 ≡ true = rw (without_none es) (le_is (c + total_cost overhead es) limit (omega arith)) in
            ap (λ y. length (victims eq k overhead y es)) z ∙ ap length (victims_none es) ∙ rw here refl

        one_more : (e : K × Held) (es : List (K × Held)) (c x n : ℕ) → is_pinned e ≡ false → (x == 0) ≡ false → Apart (e ∷ es) → length (e ∷ es) ≤ n → c + pinned_cost overhead (e ∷ es) ≤ limit
            → x ≡ (c + total_cost overhead (e ∷ es)) - limit
            → ((m : ℕ) → length es ≤ m → c + pinned_cost overhead es ≤ limit → x - cost_of overhead e ≡ (c + total_cost overhead es) - limit → length (victims eq k overhead (x - cost_of overhead e) es) ≡ least (Fits c es) m)
            → length (victims eq k overhead x (e ∷ es)) ≡ least (Fits c (e ∷ es)) n
        one_more e es c x zero p t a l h q on = absurd (omega arith)
        one_more e es c x (suc n) p t a l h q on =
            let costs = pinned_out e es p in
            let some : 0 < x = grind (arith, nat_tests) in
            let here : Fits c (e ∷ es) 0 ≡ false = lt_is (c + total_cost overhead (e ∷ es)) limit (omega arith) in
            let later : (m : ℕ) → Fits c (e ∷ es) (suc m) ≡ Fits c es m = λ m. ap (λ l. nat_le (c + total_cost overhead l) limit) (gives_up m e es p) in
            ap length (skipped_free x e es t a.0 p)
            ∙ ap suc (on n (omega arith) (omega arith) (omega arith) ∙ sym (least_same (λ m. Fits c (e ∷ es) (suc m)) (Fits c es) later n))
            ∙ sym (rw here refl)

module _ {K : Type 0} (eq : K → K → Bool) (laws : IsEquivalence eq) (s : Kept K) (k : K) (bytes : List ℕ) where
  abbrev pub rest : List (K × Held)
  rest = others eq k s.entries

  abbrev pub new : K × Held
  new = new_entry eq s k bytes

  new_key : (o : Option (K × Held)) → lookup_entry (eq k) s.entries ≡ o → eq k (option_map_or (λ e. e.0) o k) ≡ true
  new_key None h = laws.refl k
  new_key (Some e) h = (Contains-lookup_entry (eq k) s.entries e h).1

  -- the picked keys are those of other entries, so the new entry stays
  stays : (vs : List K) → AllByRecursion (λ v. eq k v ≡ false) vs → is_among eq vs new.0 ≡ false
  stays [] h = refl
  stays (v ∷ vs) h = λ i. apart i || stays vs h.1 i
    where
      apart : eq v new.0 ≡ false
      apart = laws.symm v new.0 ∙ sym (laws.congr k new.0 v (new_key (lookup_entry (eq k) s.entries) refl)) ∙ h.0

  keys_apart : (es : List (K × Held)) → AllByRecursion (λ e. eq k e.0 ≡ false) es → AllByRecursion (λ j. eq k j ≡ false) (keys_of es)
  keys_apart [] h = tt
  keys_apart (e ∷ es) h = (h.0, keys_apart es h.1)

  -- the picked keys, by what the pass over all entries gives
  abbrev pub picked : ℕ → List K
  picked x = victims eq k s.overhead x (reverse s.entries)

  reversed_rest : (x : ℕ) → picked x ≡ victims eq k s.overhead x (reverse rest)
  reversed_rest x = victims-others eq k s.overhead x (reverse s.entries) ∙ ap (victims eq k s.overhead x) (filter-reverse (λ e. not (eq k e.0)) s.entries)

  apart_rest : AllByRecursion (λ e. eq k e.0 ≡ false) (reverse rest)
  apart_rest = subst (AllByRecursion (λ e. eq k e.0 ≡ false)) (filter-reverse (λ e. not (eq k e.0)) s.entries) (others_apart eq k s.overhead (reverse s.entries))

  pub pinned_rest : pinned_cost s.overhead (reverse rest) ≡ pinned_cost s.overhead rest
  pinned_rest = ap (total_cost s.overhead) (filter-reverse is_pinned rest) ∙ total-reverse s.overhead (filter is_pinned rest)

  pub shorter : length (reverse rest) ≤ length rest
  shorter = omega (arith, length-reverse rest)

  module _ (d : IsDistinct eq (keys_of s.entries)) (x : ℕ) (room : length bytes + s.overhead + pinned_cost s.overhead rest ≤ s.limit) (excess : x ≡ (length bytes + s.overhead + total_cost s.overhead rest) - s.limit) where
    many : length (picked x) ≡ evicted eq s k bytes
    many =
        ap length (reversed_rest x)
        ∙ length-victims eq k s.overhead s.limit (reverse rest) (length bytes + s.overhead) x (length rest) apart_rest shorter (rw pinned_rest room) (rw (total-reverse s.overhead rest) excess)
        ∙ least_same (λ m. nat_le (length bytes + s.overhead + total_cost s.overhead (without_first m (reverse rest))) s.limit)
        (λ m. nat_le (total_cost s.overhead (new ∷ without_last m rest)) s.limit)
        (λ m. ap (λ n. nat_le (length bytes + s.overhead + n) s.limit) (sym (total-reverse s.overhead (without_first m (reverse rest))))) (length rest)

    rest_without : without_keys eq (picked x) rest ≡ without_last (evicted eq s k bytes) rest
    rest_without =
        sym (reverse-reverse (without_keys eq (picked x) rest))
        ∙ ap reverse (sym (filter-reverse (λ e. not (is_among eq (picked x) e.0)) rest)
        ∙ ap (λ vs. without_keys eq vs (reverse rest)) (reversed_rest x)
        ∙ without_victims eq k s.overhead laws x (reverse rest) (reverse_distinct eq laws rest (filter_distinct eq (λ e. not (eq k e.0)) s.entries d)) apart_rest
        ∙ ap (λ vs. without_first (length vs) (reverse rest)) (sym (reversed_rest x))
        ∙ ap (λ m. without_first m (reverse rest)) many)

    -- what stays when the new entry has come and the picked keys have gone
    pub without_picked : without_keys eq (picked x) (new ∷ rest) ≡ new ∷ without_last (evicted eq s k bytes) rest
    without_picked = rw (stays (picked x) (subst (AllByRecursion (λ v. eq k v ≡ false)) (sym (reversed_rest x)) (victims_all eq k s.overhead (λ j. eq k j ≡ false) x (reverse rest) (keys_apart (reverse rest) apart_rest))))
        (ap (λ l. new ∷ l) rest_without)

    pub pinned_stay : pinned_cost s.overhead (without_last (evicted eq s k bytes) rest) ≡ pinned_cost s.overhead rest
    pinned_stay =
        let m = evicted eq s k bytes in
        ap (total_cost s.overhead) (filter-reverse is_pinned (without_first m (reverse rest)) ∙ ap reverse (pinned-without_first m (reverse rest)))
        ∙ total-reverse s.overhead (filter is_pinned (reverse rest)) ∙ pinned_rest

  -- the rest of a step, by plain numbers and lists
  module _ (d : IsDistinct eq (keys_of s.entries)) (held pinned old_cost : ℕ) (t : IsTallied s.entries s.limit s.overhead held pinned) (st : IsStanding eq k s.overhead s.entries old_cost new.1.pins)
      (fits : length bytes + s.overhead ≤ s.limit - (pinned - part_if_pinned new.1.pins old_cost)) where
    rest_pinned : pinned - part_if_pinned new.1.pins old_cost ≡ pinned_cost s.overhead rest
    rest_pinned = let a = t.pinned_is in let b = st.pinned_are in omega arith

    rest_total : held - old_cost ≡ total_cost s.overhead rest
    rest_total = let a = t.held_is in let b = st.rest_are in omega arith

    room_for : length bytes + s.overhead + pinned_cost s.overhead rest ≤ s.limit
    room_for =
        let a = rest_pinned in
        let most = pinned_le s.overhead s.entries in
        let b = t.within in
        let e = t.held_is in
        let f = t.pinned_is in
        omega arith

    pub enters : can_enter eq s k bytes ≡ true
    enters = le_is (length bytes + s.overhead + pinned_cost s.overhead rest) s.limit room_for

    fits_all : nat_le (length bytes + s.overhead + total_cost s.overhead (without_first (length rest) (reverse rest))) s.limit ≡ true
    fits_all = rw (without_all (length rest) (reverse rest) shorter, pinned_rest) (le_is (length bytes + s.overhead + pinned_cost s.overhead rest) s.limit room_for)

    module _ (x freed : ℕ) (after : List (K × Held)) (excess : x ≡ (held - old_cost + (length bytes + s.overhead)) - s.limit) (left : after ≡ without_keys eq (picked x) (new ∷ rest))
        (sum : freed + total_cost s.overhead after ≡ total_cost s.overhead (new ∷ rest)) where
      excess' : x ≡ (length bytes + s.overhead + total_cost s.overhead rest) - s.limit
      excess' = let a = rest_total in omega arith

      after_is : after ≡ new ∷ without_last (evicted eq s k bytes) rest
      after_is = left ∙ without_picked d x room_for excess'

      abbrev test : ℕ → Bool
      test m = nat_le (total_cost s.overhead (new ∷ without_last m rest)) s.limit

      passes : test (evicted eq s k bytes) ≡ true
      passes = least_passes test (length rest) (ap (λ n. nat_le (length bytes + s.overhead + n) s.limit) (total-reverse s.overhead (without_first (length rest) (reverse rest))) ∙ fits_all)

      pub enters_as : entered eq s k bytes ≡ Some (record { entries = after; limit = s.limit; overhead = s.overhead })
      enters_as = rw enters (ap (λ es. Some (record { entries = es; limit = s.limit; overhead = s.overhead })) (sym after_is))

      pinned_after : pinned_cost s.overhead after ≡ part_if_pinned new.1.pins (length bytes + s.overhead) + pinned_cost s.overhead rest
      pinned_after = ap (pinned_cost s.overhead) after_is ∙ by_pins (nat_lt 0 new.1.pins)
        where
          by_pins : (b : Bool) → total_cost s.overhead (cond b (new ∷ filter is_pinned (without_last (evicted eq s k bytes) rest)) (filter is_pinned (without_last (evicted eq s k bytes) rest)))
              ≡ cond b (length bytes + s.overhead) 0 + pinned_cost s.overhead rest
          by_pins true = ap (λ n. length bytes + s.overhead + n) (pinned_stay d x room_for excess')
          by_pins false = let stay = pinned_stay d x room_for excess' in omega arith

      pub tallied_after : IsTallied after s.limit s.overhead (held - old_cost + (length bytes + s.overhead) - freed) (pinned - part_if_pinned new.1.pins old_cost + part_if_pinned new.1.pins (length bytes + s.overhead))
      tallied_after = record {
        held_is = let a = rest_total in omega arith;
        pinned_is = let a = pinned_after in let b = rest_pinned in omega arith;
        within = let p = is_le (total_cost s.overhead (new ∷ without_last (evicted eq s k bytes) rest)) s.limit passes in let a = rest_total in let b = ap (total_cost s.overhead) after_is in omega arith;
        limit_is = t.limit_is;
      }

  -- the same, as the code's numbers are
  module _ (d : IsDistinct eq (keys_of s.entries)) (held pinned old_cost pins part cost : ℕ) (t : IsTallied s.entries s.limit s.overhead held pinned) (st : IsStanding eq k s.overhead s.entries old_cost pins)
      (part_is : part ≡ part_if_pinned pins old_cost) (cost_is : cost ≡ length bytes + s.overhead) (fits : cost ≤ s.limit - (pinned - part)) where
    st' : IsStanding eq k s.overhead s.entries old_cost new.1.pins
    st' = subst (IsStanding eq k s.overhead s.entries old_cost) st.pins_are st

    fits' : length bytes + s.overhead ≤ s.limit - (pinned - part_if_pinned new.1.pins old_cost)
    fits' = rw (← cost_is, ← st.pins_are, ← part_is) fits

    pub admitted : can_enter eq s k bytes ≡ true
    admitted = enters d held pinned old_cost t st' fits'

    module _ (placed : List (K × Held)) (placed_is : placed ≡ placed_first eq k (record { bytes = bytes; pins = pins }) s.entries) where
      first : placed ≡ new ∷ rest
      first = placed_is ∙ ap (λ n. (stored_key eq s.entries k, let h : Held = record { bytes = bytes; pins = n } in h) ∷ rest) st.pins_are

      -- the costs with those of the new entry, before anything is evicted
      pub whole_is : held - old_cost + cost ≡ total_cost s.overhead placed
      whole_is = let a = rest_total d held pinned old_cost t st' fits' in let b = ap (total_cost s.overhead) first in omega arith

      module _ (part' x freed : ℕ) (keys : List K) (after : List (K × Held)) (part'_is : part' ≡ part_if_pinned pins cost) (excess : x ≡ (held - old_cost + cost) - s.limit) (keys_are : keys ≡ picked x)
          (left : after ≡ without_keys eq keys placed) (sum : freed + total_cost s.overhead after ≡ total_cost s.overhead placed) where
        left' : after ≡ without_keys eq (picked x) (new ∷ rest)
        left' = left ∙ ap (λ ks. without_keys eq ks placed) keys_are ∙ ap (without_keys eq (picked x)) first

        sum' : freed + total_cost s.overhead after ≡ total_cost s.overhead (new ∷ rest)
        sum' = sum ∙ ap (total_cost s.overhead) first

        pub finished : entered eq s k bytes ≡ Some (record { entries = after; limit = s.limit; overhead = s.overhead })
        finished = enters_as d held pinned old_cost t st' fits' x freed after (rw (← cost_is) excess) left' sum'

        pub tallied : IsTallied after s.limit s.overhead (held - old_cost + cost - freed) (pinned - part + part')
        tallied = rw (part_is, part'_is, cost_is, st.pins_are) (tallied_after d held pinned old_cost t st' fits' x freed after (rw (← cost_is) excess) left' sum')
