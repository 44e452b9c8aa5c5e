-- To evict entries that are not pinned thins a list, and leaves each pinned one found.
use Rattle.std.proofs.Common.{◌≡◌, ℕ, zero, suc, ◌+◌, ◌≤◌, Bool, true, false, cond, not, List, [], ◌∷◌, ◌++◌, reverse, length, bytes_eq, Some, None, refl, ap, sym, ◌∙◌, subst, arith, ◌⊎◌, inl, inr}
use Rattle.std.specs.List.{filter, AllByRecursion, IsDistinct}
use Rattle.std.specs.Map.{keys_of, lookup}
use Rattle.std.proofs.lemmas.List.{length-reverse, reverse-reverse}
use Rattle.std.proofs.lemmas.Map.Keys.{IsDistinct-head, IsDistinct-tail, IsDistinct-cons}
use mathlib.Core.List.{reverse_aux}
use Rattle.eviction.specs.Kept.{total}
use Rattle.eviction.specs.Entering.{spared, spared_last, has_room, fits, evicted_for, enter}
use Rattle.eviction.proofs.Choices.{least_passes, is_le}
use Rattle.eviction.proofs.Filters.{filter-reverse}

-- ---- costs

module _ {E : Type 0} (cost : E → ℕ) where
  pub total-append : (xs ys : List E) → total cost (xs ++ ys) ≡ total cost xs + total cost ys
  total-append [] ys = omega arith
  total-append (x ∷ xs) ys = let on = total-append xs ys in omega arith

  pub total_parts : (p : E → Bool) (xs : List E) → total cost (filter p xs) + total cost (filter (λ x. not (p x)) xs) ≡ total cost xs
  total_parts p [] = refl
  total_parts p (x ∷ xs) =
      let on = total_parts p xs in
      elim (p x) as (λ b. total cost (cond b (x ∷ filter p xs) (filter p xs)) + total cost (cond (not b) (x ∷ filter (λ y. not (p y)) xs) (filter (λ y. not (p y)) xs)) ≡ total cost (x ∷ xs)) [
        | true ↦ omega arith
        | false ↦ omega arith
      ]

module _ {E : Type 0} (pinned : E → Bool) where
  spared_all : (m : ℕ) (es : List E) → length es ≤ m → spared pinned m es ≡ filter pinned es
  spared_all m [] l = refl
  spared_all zero (e ∷ es) l = absurd (omega arith)
  spared_all (suc m) (e ∷ es) l = elim (pinned e) as (λ b. cond b (e ∷ spared pinned (suc m) es) (spared pinned m es) ≡ cond b (e ∷ filter pinned es) (filter pinned es)) [
    | true ↦ ap (λ t. e ∷ t) (spared_all (suc m) es (omega arith))
    | false ↦ spared_all m es (omega arith)
  ]

  spared_last_all : (m : ℕ) (es : List E) → length es ≤ m → spared_last pinned m es ≡ filter pinned es
  spared_last_all m es l =
      ap reverse (spared_all m (reverse es) (subst (λ n. n ≤ m) (sym (length-reverse es)) l) ∙ filter-reverse pinned es)
      ∙ reverse-reverse (filter pinned es)

  -- what has entered, and what it costs
  pub record Enters (cost : E → ℕ) (limit : ℕ) (new : E) (others out : List E) : Type 0 where
    pub most : ℕ
    pub out_is : out ≡ new ∷ spared_last pinned most others
    pub within : total cost out ≤ limit

  pub enters : (cost : E → ℕ) (limit : ℕ) (new : E) (others out : List E)
      → enter pinned cost limit new others ≡ Some out → Enters cost limit new others out
  enters cost limit new others out e = by_room (has_room pinned cost limit new others) refl e
    where
      count : ℕ
      count = evicted_for pinned cost limit new others

      by_room : (b : Bool) → has_room pinned cost limit new others ≡ b → cond b (Some (new ∷ spared_last pinned count others)) None ≡ Some out → Enters cost limit new others out
      by_room true room e =
          let is : new ∷ spared_last pinned count others ≡ out = cc in
          let last : fits pinned cost limit new others (length others) ≡ true = rw (spared_last_all (length others) others (omega arith)) room in
          record {
            most = count;
            out_is = sym is;
            within = subst (λ x. total cost x ≤ limit) is (is_le (total cost (new ∷ spared_last pinned count others)) limit (least_passes (fits pinned cost limit new others) (length others) last));
          }
      by_room false room e = absurd cc

-- ---- entries under hashes

module _ {X : Type 0} (pinned : List ℕ × X → Bool) where
  -- the second list is the first without some that are not pinned
  abbrev pub Thins : List (List ℕ × X) → List (List ℕ × X) → Type 0
  Thins [] fs = fs ≡ []
  Thins (e ∷ es) fs = ((gs : List (List ℕ × X)) × (fs ≡ e ∷ gs) × Thins es gs) ⊎ ((pinned e ≡ false) × Thins es fs)

  thins_same : (es : List (List ℕ × X)) → Thins es es
  thins_same [] = refl
  thins_same (e ∷ es) = inl (es, refl, thins_same es)

  thins_spared : (m : ℕ) (es : List (List ℕ × X)) → Thins es (spared pinned m es)
  thins_spared m [] = refl
  thins_spared zero (e ∷ es) = thins_same (e ∷ es)
  thins_spared (suc m) (e ∷ es) = (elim (pinned e) as (λ b. pinned e ≡ b → Thins (e ∷ es) (cond b (e ∷ spared pinned (suc m) es) (spared pinned m es))) [
    | true ↦ λ t. inl (spared pinned (suc m) es, refl, thins_spared (suc m) es)
    | false ↦ λ t. inr (t, thins_spared m es)
  ]) refl

  thins_turned : (es fs r s : List (List ℕ × X)) → Thins es fs → Thins r s → Thins (reverse_aux es r) (reverse_aux fs s)
  thins_turned [] fs r s t u = subst (λ l. Thins r (reverse_aux l s)) (sym t) u
  thins_turned (e ∷ es) fs r s (inl k) u = subst (λ l. Thins (reverse_aux es (e ∷ r)) (reverse_aux l s)) (sym k.1) (thins_turned es k.0 (e ∷ r) (e ∷ s) k.2 (inl (s, refl, u)))
  thins_turned (e ∷ es) fs r s (inr k) u = thins_turned es fs (e ∷ r) s k.1 (inr (k.0, u))

  pub thins_last : (m : ℕ) (es : List (List ℕ × X)) → Thins es (spared_last pinned m es)
  thins_last m es = subst (λ l. Thins l (spared_last pinned m es)) (reverse-reverse es) (thins_turned (reverse es) (spared pinned m (reverse es)) [] [] (thins_spared m (reverse es)) refl)

  pub thins_all : (P : List ℕ × X → Type 0) (es fs : List (List ℕ × X)) → Thins es fs → AllByRecursion P es → AllByRecursion P fs
  thins_all P [] fs t a = subst (AllByRecursion P) (sym t) tt
  thins_all P (e ∷ es) fs (inl k) a = subst (AllByRecursion P) (sym k.1) (a.0, thins_all P es k.0 k.2 a.1)
  thins_all P (e ∷ es) fs (inr k) a = thins_all P es fs k.1 a.1

  pub thins_keys : (P : List ℕ → Type 0) (es fs : List (List ℕ × X)) → Thins es fs → AllByRecursion P (keys_of es) → AllByRecursion P (keys_of fs)
  thins_keys P [] fs t a = subst (λ l. AllByRecursion P (keys_of l)) (sym t) tt
  thins_keys P (e ∷ es) fs (inl k) a = subst (λ l. AllByRecursion P (keys_of l)) (sym k.1) (a.0, thins_keys P es k.0 k.2 a.1)
  thins_keys P (e ∷ es) fs (inr k) a = thins_keys P es fs k.1 a.1

  pub thins_distinct : (es fs : List (List ℕ × X)) → Thins es fs → IsDistinct bytes_eq (keys_of es) → IsDistinct bytes_eq (keys_of fs)
  thins_distinct [] fs t d = subst (λ l. IsDistinct bytes_eq (keys_of l)) (sym t) d
  thins_distinct (e ∷ es) fs (inl k) d =
      let rest = thins_distinct es k.0 k.2 (IsDistinct-tail bytes_eq e.0 (keys_of es) d) in
      let apart = thins_keys (λ y. bytes_eq e.0 y ≡ false) es k.0 k.2 (IsDistinct-head bytes_eq e.0 (keys_of es) d) in
      subst (λ l. IsDistinct bytes_eq (keys_of l)) (sym k.1) (IsDistinct-cons bytes_eq e.0 (keys_of k.0) apart rest)
  thins_distinct (e ∷ es) fs (inr k) d = thins_distinct es fs k.1 (IsDistinct-tail bytes_eq e.0 (keys_of es) d)

  -- what is found first under a key, and is pinned, is found
  pub pinned_found : (q : List ℕ) (x : X) (es fs : List (List ℕ × X)) → Thins es fs → lookup (bytes_eq q) es ≡ Some x → ((h : List ℕ) → pinned (h, x) ≡ true) → lookup (bytes_eq q) fs ≡ Some x
  pinned_found q x [] fs t e on = absurd cc
  pinned_found q x (f ∷ es) fs (inl k) e on = subst (λ l. lookup (bytes_eq q) l ≡ Some x) (sym k.1) ((elim (bytes_eq q f.0) as (λ b. cond b (Some f.1) (lookup (bytes_eq q) es) ≡ Some x → cond b (Some f.1) (lookup (bytes_eq q) k.0) ≡ Some x) [
    | true ↦ λ h. h
    | false ↦ λ h. pinned_found q x es k.0 k.2 h on
  ]) e)
  pinned_found q x (f ∷ es) fs (inr k) e on = (elim (bytes_eq q f.0) as (λ b. cond b (Some f.1) (lookup (bytes_eq q) es) ≡ Some x → lookup (bytes_eq q) fs ≡ Some x) [
    | true ↦ λ h. let same : f.1 ≡ x = cc in absurd (clash (subst (λ y. pinned (f.0, y) ≡ true) (sym same) (on f.0)) k.0)
    | false ↦ λ h. pinned_found q x es fs k.1 h on
  ]) e
    where
      clash : {b : Bool} → b ≡ true → b ≡ false → ⊥
      clash t f = let e : true ≡ false = sym t ∙ f in cc

  -- where all under a key are pinned, it finds what it found
  pub all_found : (q : List ℕ) (es fs : List (List ℕ × X)) → Thins es fs → ((x : X) (h : List ℕ) → bytes_eq q h ≡ true → pinned (h, x) ≡ true) → lookup (bytes_eq q) fs ≡ lookup (bytes_eq q) es
  all_found q [] fs t on = ap (lookup (bytes_eq q)) t
  all_found q (f ∷ es) fs (inl k) on = ap (lookup (bytes_eq q)) k.1 ∙ ap (cond (bytes_eq q f.0) (Some f.1)) (all_found q es k.0 k.2 on)
  all_found q (f ∷ es) fs (inr k) on = all_found q es fs k.1 on ∙ (elim (bytes_eq q f.0) as (λ b. bytes_eq q f.0 ≡ b → lookup (bytes_eq q) es ≡ cond b (Some f.1) (lookup (bytes_eq q) es)) [
    | true ↦ λ t. absurd (clash (on f.1 f.0 t) k.0)
    | false ↦ λ t. refl
  ]) refl
    where
      clash : {b : Bool} → b ≡ true → b ≡ false → ⊥
      clash t f = let e : true ≡ false = sym t ∙ f in cc
