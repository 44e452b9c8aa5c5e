-- Counts of pins that change.
use Rattle.std.proofs.Common.{◌≡◌, ℕ, zero, suc, ◌+◌, ◌-◌, ◌<◌, ◌≤◌, Bool, true, false, cond, ◌||◌, ◌&&◌, is_some, nat_lt, List, [], ◌∷◌, ◌++◌, length, take, get_or, Option, Some, None, option_map, refl, ap, sym, ◌∙◌, subst, arith}
use Rattle.std.specs.Cmp.{IsEquivalence}
use Rattle.std.specs.List.{filter, list_all, AllByRecursion, IsDistinct}
use Rattle.std.specs.Map.{keys_of, lookup, set_value}
use Rattle.std.specs.Option.{option_map_or}
use Rattle.std.proofs.lemmas.List.{take_more}
use Rattle.std.proofs.lemmas.List.Folds.{list_any-append}
use Rattle.std.proofs.lemmas.Map.Keys.{IsDistinct-head, IsDistinct-tail}
use Rattle.std.proofs.lemmas.Map.Entries.{none_past_head}
use Rattle.std.proofs.lemmas.Map.{NonePasses}
use Rattle.eviction.specs.declared.entry.Entry.{Entry}
use Rattle.eviction.specs.Kept.{Held, IsTallied, is_pinned, cost_of, total_cost, pinned_cost}
use Rattle.eviction.specs.Pinning.{repinned, is_among, pins_of, is_stored, all_stored, all_pinned}
use Rattle.std.proofs.lemmas.Bool.Decides.{nat_tests}
use Rattle.eviction.proofs.Looks.{is_stored_held, lookup_held, pins_found}
use Rattle.eviction.specs.Victims.{part_if_pinned}
use Rattle.eviction.specs.View.{held, held_all}

module _ {K : Type 0} where
  pub repinned-repinned : (f g : K → ℕ → ℕ) (es : List (K × Held)) → repinned g (repinned f es) ≡ repinned (λ k n. g k (f k n)) es
  repinned-repinned f g [] = refl
  repinned-repinned f g (e ∷ es) = ap (λ l. (e.0, record { bytes = e.1.bytes; pins = g e.0 (f e.0 e.1.pins) }) ∷ l) (repinned-repinned f g es)

  pub repinned_same : (f g : K → ℕ → ℕ) → ((k : K) (n : ℕ) → f k n ≡ g k n) → (es : List (K × Held)) → repinned f es ≡ repinned g es
  repinned_same f g h [] = refl
  repinned_same f g h (e ∷ es) = λ i. (e.0, record { bytes = e.1.bytes; pins = h e.0 e.1.pins i }) ∷ repinned_same f g h es i

  pub total-repinned : (overhead : ℕ) (f : K → ℕ → ℕ) (es : List (K × Held)) → total_cost overhead (repinned f es) ≡ total_cost overhead es
  total-repinned overhead f [] = refl
  total-repinned overhead f (e ∷ es) = ap (λ n. cost_of overhead e + n) (total-repinned overhead f es)

  pub repinned_id : (es : List (K × Held)) → repinned (λ k n. n) es ≡ es
  repinned_id [] = refl
  repinned_id (e ∷ es) = ap (λ l. e ∷ l) (repinned_id es)

  module _ (eq : K → K → Bool) where
    -- the entry under a key, with its new count
    pub lookup-repinned : (f : K → ℕ → ℕ) (x : K) → ((k : K) (n : ℕ) → eq x k ≡ true → f k n ≡ f x n) → (es : List (K × Held))
        → lookup (eq x) (repinned f es) ≡ option_map (λ (h : Held). let g : Held = record { bytes = h.bytes; pins = f x h.pins } in g) (lookup (eq x) es)
    lookup-repinned f x h [] = refl
    lookup-repinned f x h (e ∷ es) =
        (elim (eq x e.0) as (λ b. eq x e.0 ≡ b → cond b (Some (let g : Held = record { bytes = e.1.bytes; pins = f e.0 e.1.pins } in g)) (lookup (eq x) (repinned f es)) ≡ option_map (λ (h : Held). let g : Held = record { bytes = h.bytes; pins = f x h.pins } in g) (cond b (Some e.1) (lookup (eq x) es))) [
          | true ↦ λ t. λ i. Some (record { bytes = e.1.bytes; pins = h e.0 e.1.pins t i })
          | false ↦ λ t. lookup-repinned f x h es
        ]) refl

    module _ (laws : IsEquivalence eq) where
      pub among_same : (ks : List K) (x k : K) → eq x k ≡ true → is_among eq ks k ≡ is_among eq ks x
      among_same [] x k h = refl
      among_same (j ∷ ks) x k h = λ i. same i || among_same ks x k h i
        where
          same : eq j k ≡ eq j x
          same = laws.symm j k ∙ sym (laws.congr x k j h) ∙ laws.symm x j

      -- the key at an index is among the keys
      pub among_at : (ks : List K) (i : ℕ) (x : K) → i < length ks → x ≡ get_or ks i x → is_among eq ks x ≡ true
      among_at [] i x h at = absurd (omega arith)
      among_at (k ∷ ks) zero x h at = λ i. (ap (λ y. eq k y) at ∙ laws.refl k) i || is_among eq ks x
      among_at (k ∷ ks) (suc i) x h at = later (eq k x) (among_at ks i x (omega arith) at)
        where
          later : (b : Bool) → is_among eq ks x ≡ true → (b || is_among eq ks x) ≡ true
          later true on = refl
          later false on = on

      -- the keys before an index differ from the one there
      pub apart_before : (ks : List K) (i : ℕ) (x : K) → IsDistinct eq ks → i < length ks → x ≡ get_or ks i x → AllByRecursion (λ v. eq v x ≡ false) (take i ks)
      apart_before [] i x d h at = absurd (omega arith)
      apart_before (k ∷ ks) zero x d h at = tt
      apart_before (k ∷ ks) (suc i) x d h at = (all_at ks i (IsDistinct-head eq k ks d) (omega arith) at, apart_before ks i x (IsDistinct-tail eq k ks d) (omega arith) at)
        where
          all_at : (ys : List K) (i : ℕ) → AllByRecursion (λ y. eq k y ≡ false) ys → i < length ys → x ≡ get_or ys i x → eq k x ≡ false
          all_at [] i a h at = absurd (omega arith)
          all_at (y ∷ ys) zero a h at = ap (eq k) at ∙ a.0
          all_at (y ∷ ys) (suc i) a h at = all_at ys i a.1 (omega arith) at

      not_among : (vs : List K) (x k : K) → AllByRecursion (λ v. eq v x ≡ false) vs → eq x k ≡ true → is_among eq vs k ≡ false
      not_among [] x k a h = refl
      not_among (v ∷ vs) x k a h = λ i. (laws.symm v k ∙ sym (laws.congr x k v h) ∙ laws.symm x v ∙ a.0) i || not_among vs x k a.1 h i

      -- a step that counts one key more, where it wasn't among those before
      next : (up : ℕ → ℕ) (vs : List K) (x : K) → AllByRecursion (λ v. eq v x ≡ false) vs → (k : K) (n : ℕ)
          → cond (eq x k) (up (cond (is_among eq vs k) (up n) n)) (cond (is_among eq vs k) (up n) n) ≡ cond (is_among eq (vs ++ x ∷ []) k) (up n) n
      next up vs x a k n = (elim (eq x k) as (λ b. eq x k ≡ b → cond b (up (cond (is_among eq vs k) (up n) n)) (cond (is_among eq vs k) (up n) n) ≡ cond (is_among eq (vs ++ x ∷ []) k) (up n) n) [
        | true ↦ λ t. rw (list_any-append (λ v. eq v k) vs (x ∷ []), not_among vs x k a t, t) refl
        | false ↦ λ t. rw (list_any-append (λ v. eq v k) vs (x ∷ []), t) (or_false (is_among eq vs k))
      ]) refl
        where
          or_false : (b : Bool) → cond b (up n) n ≡ cond (b || false) (up n) n
          or_false true = refl
          or_false false = refl

      pub repinned_next : (up : ℕ → ℕ) (ks : List K) (i : ℕ) (x : K) (es fs gs : List (K × Held)) → IsDistinct eq ks → i < length ks → x ≡ get_or ks i x
          → fs ≡ repinned (λ k n. cond (eq x k) (up n) n) gs → gs ≡ repinned (λ k n. cond (is_among eq (take i ks) k) (up n) n) es
          → fs ≡ repinned (λ k n. cond (is_among eq (take (i + 1) ks) k) (up n) n) es
      repinned_next up ks i x es fs gs d h at f g =
          let more : take (i + 1) ks ≡ take i ks ++ x ∷ [] = take_more ks i x h ∙ ap (λ y. take i ks ++ y ∷ []) (sym at) in
          f ∙ ap (repinned (λ k n. cond (eq x k) (up n) n)) g
          ∙ repinned-repinned (λ k n. cond (is_among eq (take i ks) k) (up n) n) (λ k n. cond (eq x k) (up n) n) es
          ∙ repinned_same (λ k n. cond (eq x k) (up (cond (is_among eq (take i ks) k) (up n) n)) (cond (is_among eq (take i ks) k) (up n) n)) (λ k n. cond (is_among eq (take i ks ++ x ∷ []) k) (up n) n) (next up (take i ks) x (apart_before ks i x d h at)) es
          ∙ ap (λ vs. repinned (λ k n. cond (is_among eq vs k) (up n) n) es) (sym more)

      -- the count of a key that comes later is as it was
      pub pins_later : (up : ℕ → ℕ) (ks : List K) (i : ℕ) (x : K) (es : List (K × Held)) → IsDistinct eq ks → i < length ks → x ≡ get_or ks i x
          → pins_of eq (repinned (λ k n. cond (is_among eq (take i ks) k) (up n) n) es) x ≡ pins_of eq es x
      pins_later up ks i x es d h at =
          let vs = take i ks in
          let no : is_among eq vs x ≡ false = not_among vs x x (apart_before ks i x d h at) (laws.refl x) in
          ap (λ o. option_map_or (λ (h : Held). h.pins) o 0) (lookup-repinned (λ k n. cond (is_among eq vs k) (up n) n) x (λ k n t. ap (λ b. cond b (up n) n) (among_same vs x k t)) es)
          ∙ unchanged (is_among eq vs x) no (lookup (eq x) es)
        where
          unchanged : (b : Bool) → b ≡ false → (o : Option Held) → option_map_or (λ (h : Held). h.pins) (option_map (λ (h : Held). let g : Held = record { bytes = h.bytes; pins = cond b (up h.pins) h.pins } in g) o) 0 ≡ option_map_or (λ (h : Held). h.pins) o 0
          unchanged b e None = refl
          unchanged b e (Some h) = rw e refl

module _ {K A : Type 0} (eq : K → K → Bool) (k : K) where
  only_here : (up : ℕ → ℕ) (es : List (K × Entry A)) → NonePasses (eq k) es → repinned (λ j n. cond (eq k j) (up n) n) (held_all es) ≡ held_all es
  only_here up [] h = refl
  only_here up (e ∷ es) h = λ i. (e.0, record { bytes = e.1.bytes; pins = cond (h.0 i) (up e.1.pins) e.1.pins }) ∷ only_here up es h.1 i

  pub repinned_none : (up : ℕ → ℕ) (es : List (K × Entry A)) → lookup (eq k) es ≡ None → repinned (λ j n. cond (eq k j) (up n) n) (held_all es) ≡ held_all es
  repinned_none up [] h = refl
  repinned_none up (e ∷ es) h = (elim (eq k e.0) as (λ b. eq k e.0 ≡ b → repinned (λ j n. cond (eq k j) (up n) n) (held_all (e ∷ es)) ≡ held_all (e ∷ es)) [
    | true ↦ λ t. let h' = rw t at h in absurd cc
    | false ↦ λ t. rw t (ap (λ l. (e.0, held e.1) ∷ l) (repinned_none up es (rw t at h)))
  ]) refl

  -- an entry that is written with another count
  pub repinned_set : IsEquivalence eq → (up : ℕ → ℕ) (es : List (K × Entry A)) (v w : Entry A) → IsDistinct eq (keys_of es) → lookup (eq k) es ≡ Some v → w.bytes ≡ v.bytes → w.pins ≡ up v.pins
      → held_all (set_value (eq k) es w) ≡ repinned (λ j n. cond (eq k j) (up n) n) (held_all es)
  repinned_set laws up [] v w d h b p = absurd cc
  repinned_set laws up (e ∷ es) v w d h b p = (elim (eq k e.0) as (λ y. eq k e.0 ≡ y → held_all (cond y ((e.0, w) ∷ es) (e ∷ set_value (eq k) es w)) ≡ (e.0, record { bytes = e.1.bytes; pins = cond y (up e.1.pins) e.1.pins }) ∷ repinned (λ j n. cond (eq k j) (up n) n) (held_all es)) [
    | true ↦ λ t.
        let h' = rw t at h in
        let same : e.1 ≡ v = cc in
        let bytes : w.bytes ≡ e.1.bytes = b ∙ ap (λ (x : Entry A). x.bytes) (sym same) in
        let pins : w.pins ≡ up e.1.pins = p ∙ ap (λ (x : Entry A). up x.pins) (sym same) in
        let rest = only_here up es (none_past_head laws k e es d t) in
        λ i. (e.0, record { bytes = bytes i; pins = pins i }) ∷ sym rest i
    | false ↦ λ t. ap (λ l. (e.0, held e.1) ∷ l) (repinned_set laws up es v w (IsDistinct-tail eq e.0 (keys_of es) d) (rw t at h) b p)
  ]) refl

  -- what that does to the costs of the pinned entries
  pub pinned_set : (overhead : ℕ) (es : List (K × Entry A)) (v w : Entry A) → lookup (eq k) es ≡ Some v → w.bytes ≡ v.bytes
      → part_if_pinned v.pins (length v.bytes + overhead) + pinned_cost overhead (held_all (set_value (eq k) es w)) ≡ part_if_pinned w.pins (length v.bytes + overhead) + pinned_cost overhead (held_all es)
  pinned_set overhead [] v w h b = absurd cc
  pinned_set overhead (e ∷ es) v w h b = (elim (eq k e.0) as (λ y. eq k e.0 ≡ y → part_if_pinned v.pins (length v.bytes + overhead) + pinned_cost overhead (held_all (cond y ((e.0, w) ∷ es) (e ∷ set_value (eq k) es w))) ≡ part_if_pinned w.pins (length v.bytes + overhead) + pinned_cost overhead (held_all (e ∷ es))) [
    | true ↦ λ t.
        let h' = rw t at h in
        let same : e.1 ≡ v = cc in
        let l : length w.bytes ≡ length v.bytes = ap length b in
        subst (λ (x : Entry A). part_if_pinned v.pins (length v.bytes + overhead) + pinned_cost overhead ((e.0, held w) ∷ held_all es) ≡ part_if_pinned w.pins (length v.bytes + overhead) + pinned_cost overhead ((e.0, held x) ∷ held_all es)) (sym same)
        (swap (nat_lt 0 v.pins) (nat_lt 0 w.pins) l)
    | false ↦ λ t. step (is_pinned (e.0, held e.1)) (pinned_set overhead es v w (rw t at h) b)
  ]) refl
    where
      swap : (p q : Bool) → length w.bytes ≡ length v.bytes
          → cond p (length v.bytes + overhead) 0 + total_cost overhead (cond q ((e.0, held w) ∷ filter is_pinned (held_all es)) (filter is_pinned (held_all es)))
          ≡ cond q (length v.bytes + overhead) 0 + total_cost overhead (cond p ((e.0, held v) ∷ filter is_pinned (held_all es)) (filter is_pinned (held_all es)))
      swap true true l = omega arith
      swap true false l = omega arith
      swap false true l = omega arith
      swap false false l = refl

      step : (p : Bool) → part_if_pinned v.pins (length v.bytes + overhead) + pinned_cost overhead (held_all (set_value (eq k) es w)) ≡ part_if_pinned w.pins (length v.bytes + overhead) + pinned_cost overhead (held_all es)
          → part_if_pinned v.pins (length v.bytes + overhead) + total_cost overhead (cond p ((e.0, held e.1) ∷ filter is_pinned (held_all (set_value (eq k) es w))) (filter is_pinned (held_all (set_value (eq k) es w))))
          ≡ part_if_pinned w.pins (length v.bytes + overhead) + total_cost overhead (cond p ((e.0, held e.1) ∷ filter is_pinned (held_all es)) (filter is_pinned (held_all es)))
      step true on = omega arith
      step false on = on

pub part_more : (n cost : ℕ) → part_if_pinned n cost ≤ part_if_pinned (n + 1) cost
part_more n cost = grind (arith, nat_tests)

pub part_less : (n cost : ℕ) → part_if_pinned (n - 1) cost ≤ part_if_pinned n cost
part_less n cost = grind (arith, nat_tests)

module _ {K : Type 0} where
  same_all : (p q : K → Bool) → ((k : K) → p k ≡ q k) → (ks : List K) → list_all p ks ≡ list_all q ks
  same_all p q h [] = refl
  same_all p q h (k ∷ ks) = λ i. h k i && same_all p q h ks i

module _ {K A : Type 0} (eq : K → K → Bool) where
  pub all_stored_is : (es : List (K × Entry A)) (ks : List K) → list_all (λ k. is_some (lookup (eq k) es)) ks ≡ all_stored eq (held_all es) ks
  all_stored_is es ks = same_all (λ k. is_some (lookup (eq k) es)) (is_stored eq (held_all es)) (λ k. sym (is_stored_held eq k es)) ks

  pub count_is : (k : K) (es : List (K × Entry A)) → option_map_or (λ (e : Entry A). e.pins) (lookup (eq k) es) 0 ≡ pins_of eq (held_all es) k
  count_is k es = pins_found (lookup (eq k) es) ∙ ap (λ o. option_map_or (λ (h : Held). h.pins) o 0) (sym (lookup_held (eq k) es))

  pub all_pinned_is : (es : List (K × Entry A)) (ks : List K) → list_all (λ k. nat_lt 0 (option_map_or (λ (e : Entry A). e.pins) (lookup (eq k) es) 0)) ks ≡ all_pinned eq (held_all es) ks
  all_pinned_is es ks = same_all (λ k. nat_lt 0 (option_map_or (λ (e : Entry A). e.pins) (lookup (eq k) es) 0)) (λ k. nat_lt 0 (pins_of eq (held_all es) k)) (λ k. ap (nat_lt 0) (count_is k es)) ks

  pub count_found : (k : K) (es : List (K × Entry A)) (v : Entry A) → Some v ≡ lookup (eq k) es → v.pins ≡ pins_of eq (held_all es) k
  count_found k es v e = ap (λ o. option_map_or (λ (x : Entry A). x.pins) o 0) e ∙ count_is k es

-- the sums after counts have changed
pub tallied_repinned : {K : Type 0} (f : K → ℕ → ℕ) (es fs : List (K × Held)) (limit overhead held pinned pinned' : ℕ) → fs ≡ repinned f es → pinned' ≡ pinned_cost overhead fs → IsTallied es limit overhead held pinned → IsTallied fs limit overhead held pinned'
tallied_repinned f es fs limit overhead held pinned pinned' e p t = record {
  held_is = t.held_is ∙ sym (ap (total_cost overhead) e ∙ total-repinned overhead f es);
  pinned_is = p;
  within = t.within;
  limit_is = t.limit_is;
}
