-- What is seen of the entries in memory.
use Rattle.std.proofs.Common.{◌≡◌, ℕ, ◌+◌, ◌-◌, ◌<◌, ◌≤◌, length, take, get_or, arith, ◌&&◌, ◌||◌, Bool, true, false, cond, not, List, [], ◌∷◌, ◌++◌, Option, Some, None, option_map, is_some, refl, ap, sym, ◌∙◌, subst}
use Rattle.std.specs.Cmp.{IsEquivalence}
use Rattle.std.specs.List.{filter, IsDistinct}
use Rattle.std.specs.Map.{keys_of, lookup, lookup_entry, remove_entry}
use Rattle.std.specs.Option.{option_map_or}
use Rattle.lru.specs.LruCache.{LruCache, promoted, put_entries}
use Rattle.eviction.specs.declared.entry.Entry.{Entry}
use Rattle.eviction.specs.Kept.{Held, moved_to_front, others, total_cost, bytes_under}
use Rattle.eviction.specs.Entering.{stored_key}
use Rattle.eviction.proofs.Costs.{cost_under, total_others, pinned_others}
use Rattle.eviction.specs.Pinning.{is_among, is_stored, pins_of}
use Rattle.eviction.specs.Victims.{IsStanding, without_keys}
use Rattle.eviction.specs.View.{held, held_all}
use Rattle.eviction.proofs.Filters.{filter-map, filter-filter, filter_same}
use Rattle.eviction.proofs.Distinct.{remove_others, others_absent, promoted_front}
use Rattle.std.proofs.lemmas.Map.Entries.{lookup-filter-keys}
use Rattle.std.proofs.lemmas.List.{map-append, take_all, take_more}
use Rattle.std.proofs.lemmas.List.Folds.{list_any-append}

abbrev pub option_or : {X : Type 0} → Option X → Option X → Option X
option_or None o = o
option_or (Some x) o = Some x

module _ {K X : Type 0} where
  pub lookup-append : (test : K → Bool) (es fs : List (K × X)) → lookup test (es ++ fs) ≡ option_or (lookup test es) (lookup test fs)
  lookup-append test [] fs = refl
  lookup-append test (e ∷ es) fs =
      elim (test e.0) as (λ b. cond b (Some e.1) (lookup test (es ++ fs)) ≡ option_or (cond b (Some e.1) (lookup test es)) (lookup test fs))
      [ true ↦ refl | false ↦ lookup-append test es fs ]

module _ {A : Type 0} where
  held_or_not : (o : Option (Entry A)) → is_some (option_map held o) ≡ is_some o
  held_or_not None = refl
  held_or_not (Some e) = refl

module _ {K A : Type 0} where
  pub keys_held : (es : List (K × Entry A)) → keys_of (held_all es) ≡ keys_of es
  keys_held [] = refl
  keys_held (e ∷ es) = ap (λ l. e.0 ∷ l) (keys_held es)

  pub lookup_held : (test : K → Bool) (es : List (K × Entry A)) → lookup test (held_all es) ≡ option_map held (lookup test es)
  lookup_held test [] = refl
  lookup_held test (e ∷ es) =
      elim (test e.0) as (λ b. cond b (Some (held e.1)) (lookup test (held_all es)) ≡ option_map held (cond b (Some e.1) (lookup test es)))
      [ true ↦ refl | false ↦ lookup_held test es ]

  pub is_stored_held : (eq : K → K → Bool) (k : K) (es : List (K × Entry A)) → is_stored eq (held_all es) k ≡ is_some (lookup (eq k) es)
  is_stored_held eq k es = ap is_some (lookup_held (eq k) es) ∙ held_or_not (lookup (eq k) es)

  pub find_held : (test : K → Bool) (es : List (K × Entry A)) → lookup_entry test (held_all es) ≡ option_map (λ e. (e.0, held e.1)) (lookup_entry test es)
  find_held test [] = refl
  find_held test (e ∷ es) =
      elim (test e.0) as (λ b. cond b (Some (e.0, held e.1)) (lookup_entry test (held_all es)) ≡ option_map (λ f. (f.0, held f.1)) (cond b (Some e) (lookup_entry test es)))
      [ true ↦ refl | false ↦ find_held test es ]

  pub filter_held : (p : K → Bool) (es : List (K × Entry A)) → filter (λ e. p e.0) (held_all es) ≡ held_all (filter (λ e. p e.0) es)
  filter_held p es = filter-map (λ e. (e.0, held e.1)) (λ e. p e.0) es

  pub distinct_held : (eq : K → K → Bool) (es : List (K × Entry A)) → IsDistinct eq (keys_of es) → IsDistinct eq (keys_of (held_all es))
  distinct_held eq es d = subst (IsDistinct eq) (sym (keys_held es)) d

  module _ (eq : K → K → Bool) (laws : IsEquivalence eq) where
    pub promoted_held : (k : K) (es : List (K × Entry A)) → IsDistinct eq (keys_of es) → held_all (promoted (eq k) es) ≡ moved_to_front eq k (held_all es)
    promoted_held k es d =
        ap held_all (promoted_front eq laws k es d)
        ∙ map-append (λ e. (e.0, held e.1)) (filter (λ e. eq k e.0) es) (filter (λ e. not (eq k e.0)) es)
        ∙ sym (λ i. filter_held (λ x. eq k x) es i ++ filter_held (λ x. not (eq k x)) es i)

    pub removed_held : (k : K) (es : List (K × Entry A)) → IsDistinct eq (keys_of es) → held_all (remove_entry (eq k) es) ≡ others eq k (held_all es)
    removed_held k es d = ap held_all (remove_others eq laws k es d) ∙ sym (filter_held (λ x. not (eq k x)) es)

  module _ (eq : K → K → Bool) (laws : IsEquivalence eq) (c : LruCache K (Entry A)) (k : K) (v : Entry A) where
    abbrev key_or : Option (K × Entry A) → K
    key_or o = option_map_or (λ (e : K × Held). e.0) (option_map (λ (e : K × Entry A). (e.0, held e.1)) o) k

    abbrev put_after : Option (K × Entry A) → List (K × Entry A)
    put_after o = option_map_or (λ (e : K × Entry A). (e.0, v) ∷ remove_entry (eq k) c.entries) o ((k, v) ∷ take (c.cap - 1) c.entries)

    put_cases : (o : Option (K × Entry A)) → lookup_entry (eq k) c.entries ≡ o → IsDistinct eq (keys_of c.entries) → length c.entries < c.cap
        → held_all (put_after o) ≡ (key_or o, held v) ∷ others eq k (held_all c.entries)
    put_cases None h d r =
        ap (λ l. (k, held v) ∷ held_all l) (take_all (c.cap - 1) c.entries (omega arith) ∙ sym (others_absent eq laws k c.entries h d))
        ∙ ap (λ l. (k, held v) ∷ l) (sym (filter_held (λ x. not (eq k x)) c.entries))
    put_cases (Some e) h d r = ap (λ l. (e.0, held v) ∷ l) (removed_held eq laws k c.entries d)

    -- a put with room to spare puts the entry before the others
    pub put_held : IsDistinct eq (keys_of c.entries) → length c.entries < c.cap → held_all (put_entries eq c k v) ≡ (stored_key eq (held_all c.entries) k, held v) ∷ others eq k (held_all c.entries)
    put_held d r = put_cases (lookup_entry (eq k) c.entries) refl d r ∙ ap (λ (o : Option (K × Held)). (option_map_or (λ (e : K × Held). e.0) o k, held v) ∷ others eq k (held_all c.entries)) (sym (find_held (eq k) c.entries))

  module _ (test : K → Bool) (overhead : ℕ) where
    -- an entry that is found costs no more than all
    pub cost_within : (es : List (K × Entry A)) (v : Entry A) → lookup test es ≡ Some v → length v.bytes + overhead ≤ total_cost overhead (held_all es)
    cost_within [] v h = absurd cc
    cost_within (e ∷ es) v h = (elim (test e.0) as (λ b. test e.0 ≡ b → length v.bytes + overhead ≤ total_cost overhead (held_all (e ∷ es))) [
      | true ↦ λ t. let h' = rw t at h in let same : length e.1.bytes ≡ length v.bytes = cc in omega arith
      | false ↦ λ t. let on = cost_within es v (rw t at h) in omega arith
    ]) refl

module _ {A : Type 0} where
  pub pins_found : (o : Option (Entry A)) → option_map_or (λ (v : Entry A). v.pins) o 0 ≡ option_map_or (λ (h : Held). h.pins) (option_map held o) 0
  pins_found None = refl
  pins_found (Some v) = refl

  found_cost : (overhead : ℕ) (o : Option (Entry A)) → option_map_or (λ (h : Held). length h.bytes + overhead) (option_map held o) 0 ≡ option_map_or (λ (v : Entry A). length v.bytes + overhead) o 0
  found_cost overhead None = refl
  found_cost overhead (Some v) = refl

module _ {K A : Type 0} where
  pub cost_found : (overhead : ℕ) (eq : K → K → Bool) (k : K) (es : List (K × Entry A)) → cost_under overhead eq k (held_all es) ≡ option_map_or (λ (v : Entry A). length v.bytes + overhead) (lookup (eq k) es) 0
  cost_found overhead eq k es = ap (λ o. option_map_or (λ (h : Held). length h.bytes + overhead) o 0) (lookup_held (eq k) es) ∙ found_cost overhead (lookup (eq k) es)

  pub stands : (eq : K → K → Bool) (laws : IsEquivalence eq) (k : K) (overhead : ℕ) (es : List (K × Entry A)) (o : Option (Entry A)) → IsDistinct eq (keys_of es) → o ≡ lookup (eq k) es
      → IsStanding eq k overhead (held_all es) (option_map_or (λ (v : Entry A). length v.bytes + overhead) o 0) (option_map_or (λ (v : Entry A). v.pins) o 0)
  stands eq laws k overhead es o d e =
      let d' = distinct_held eq es d in
      let pins : option_map_or (λ (v : Entry A). v.pins) o 0 ≡ pins_of eq (held_all es) k = pins_found o ∙ ap (λ q. option_map_or (λ (h : Held). h.pins) (option_map held q) 0) e ∙ ap (λ q. option_map_or (λ (h : Held). h.pins) q 0) (sym (lookup_held (eq k) es)) in
      let costs : option_map_or (λ (v : Entry A). length v.bytes + overhead) o 0 ≡ cost_under overhead eq k (held_all es) = ap (λ q. option_map_or (λ (v : Entry A). length v.bytes + overhead) q 0) e ∙ sym (cost_found overhead eq k es) in
      record {
        pins_are = pins;
        rest_are = rw costs (total_others overhead eq laws k (held_all es) d');
        pinned_are = rw (pins, costs) (pinned_others overhead eq laws k (held_all es) d');
      }

  -- what is taken out and what stays cost together what all did
  pub cost_taken : (overhead : ℕ) (eq : K → K → Bool) (laws : IsEquivalence eq) (k : K) (es : List (K × Entry A)) (fs : List (K × Entry A)) (o : Option (Entry A)) → IsDistinct eq (keys_of es)
      → fs ≡ remove_entry (eq k) es → o ≡ lookup (eq k) es → option_map_or (λ (v : Entry A). length v.bytes + overhead) o 0 + total_cost overhead (held_all fs) ≡ total_cost overhead (held_all es)
  cost_taken overhead eq laws k es fs o d f g =
      rw (f, g, removed_held eq laws k es d, ← cost_found overhead eq k es) (total_others overhead eq laws k (held_all es) (distinct_held eq es d))

module _ {K : Type 0} (eq : K → K → Bool) where
  pub without_no_keys : (es : List (K × Held)) → without_keys eq [] es ≡ es
  without_no_keys [] = refl
  without_no_keys (e ∷ es) = ap (λ l. e ∷ l) (without_no_keys es)

  neither : (a b : Bool) → (not a && not b) ≡ not (a || (b || false))
  neither true b = refl
  neither false true = refl
  neither false false = refl

  pub without_push : (vs : List K) (x : K) (es : List (K × Held)) → others eq x (without_keys eq vs es) ≡ without_keys eq (vs ++ x ∷ []) es
  without_push vs x es =
      filter-filter (λ e. not (eq x e.0)) (λ e. not (is_among eq vs e.0)) es
      ∙ filter_same (λ e. not (is_among eq vs e.0) && not (eq x e.0)) (λ e. not (is_among eq (vs ++ x ∷ []) e.0))
      (λ e. neither (is_among eq vs e.0) (eq x e.0) ∙ ap not (sym (list_any-append (λ v. eq v e.0) vs (x ∷ [])))) es

  -- one more key is gone
  pub without_next : (ks : List K) (i : ℕ) (x : K) (es fs gs : List (K × Held)) → i < length ks → x ≡ get_or ks i x → fs ≡ others eq x gs → gs ≡ without_keys eq (take i ks) es
      → fs ≡ without_keys eq (take (i + 1) ks) es
  without_next ks i x es fs gs h at f g =
      f ∙ ap (others eq x) g ∙ without_push (take i ks) x es ∙ ap (λ l. without_keys eq l es) (ap (λ y. take i ks ++ y ∷ []) at ∙ sym (take_more ks i x h))

  -- a look-up doesn't see the order
  cut : (b : Bool) (test p : K → Bool) (r : K → Bool) (es : List (K × Held)) → ((j : K) → test j ≡ true → p j ≡ b) → lookup test (filter (λ e. p e.0) es ++ filter (λ e. not (p e.0)) es) ≡ lookup test es
  cut b test p r es h =
      lookup-append test (filter (λ e. p e.0) es) (filter (λ e. not (p e.0)) es)
      ∙ (λ i. option_or (lookup-filter-keys test p b h es i) (lookup-filter-keys test (λ j. not (p j)) (not b) (λ j t. ap not (h j t)) es i))
      ∙ by_case b (lookup test es)
    where
      by_case : (b : Bool) (o : Option Held) → option_or (cond b o None) (cond (not b) o None) ≡ o
      by_case true None = refl
      by_case true (Some h) = refl
      by_case false o = refl

  pub lookup_moved : IsEquivalence eq → (q k : K) (es : List (K × Held)) → lookup (eq q) (moved_to_front eq k es) ≡ lookup (eq q) es
  lookup_moved laws q k es = cut (eq k q) (eq q) (eq k) (eq k) es (λ j t. laws.symm k j ∙ sym (laws.congr q j k t) ∙ laws.symm q k)

module _ {K A : Type 0} (eq : K → K → Bool) (laws : IsEquivalence eq) where
  -- what a look-up after a promotion finds is what one before it finds
  pub found_before : (k : K) (es fs : List (K × Entry A)) (o : Option (Entry A)) → IsDistinct eq (keys_of es) → fs ≡ promoted (eq k) es → o ≡ lookup (eq k) fs
      → option_map (λ (e : Entry A). e.bytes) o ≡ bytes_under eq (held_all es) k
  found_before k es fs o d p l =
      ap (option_map (λ (e : Entry A). e.bytes)) l
      ∙ both (lookup (eq k) fs)
      ∙ ap (option_map (λ (h : Held). h.bytes)) (sym (lookup_held (eq k) fs) ∙ ap (lookup (eq k)) (ap held_all p ∙ promoted_held eq laws k es d) ∙ lookup_moved eq laws k k (held_all es))
    where
      both : (o : Option (Entry A)) → option_map (λ (e : Entry A). e.bytes) o ≡ option_map (λ (h : Held). h.bytes) (option_map held o)
      both None = refl
      both (Some e) = refl
