-- A map by ascending keys whose values are of several kinds: a value that is inserted behind all of its kind stands last
-- among them, and the others stay as they are.
use Rattle.std.proofs.Common.{◌≡◌, ◌≢◌, List, [], ◌∷◌, ◌++◌, Option, Some, None, refl, sym, ap, ◌∙◌}
use Rattle.std.specs.List.{AllByRecursion}
use Rattle.std.specs.List.Sorted.{IsStrictlySortedBy}
use Rattle.std.specs.Cmp.{IsTotalOrder}
use Rattle.std.specs.declared.cmp.Ordering.{Ordering}
use Rattle.std.specs.declared.cmp.Ordering.TheVariants.{Less, Equal, Greater}
use Rattle.std.specs.Ordering.{match_ordering}
use Rattle.std.specs.Map.{keys_of}
use Rattle.std.specs.BTreeMap.{insert_entry}
use Rattle.std.proofs.lemmas.Cmp.{tied_itself}

abbrev pub with_one : {X : Type 0} → Option X → List X → List X
with_one None xs = xs
with_one (Some x) xs = x ∷ xs

-- the values of one kind, in the order of their keys
abbrev pub of_kind : {K V X : Type 0} → (V → Option X) → List (K × V) → List X
of_kind pick [] = []
of_kind pick (e ∷ es) = with_one (pick e.1) (of_kind pick es)

one_behind : {X : Type 0} (o : Option X) (xs : List X) (x : X) → with_one o (xs ++ x ∷ []) ≡ with_one o xs ++ x ∷ []
one_behind None xs x = refl
one_behind (Some y) xs x = refl

module _ {K V : Type 0} (cmp : K → K → Ordering) (total : IsTotalOrder cmp) where
  -- the key is none of those that are there
  abbrev pub IsNew : K → List (K × V) → Type 0
  IsNew k es = AllByRecursion (λ e. cmp k e.0 ≢ Equal) es

  module _ {X : Type 0} (pick : V → Option X) where
    -- the key comes behind those of all values of the kind
    abbrev pub IsBehindKind : K → List (K × V) → Type 0
    IsBehindKind k es = AllByRecursion (λ e. (x : X) → pick e.1 ≡ Some x → cmp e.0 k ≡ Less) es

    pub other_kind : (k : K) (v : V) (es : List (K × V)) → pick v ≡ None → IsNew k es → of_kind pick (insert_entry cmp es k v) ≡ of_kind pick es
    other_kind k v [] none new = rw none refl
    other_kind k v (e ∷ es) none new = by (cmp k e.0) refl (other_kind k v es none new.1)
      where
        by : (o : Ordering) → cmp k e.0 ≡ o → of_kind pick (insert_entry cmp es k v) ≡ of_kind pick es
            → of_kind pick (match_ordering o ((k, v) ∷ e ∷ es) ((e.0, v) ∷ es) (e ∷ insert_entry cmp es k v)) ≡ of_kind pick (e ∷ es)
        by Less c ih = rw none refl
        by Equal c ih = absurd (new.0 c)
        by Greater c ih = ap (with_one (pick e.1)) ih

    not_both : (a b : K) → cmp a b ≡ Less → cmp b a ≡ Less → ⊥
    not_both a b h k = let own = total.trans a b a h k in cc (sym own ∙ tied_itself total a)

    none_of_kind : (k : K) (es : List (K × V)) → AllByRecursion (λ e. cmp k e.0 ≡ Less) es → IsBehindKind k es → of_kind pick es ≡ []
    none_of_kind k [] above behind = refl
    none_of_kind k (e ∷ es) above behind = by (pick e.1) refl (none_of_kind k es above.1 behind.1)
      where
        by : (o : Option X) → pick e.1 ≡ o → of_kind pick es ≡ [] → with_one o (of_kind pick es) ≡ []
        by None is rest = rest
        by (Some x) is rest = absurd (not_both k e.0 above.0 (behind.0 x is))

    all_above : (k b : K) (es : List (K × V)) → cmp k b ≡ Less → AllByRecursion (λ q. cmp b q ≡ Less) (keys_of es) → AllByRecursion (λ e. cmp k e.0 ≡ Less) es
    all_above k b [] less h = tt
    all_above k b (e ∷ es) less h = (total.trans k b e.0 less h.0, all_above k b es less h.1)

    pub same_kind : (k : K) (v : V) (x : X) (es : List (K × V)) → pick v ≡ Some x → IsNew k es → IsStrictlySortedBy cmp (keys_of es) → IsBehindKind k es → of_kind pick (insert_entry cmp es k v) ≡ of_kind pick es ++ x ∷ []
    unfolding IsStrictlySortedBy
    same_kind k v x [] is new up behind = rw is refl
    same_kind k v x (e ∷ es) is new up behind = by (cmp k e.0) refl (same_kind k v x es is new.1 up.1 behind.1) (λ less. none_of_kind k (e ∷ es) (less, all_above k e.0 es less up.0) behind)
      where
        by : (o : Ordering) → cmp k e.0 ≡ o → of_kind pick (insert_entry cmp es k v) ≡ of_kind pick es ++ x ∷ [] → (cmp k e.0 ≡ Less → of_kind pick (e ∷ es) ≡ [])
            → of_kind pick (match_ordering o ((k, v) ∷ e ∷ es) ((e.0, v) ∷ es) (e ∷ insert_entry cmp es k v)) ≡ of_kind pick (e ∷ es) ++ x ∷ []
        by Less c ih empty = let none = empty c in ap (λ o. with_one o (of_kind pick (e ∷ es))) is ∙ ap (λ l. x ∷ l) none ∙ sym (ap (λ l. l ++ x ∷ []) none)
        by Equal c ih empty = absurd (new.0 c)
        by Greater c ih empty = ap (with_one (pick e.1)) ih ∙ one_behind (pick e.1) (of_kind pick es) x
