-- A path that overlaps one of a set overlaps its neighbour in the order of names.
use Rattle.std.proofs.Common.{◌≡◌, ◌↔◌, ◌⊎◌, ℕ, Bool, true, false, cond, List, [], ◌∷◌, ◌++◌, IsTrue, refl, sym, ◌∙◌, subst, inl, inr}
use Rattle.std.specs.declared.cmp.Ordering.{Ordering}
use Rattle.std.specs.declared.cmp.Ordering.TheVariants.{Less, Equal, Greater}
use Rattle.std.specs.declared.ops.Bound.TheVariants.{Included, Unbounded}
use Rattle.std.specs.Ordering.{is_gt, is_eq}
use Rattle.std.specs.List.{Contains}
use Rattle.std.specs.BTreeSet.{BTreeSet, contains, IsKeyRangeOf, Updates}
use Rattle.std.proofs.lemmas.Map.Views.{btree_set_contains_iff}
use Rattle.messages.specs.Path.{Overlap}
use Rattle.plan.specs.Faults.{OverlapsAny}
use Rattle.plan.specs.Targets.{names_cmp, IsAtOrBelow, AreTargetsApart}
use Rattle.plan.proofs.NamesOrder.{names_cmp_total, names_same, names_itself, before_longer, between, not_behind, begins_from, overlap_under, overlap_above}

abbrev Key : Type 0
Key = List (List ℕ)

found : (s : BTreeSet Key) (k : Key) → IsTrue (contains names_cmp s k) ↔ Contains s.keys k
found s k = btree_set_contains_iff names_cmp_total names_same s k

-- ---- the target before a path

abbrev pub HasBeginning : List Key → Key → Type 0
HasBeginning targets names = (above : Key) × Contains targets above × IsAtOrBelow names above

pub beginning_answer : (s : BTreeSet Key) (names before : Key) (r t : List Key) (b : Bool) → AreTargetsApart s.keys → IsKeyRangeOf names_cmp Unbounded (Included names) s r
    → r ≡ t ++ before ∷ [] → IsTrue b ↔ IsAtOrBelow names before → IsTrue b ↔ HasBeginning s.keys names
beginning_answer s names before r t b apart range last test =
    let inside = range.3 before t last in
    let there = (found s before).0 inside.1 in (
      λ h. (before, there, test.0 h),
      λ w.
          let k_first : is_gt (names_cmp w.0 names) ≡ false = subst (λ (p : Key). is_gt (names_cmp w.0 p) ≡ false) (sym w.2.1) (before_longer w.0 w.2.0) in
          let greatest = range.4 before t last w.0 (tt, k_first) ((found s w.0).1 w.1) in
          let behind = not_behind w.0 before greatest in
          let within = subst (λ (p : Key). is_gt (names_cmp before p) ≡ false) w.2.1 inside.0.1 in
          let begins = between w.0 before w.2.0 behind within in
          let same = apart before w.0 there w.1 (overlap_under before w.0 begins) in
          test.1 (subst (IsAtOrBelow names) (sym same) w.2),
    )

pub no_beginning : (s : BTreeSet Key) (names : Key) (r : List Key) → IsKeyRangeOf names_cmp Unbounded (Included names) s r → r ≡ [] → HasBeginning s.keys names → ⊥
no_beginning s names r range empty w =
    let k_first : is_gt (names_cmp w.0 names) ≡ false = subst (λ (p : Key). is_gt (names_cmp w.0 p) ≡ false) (sym w.2.1) (before_longer w.0 w.2.0) in
    let absent = range.5 empty w.0 (tt, k_first) in
    let has = (found s w.0).1 w.1 in
    cc (sym absent ∙ has)

-- ---- the target behind a path

abbrev pub HasLonger : List Key → Key → Type 0
HasLonger targets names = (below : Key) × Contains targets below × IsAtOrBelow below names

pub longer_answer : (s : BTreeSet Key) (names after : Key) (r t : List Key) (b : Bool) → IsKeyRangeOf names_cmp (Included names) Unbounded s r
    → r ≡ after ∷ t → IsTrue b ↔ IsAtOrBelow after names → IsTrue b ↔ HasLonger s.keys names
longer_answer s names after r t b range first test =
    let at = subst (λ (l : List Key). IsKeyRangeOf names_cmp (Included names) Unbounded s l) first range in
    let there = (found s after).0 at.1.1 in (
      λ h. (after, there, test.0 h),
      λ w.
          let k_last : is_gt (names_cmp names w.0) ≡ false = subst (λ (p : Key). is_gt (names_cmp names p) ≡ false) (sym w.2.1) (before_longer names w.2.0) in
          let least : is_gt (names_cmp after w.0) ≡ false = at.2 w.0 (k_last, tt) ((found s w.0).1 w.1) in
          let within = subst (λ (p : Key). is_gt (names_cmp after p) ≡ false) w.2.1 least in
          test.1 (between names after w.2.0 at.1.0.0 within),
    )

pub no_longer : (s : BTreeSet Key) (names : Key) (r : List Key) → IsKeyRangeOf names_cmp (Included names) Unbounded s r → r ≡ [] → HasLonger s.keys names → ⊥
no_longer s names r range empty w =
    let k_last : is_gt (names_cmp names w.0) ≡ false = subst (λ (p : Key). is_gt (names_cmp names p) ≡ false) (sym w.2.1) (before_longer names w.2.0) in
    let absent = range.5 empty w.0 (k_last, tt) in
    let has = (found s w.0).1 w.1 in
    cc (sym absent ∙ has)

-- ---- both

pub overlaps_beginning : (targets : List Key) (names : Key) → HasBeginning targets names → OverlapsAny names targets
overlaps_beginning targets names w = (w.0, w.1, overlap_under names w.0 w.2)

pub overlaps_longer : (targets : List Key) (names : Key) → HasLonger targets names → OverlapsAny names targets
overlaps_longer targets names w = (w.0, w.1, overlap_above names w.0 w.2)

pub overlaps_none : (targets : List Key) (names : Key) → (HasBeginning targets names → ⊥) → (HasLonger targets names → ⊥) → OverlapsAny names targets → ⊥
overlaps_none targets names before_free behind_free w = elim (begins_from names w.0 w.2) [
  | inl under ↦ before_free (w.0, w.1, under)
  | inr above ↦ behind_free (w.0, w.1, above)
]

-- ---- one more target

with_forth : (s n : BTreeSet Key) (k p : Key) → Updates names_cmp s n k true → Contains n.keys p → (p ≡ k) ⊎ Contains s.keys p
with_forth s n k p updates has = by (names_cmp k p) refl (sym (updates.0 p) ∙ (found n p).1 has)
  where
    by : (o : Ordering) → names_cmp k p ≡ o → cond (is_eq o) true (contains names_cmp s p) ≡ true → (p ≡ k) ⊎ Contains s.keys p
    by Less e h = inr ((found s p).0 h)
    by Equal e h = inl (sym (names_same k p e))
    by Greater e h = inr ((found s p).0 h)

with_back : (s n : BTreeSet Key) (k p : Key) → Updates names_cmp s n k true → (p ≡ k) ⊎ Contains s.keys p → Contains n.keys p
with_back s n k p updates (inl e) = (found n p).0 (updates.0 p ∙ rw (e, names_itself k) refl)
with_back s n k p updates (inr has) = by (names_cmp k p) refl
  where
    by : (o : Ordering) → names_cmp k p ≡ o → Contains n.keys p
    by Less e = (found n p).0 (updates.0 p ∙ rw e ((found s p).1 has))
    by Equal e = (found n p).0 (updates.0 p ∙ rw e refl)
    by Greater e = (found n p).0 (updates.0 p ∙ rw e ((found s p).1 has))

pub with_target : (s n : BTreeSet Key) (k : Key) → Updates names_cmp s n k true → (p : Key) → Contains n.keys p ↔ ((p ≡ k) ⊎ Contains s.keys p)
with_target s n k updates p = (with_forth s n k p updates, with_back s n k p updates)

back : (p q : Key) → Overlap p q → Overlap q p
back p q (inl e) = inl (sym e)
back p q (inr (inl u)) = inr (inr u)
back p q (inr (inr u)) = inr (inl u)

pub still_apart : (s n : BTreeSet Key) (k : Key) → Updates names_cmp s n k true → AreTargetsApart s.keys → (OverlapsAny k s.keys → ⊥) → AreTargetsApart n.keys
still_apart s n k updates apart new p q has also overlap = by (with_forth s n k p updates has) (with_forth s n k q updates also)
  where
    by : (p ≡ k) ⊎ Contains s.keys p → (q ≡ k) ⊎ Contains s.keys q → p ≡ q
    by (inl e) (inl f) = e ∙ sym f
    by (inl e) (inr old) = absurd (new (q, old, subst (λ (x : Key). Overlap x q) e overlap))
    by (inr old) (inl f) = absurd (new (p, old, subst (λ (x : Key). Overlap x p) f (back p q overlap)))
    by (inr old) (inr older) = apart p q old older overlap

-- ---- what is answered

pub refused : (targets : List Key) (names target : Key) → names ≡ target → OverlapsAny names targets → OverlapsAny target targets
refused targets names target e overlaps = subst (λ (p : Key). OverlapsAny p targets) e overlaps

pub told_none : (targets : List Key) (names target : Key) (before behind : Bool) → names ≡ target → IsTrue before ↔ HasBeginning targets names → IsTrue behind ↔ HasLonger targets names
    → before ≡ false → behind ≡ false → OverlapsAny target targets → ⊥
told_none targets names target before behind e begins longer not_before not_behind =
    subst (λ (p : Key). OverlapsAny p targets → ⊥) e (overlaps_none targets names (λ w. cc (sym not_before ∙ begins.1 w)) (λ w. cc (sym not_behind ∙ longer.1 w)))

pub taken_with : (s n : BTreeSet Key) (old : List Key) (names target : Key) → s.keys ≡ old → names ≡ target → Updates names_cmp s n names true → (p : Key) → Contains n.keys p ↔ ((p ≡ target) ⊎ Contains old p)
taken_with s n old names target view e updates p =
    subst (λ (ks : List Key). Contains n.keys p ↔ ((p ≡ target) ⊎ Contains ks p)) view (subst (λ (t : Key). Contains n.keys p ↔ ((p ≡ t) ⊎ Contains s.keys p)) e (with_target s n names updates p))

pub taken_apart : (s n : BTreeSet Key) (old : List Key) (names target : Key) → s.keys ≡ old → names ≡ target → Updates names_cmp s n names true → AreTargetsApart s.keys → (OverlapsAny target old → ⊥)
    → AreTargetsApart n.keys
taken_apart s n old names target view e updates apart free =
    still_apart s n names updates apart (λ w. free (subst (λ (ks : List Key). OverlapsAny target ks) view (subst (λ (p : Key). OverlapsAny p s.keys) e w)))
