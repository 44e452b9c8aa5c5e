-- Calls over what is known, one after another.
use Rattle.std.proofs.Common.{◌≡◌, ℕ, zero, suc, ◌+◌, ◌≤◌, List, [], ◌∷◌, length, refl, ap, sym, ◌∙◌, subst, arith, inl, inr}
use Rattle.std.specs.Prelude.{◌⊎◌, Option, Some, None, Contains, Result, Ok, Err}
use Rattle.std.specs.Result.{IsErrAnd}
use Rattle.blob_source.specs.Source.{Telling, Grows}
use Rattle.blob_source.specs.Told.{Fault}
use Rattle.tree.specs.declared.error.TreeError.{TreeError}
use Rattle.tree.specs.declared.error.TreeError.TheVariants.{Absent, BlobMissing, BlobWrong, BlobMalformed, TooDeep, Conflict, Fetch, Memory}
use Rattle.tree.specs.TreeError.{CutsShort, Explains, IsCutShort}
use Rattle.tree.specs.Memo.{Asked, blob, result, Known, IsKnownOf, one_if_none, count_unknown, Learns, KnowsNothing, WasRefused, IsWithout}
use Rattle.tree.proofs.Descent.{under_still}
use Rattle.tree.proofs.Leaving.{others_more, others_then}

-- ---- lists of what is asked for

contains_cases : {A : Type 0} (a x : A) (xs : List A) → Contains (a ∷ xs) x → (a ≡ x) ⊎ Contains xs x
contains_cases a x xs (zero, lt, e) = inl e
contains_cases a x xs (suc k, lt, e) = inr (k, omega (arith, lt), e)

at_most_one : (o : Option (List ℕ)) → one_if_none o ≤ 1
at_most_one None = omega arith
at_most_one (Some b) = omega arith

module _ (old new : Known) (kept : (a : Asked) (b : List ℕ) → old a ≡ Some b → new a ≡ Some b) where
  fewer_at : (a : Asked) (o : Option (List ℕ)) → old a ≡ o → one_if_none (new a) ≤ one_if_none o
  fewer_at a None is = at_most_one (new a)
  fewer_at a (Some b) is = subst (λ x. one_if_none x ≤ 0) (sym (kept a b is)) (omega arith)

  pub fewer : (list : List Asked) → count_unknown new list ≤ count_unknown old list
  fewer [] = omega arith
  fewer (a ∷ list) = let here = fewer_at a (old a) refl in let rest = fewer list in omega (arith, here, rest)

  -- one that becomes known
  pub one_fewer : (a : Asked) (b : List ℕ) (list : List Asked) → old a ≡ None → new a ≡ Some b → Contains list a → count_unknown new list + 1 ≤ count_unknown old list
  one_fewer a b [] none some (k, lt, e) = absurd (omega (arith, lt))
  one_fewer a b (x ∷ list) none some h = by (one_fewer a b list none some) (contains_cases x a list h)
    where
      by : (Contains list a → count_unknown new list + 1 ≤ count_unknown old list) → (x ≡ a) ⊎ Contains list a → count_unknown new (x ∷ list) + 1 ≤ count_unknown old (x ∷ list)
      by later (inl same) =
          let rest = fewer list in
          let was : one_if_none (old x) ≡ 1 = ap (λ y. one_if_none (old y)) same ∙ ap one_if_none none in
          let now : one_if_none (new x) ≡ 0 = ap (λ y. one_if_none (new y)) same ∙ ap one_if_none some in
          omega (arith, rest, was, now)
      by later (inr there) =
          let here = fewer_at x (old x) refl in
          let rest = later there in
          omega (arith, here, rest)

-- one that isn't known
pub one_unknown : (known : Known) (a : Asked) (list : List Asked) → known a ≡ None → Contains list a → 1 ≤ count_unknown known list
one_unknown known a [] none (k, lt, e) = absurd (omega (arith, lt))
one_unknown known a (x ∷ list) none h = by (one_unknown known a list none) (contains_cases x a list h)
  where
    by : (Contains list a → 1 ≤ count_unknown known list) → (x ≡ a) ⊎ Contains list a → 1 ≤ count_unknown known (x ∷ list)
    by later (inl same) = let was : one_if_none (known x) ≡ 1 = ap (λ y. one_if_none (known y)) same ∙ ap one_if_none none in omega (arith, was)
    by later (inr there) = let rest = later there in omega (arith, rest)

-- ---- calls

-- what is known is so from then on
pub known_still : {known : Known} {old new : Telling} → Grows old.blobs new.blobs → Grows old.results new.results → IsKnownOf known old → IsKnownOf known new
known_still g k h = record {
  blobs = λ d b is. let there = h.blobs d b is in record { held = under_still g there.held; right = there.right };
  results = λ d b is. k d b (h.results d b is);
}

-- nothing was asked
pub learns_none : {Looks : Asked → Type 0} {refused : Type 0} {known : Known} {t : Telling} → IsKnownOf known t → Learns Looks refused known known t t
learns_none {known = known} {t = t} h = record {
  known = h;
  kept = λ a b is. is;
  others = λ a not other. refl;
  only = record { blobs = λ d not. refl; results = λ d not. refl };
  once = λ list covers. omega arith;
  learned = λ no list covers. omega arith;
  last = λ list covers. omega arith;
}

-- some calls, and some after them
pub learns_then : {first next both : Asked → Type 0} {rejected refused : Type 0} {k0 k1 k2 : Known} {t0 t1 t2 : Telling}
    → ((a : Asked) → first a → both a) → ((a : Asked) → next a → both a) → (rejected → ⊥)
    → Learns first rejected k0 k1 t0 t1 → Learns next refused k1 k2 t1 t2 → Learns both refused k0 k2 t0 t2
learns_then to on passed h k = record {
  known = k.known;
  kept = λ a b is. k.kept a b (h.kept a b is);
  others = λ a not other. k.others a (λ at. not (on a at)) other ∙ h.others a (λ at. not (to a at)) other;
  only = others_then to on h.only k.only;
  once = λ list covers.
      let early = h.learned passed list (λ a at. covers a (to a at)) in
      let late = k.once list (λ a at. covers a (on a at)) in
      omega (arith, early, late);
  learned = λ none list covers.
      let early = h.learned passed list (λ a at. covers a (to a at)) in
      let late = k.learned none list (λ a at. covers a (on a at)) in
      omega (arith, early, late);
  last = λ list covers.
      let early = h.learned passed list (λ a at. covers a (to a at)) in
      let late = k.last list (λ a at. covers a (on a at)) in
      omega (arith, early, late);
}

-- the same, said of more
pub learns_more : {few many : Asked → Type 0} {rejected refused : Type 0} {k0 k1 : Known} {t0 t1 : Telling}
    → ((a : Asked) → few a → many a) → ((refused → ⊥) → rejected → ⊥) → Learns few rejected k0 k1 t0 t1 → Learns many refused k0 k1 t0 t1
learns_more to by h = record {
  known = h.known;
  kept = h.kept;
  others = λ a not other. h.others a (λ at. not (to a at)) other;
  only = others_more to h.only;
  once = λ list covers. h.once list (λ a at. covers a (to a at));
  learned = λ none list covers. h.learned (by none) list (λ a at. covers a (to a at));
  last = λ list covers. h.last list (λ a at. covers a (to a at));
}

-- refused in the end
pub learns_refused : {few many : Asked → Type 0} {rejected refused : Type 0} {k0 k1 : Known} {t0 t1 : Telling}
    → ((a : Asked) → few a → many a) → refused → Learns few rejected k0 k1 t0 t1 → Learns many refused k0 k1 t0 t1
learns_refused to is h = learns_more to (λ none q. none is) h

-- the exit of a `?` is a refusal
pub refused_exit : {U E : Type 0} (r : Result U E) (P : E → Type 0) → IsErrAnd r P → WasRefused r
refused_exit (Ok x) P exit = exit
refused_exit (Err e) P exit = tt

pub without_exit : {U E : Type 0} (r : Result (Option U) E) (P : E → Type 0) → IsErrAnd r P → IsWithout r
without_exit (Ok x) P exit = elim exit [ ]
without_exit (Err e) P exit = tt

-- a Directory that can't be read cuts a look-up short
pub cut_by : {A : Type 0} (F : Fault → Type 0) (e : TreeError A) → Explains F e → CutsShort e
cut_by F (Absent path) h = h
cut_by F (BlobMissing f) h = tt
cut_by F (BlobWrong f) h = tt
cut_by F (BlobMalformed f) h = tt
cut_by F (TooDeep path) h = tt
cut_by F (Conflict path) h = tt
cut_by F Fetch h = tt
cut_by F Memory h = tt

-- so does want of memory
pub cut_by_memory : {A T : Type 0} (r : Result T (TreeError A)) → IsErrAnd r (λ e. e ≡ Memory) → IsCutShort r
cut_by_memory (Ok x) exit = exit
cut_by_memory (Err e) exit = subst CutsShort (sym exit) tt

-- ---- nothing is known yet

pub known_nothing : {known : Known} {t : Telling} → KnowsNothing known → IsKnownOf known t
known_nothing {known} h = record {
  blobs = λ d b is. absurd (never (h (blob d)) is);
  results = λ d b is. absurd (never (h (result d)) is);
}
  where
    never : {o : Option (List ℕ)} {b : List ℕ} → o ≡ None → o ≡ Some b → ⊥
    never e f = cc

pub nothing_known : {known : Known} → KnowsNothing known → (list : List Asked) → count_unknown known list ≡ length list
nothing_known h [] = refl
nothing_known {known} h (a ∷ list) =
    let one : one_if_none (known a) ≡ 1 = ap one_if_none (h a) in
    let rest = nothing_known h list in
    omega (arith, one, rest)
