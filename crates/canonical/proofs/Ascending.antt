-- The numbers of a shape.
use Rattle.std.proofs.Common.{◌≡◌, ℕ, zero, suc, ◌+◌, ◌<◌, ◌≤◌, Bool, true, false, not, ◌&&◌, ltb, List, [], ◌∷◌, length, map, refl, arith}
use Rattle.std.specs.List.{AllByRecursion}
use Rattle.std.specs.List.Sorted.{IsStrictlyIncreasing}
use Rattle.std.proofs.lemmas.Bool.{ltb-true, ltb-false}
use Rattle.wire.specs.Record.{IsFieldNumber}
use Rattle.canonical.specs.declared.shape.Entry.{Entry}
use Rattle.canonical.specs.Shape.{is_ascending_past, is_shape}

-- the entries have numbers above n, and each a greater one than the entry before
abbrev pub Ascends : ℕ → List Entry → Type 0
Ascends n [] = Unit {0}
Ascends n (entry ∷ entries) = (n < entry.number) × Ascends entry.number entries

abbrev pub IsNumbered : Entry → Type 0
IsNumbered entry = IsFieldNumber entry.number

pub and_first : (a b : Bool) → (a && b) ≡ true → a ≡ true
and_first true b h = refl
and_first false b h = absurd cc

pub and_second : (a b : Bool) → (a && b) ≡ true → b ≡ true
and_second true b h = h
and_second false b h = absurd cc

true_not : (b : Bool) → not b ≡ true → b ≡ false
true_not true h = absurd cc
true_not false h = refl

-- the three tests of an entry and its rest
record Steps (n : ℕ) (entry : Entry) (entries : List Entry) : Type 0 where
  above : n < entry.number
  most : entry.number ≤ 536870911
  rest : is_ascending_past entry.number entries ≡ true

steps : (n : ℕ) (entry : Entry) (entries : List Entry) → is_ascending_past n (entry ∷ entries) ≡ true → Steps n entry entries
steps n entry entries h =
    let both = and_first (ltb n entry.number && not (ltb 536870911 entry.number)) (is_ascending_past entry.number entries) h in
    record {
      above = ltb-true n entry.number (and_first (ltb n entry.number) (not (ltb 536870911 entry.number)) both);
      most = ltb-false 536870911 entry.number (true_not _ (and_second (ltb n entry.number) (not (ltb 536870911 entry.number)) both));
      rest = and_second (ltb n entry.number && not (ltb 536870911 entry.number)) (is_ascending_past entry.number entries) h;
    }

ascends_in : (n : ℕ) (entries : List Entry) → is_ascending_past n entries ≡ true → Ascends n entries
ascends_in n [] h = tt
ascends_in n (entry ∷ entries) h = let s = steps n entry entries h in (s.above, ascends_in entry.number entries s.rest)

pub ascends : (entries : List Entry) → is_shape entries ≡ true → Ascends 0 entries
ascends entries h = ascends_in 0 entries h

numbered_in : (n : ℕ) (entries : List Entry) → is_ascending_past n entries ≡ true → AllByRecursion IsNumbered entries
numbered_in n [] h = tt
numbered_in n (entry ∷ entries) h = let s = steps n entry entries h in let above = s.above in ((omega arith, s.most), numbered_in entry.number entries s.rest)

pub numbered : (entries : List Entry) → is_shape entries ≡ true → AllByRecursion IsNumbered entries
numbered entries h = numbered_in 0 entries h

pub increasing : (n : ℕ) (entries : List Entry) → Ascends n entries → IsStrictlyIncreasing (map (λ e. e.number) entries)
increasing n [] asc k lt = absurd (omega arith)
increasing n (e ∷ []) asc k lt = absurd (omega arith)
increasing n (e ∷ f ∷ entries) asc zero lt = asc.1.0
increasing n (e ∷ f ∷ entries) asc (suc k) lt =
    let fewer : k + 1 < length (map (λ (x : Entry). x.number) (f ∷ entries)) = omega arith in
    let next : suc k + 1 ≡ suc (k + 1) = omega arith in
    rw next (increasing e.number (f ∷ entries) asc.1 k fewer)
