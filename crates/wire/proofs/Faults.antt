-- The first fault of a varint is the one that its bytes have.
use Rattle.std.proofs.Common.{◌≡◌, ℕ, zero, suc, ◌+◌, ◌-◌, ◌*◌, ◌<◌, ◌≤◌, true, cond, eqb, ltb, List, [], ◌∷◌, length, Result, Ok, Err, refl, sym, ap, subst, arith, inl, inr}
use Rattle.std.specs.List.{AllByRecursion}
use Rattle.std.proofs.lemmas.Bool.{eqb-true, ltb-true, ltb-false}
use Rattle.wire.specs.declared.error.WireError.{WireError}
use Rattle.wire.specs.declared.error.WireError.TheVariants.{Truncated, VarintTooLong, NotMinimal, BadWireType, BadNumber}
use Rattle.wire.specs.Steps.{◌>>=◌}
use Rattle.wire.specs.Varint.{groups_by, varint_by, varint_at, StandsBehind, HasVarintFault}
use Rattle.wire.proofs.Records.{chosen}

-- the fault of the groups behind a first one
abbrev HasGroupsFault : ℕ → WireError → List ℕ → Type 0
HasGroupsFault count Truncated bytes = (length bytes ≤ count) × AllByRecursion (λ a. 128 ≤ a) bytes
HasGroupsFault count VarintTooLong bytes = (front : List ℕ) × (b : ℕ) × (length front ≡ count) × (1 < b) × StandsBehind front b bytes
HasGroupsFault count NotMinimal bytes = (front : List ℕ) × (length front ≤ count) × StandsBehind front 0 bytes
HasGroupsFault count BadWireType bytes = ⊥
HasGroupsFault count BadNumber bytes = ⊥

abbrev pub failed : {A : Type 0} → WireError → Result A WireError
failed e = Err e

pub err_is : {A : Type 0} (d e : WireError) → failed {A = A} d ≡ failed e → d ≡ e
err_is d e h = cc

pub bind_err : {A B : Type 0} (r : Result A WireError) (f : A → B) (e : WireError) → (r >>= λ x. Ok (f x)) ≡ Err e → r ≡ Err e
bind_err (Ok x) f e h = absurd cc
bind_err {A} {B} (Err d) f e h = let same : d ≡ e = err_is {A = B} d e h in ap (λ (x : WireError). failed {A = A} x) same

pub none_before : (b : ℕ) (bytes : List ℕ) → StandsBehind [] b (b ∷ bytes)
none_before b bytes = record { follow = tt; rest = bytes; parts = refl }

pub one_before : (a b : ℕ) (front bytes : List ℕ) → 128 ≤ a → StandsBehind front b bytes → StandsBehind (a ∷ front) b (a ∷ bytes)
one_before a b front bytes le s = record { follow = (le, s.follow); rest = s.rest; parts = ap (λ (l : List ℕ). a ∷ l) s.parts }

more_fault : (count b : ℕ) (bytes : List ℕ) (e : WireError) → 128 ≤ b → HasGroupsFault count e bytes → HasGroupsFault (suc count) e (b ∷ bytes)
more_fault count b bytes Truncated le h = let few = h.0 in (omega arith, (le, h.1))
more_fault count b bytes VarintTooLong le (front, c, len, big, s) = (b ∷ front, c, omega arith, big, one_before b c front bytes le s)
more_fault count b bytes NotMinimal le (front, len, s) = (b ∷ front, omega arith, one_before b 0 front bytes le s)
more_fault count b bytes BadWireType le h = absurd h
more_fault count b bytes BadNumber le h = absurd h

nought_fault : (count b : ℕ) (bytes : List ℕ) (e : WireError) → cond {A = Result (ℕ × List ℕ) WireError} (eqb b 0) (Err NotMinimal) (Ok (b, bytes)) ≡ Err e → HasGroupsFault count e (b ∷ bytes)
nought_fault count b bytes e h =
    elim (chosen (eqb b 0) (Err NotMinimal) (Ok (b, bytes)) (Err e) h) [
      | inl g ↦
          let nought : b ≡ 0 = eqb-true b 0 g.0 in
          let here : HasGroupsFault count NotMinimal (b ∷ bytes) = ([], omega arith, subst (λ (k : ℕ). StandsBehind [] 0 (k ∷ bytes)) (sym nought) (none_before 0 bytes)) in
          subst (λ (d : WireError). HasGroupsFault count d (b ∷ bytes)) (err_is {A = ℕ × List ℕ} NotMinimal e g.1) here
      | inr g ↦ let no = g.1 in absurd cc
    ]

groups_faulty : (count : ℕ) (bytes : List ℕ) (e : WireError) → groups_by true count bytes ≡ Err e → HasGroupsFault count e bytes
unfolding groups_by
groups_faulty zero [] e h = subst (λ (d : WireError). HasGroupsFault zero d []) (err_is {A = ℕ × List ℕ} Truncated e h) (omega arith, tt)
groups_faulty (suc count) [] e h = subst (λ (d : WireError). HasGroupsFault (suc count) d []) (err_is {A = ℕ × List ℕ} Truncated e h) (omega arith, tt)
groups_faulty zero (b ∷ bytes) e h =
    elim (chosen (ltb 1 b) (Err VarintTooLong) (cond (eqb b 0) (Err NotMinimal) (Ok (b, bytes))) (Err e) h) [
      | inl g ↦
          let here : HasGroupsFault zero VarintTooLong (b ∷ bytes) = ([], b, refl, ltb-true 1 b g.0, none_before b bytes) in
          subst (λ (d : WireError). HasGroupsFault zero d (b ∷ bytes)) (err_is {A = ℕ × List ℕ} VarintTooLong e g.1) here
      | inr g ↦ nought_fault zero b bytes e g.1
    ]
groups_faulty (suc count) (b ∷ bytes) e h =
    elim (chosen (ltb b 128) (cond (eqb b 0) (Err NotMinimal) (Ok (b, bytes))) (groups_by true count bytes >>= λ high. Ok (b - 128 + 128 * high.0, high.1)) (Err e) h) [
      | inl g ↦ nought_fault (suc count) b bytes e g.1
      | inr g ↦ more_fault count b bytes e (ltb-false b 128 g.0) (groups_faulty count bytes e (bind_err (groups_by true count bytes) (λ high. (b - 128 + 128 * high.0, high.1)) e g.1))
    ]

whole_fault : (b : ℕ) (bytes : List ℕ) (e : WireError) → 128 ≤ b → HasGroupsFault 8 e bytes → HasVarintFault e (b ∷ bytes)
whole_fault b bytes Truncated le h = let few = h.0 in (omega arith, (le, h.1))
whole_fault b bytes VarintTooLong le (front, c, len, big, s) = (b ∷ front, c, omega arith, big, one_before b c front bytes le s)
whole_fault b bytes NotMinimal le (front, len, s) = (b ∷ front, omega arith, omega arith, one_before b 0 front bytes le s)
whole_fault b bytes BadWireType le h = absurd h
whole_fault b bytes BadNumber le h = absurd h

pub varint_faulty : (bytes : List ℕ) (e : WireError) → varint_at bytes ≡ Err e → HasVarintFault e bytes
unfolding varint_by
varint_faulty [] e h = subst (λ (d : WireError). HasVarintFault d []) (err_is {A = ℕ × List ℕ} Truncated e h) (omega arith, tt)
varint_faulty (b ∷ bytes) e h =
    elim (chosen (ltb b 128) (Ok (b, bytes)) (groups_by true 8 bytes >>= λ high. Ok (b - 128 + 128 * high.0, high.1)) (Err e) h) [
      | inl g ↦ let no = g.1 in absurd cc
      | inr g ↦ whole_fault b bytes e (ltb-false b 128 g.0) (groups_faulty 8 bytes e (bind_err (groups_by true 8 bytes) (λ high. (b - 128 + 128 * high.0, high.1)) e g.1))
    ]
