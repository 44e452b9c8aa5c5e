-- The first fault of a varint in any groups is the one that its bytes have.
use Rattle.std.proofs.Common.{◌≡◌, ℕ, zero, suc, ◌+◌, ◌-◌, ◌*◌, ◌<◌, ◌≤◌, false, ltb, List, [], ◌∷◌, length, Ok, Err, refl, subst, arith, inl, inr}
use Rattle.std.specs.List.{AllByRecursion}
use Rattle.std.proofs.lemmas.Bool.{ltb-true, ltb-false}
use Rattle.wire.specs.declared.error.WireError.{WireError}
use Rattle.wire.specs.declared.error.WireError.TheVariants.{Truncated, VarintTooLong, NotMinimal, BadWireType, BadNumber}
use Rattle.wire.specs.AnySpelling.{HasAnyVarintFault}
use Rattle.wire.specs.Steps.{◌>>=◌}
use Rattle.wire.specs.Varint.{groups_by, varint_by, StandsBehind}
use Rattle.wire.proofs.Faults.{err_is, bind_err, none_before, one_before}
use Rattle.wire.proofs.Records.{chosen}

abbrev HasGroupsFault : ℕ → WireError → List ℕ → Type 0
HasGroupsFault count Truncated bytes = (length bytes ≤ count) × AllByRecursion (λ a. 128 ≤ a) bytes
HasGroupsFault count VarintTooLong bytes = (front : List ℕ) × (b : ℕ) × (length front ≡ count) × (1 < b) × StandsBehind front b bytes
HasGroupsFault count NotMinimal bytes = ⊥
HasGroupsFault count BadWireType bytes = ⊥
HasGroupsFault count BadNumber bytes = ⊥

more_fault : (count b : ℕ) (bytes : List ℕ) (e : WireError) → 128 ≤ b → HasGroupsFault count e bytes → HasGroupsFault (suc count) e (b ∷ bytes)
more_fault count b bytes Truncated le h = let few = h.0 in (omega arith, (le, h.1))
more_fault count b bytes VarintTooLong le (front, c, len, big, s) = (b ∷ front, c, omega arith, big, one_before b c front bytes le s)
more_fault count b bytes NotMinimal le h = absurd h
more_fault count b bytes BadWireType le h = absurd h
more_fault count b bytes BadNumber le h = absurd h

groups_faulty : (count : ℕ) (bytes : List ℕ) (e : WireError) → groups_by false count bytes ≡ Err e → HasGroupsFault count e bytes
unfolding groups_by
groups_faulty zero [] e h = subst (λ (d : WireError). HasGroupsFault zero d []) (err_is {A = ℕ × List ℕ} Truncated e h) (omega arith, tt)
groups_faulty (suc count) [] e h = subst (λ (d : WireError). HasGroupsFault (suc count) d []) (err_is {A = ℕ × List ℕ} Truncated e h) (omega arith, tt)
groups_faulty zero (b ∷ bytes) e h =
    elim (chosen (ltb 1 b) (Err VarintTooLong) (Ok (b, bytes)) (Err e) h) [
      | inl g ↦
          let here : HasGroupsFault zero VarintTooLong (b ∷ bytes) = ([], b, refl, ltb-true 1 b g.0, none_before b bytes) in
          subst (λ (d : WireError). HasGroupsFault zero d (b ∷ bytes)) (err_is {A = ℕ × List ℕ} VarintTooLong e g.1) here
      | inr g ↦ let no = g.1 in absurd cc
    ]
groups_faulty (suc count) (b ∷ bytes) e h =
    elim (chosen (ltb b 128) (Ok (b, bytes)) (groups_by false count bytes >>= λ high. Ok (b - 128 + 128 * high.0, high.1)) (Err e) h) [
      | inl g ↦ let no = g.1 in absurd cc
      | inr g ↦ more_fault count b bytes e (ltb-false b 128 g.0) (groups_faulty count bytes e (bind_err (groups_by false count bytes) (λ high. (b - 128 + 128 * high.0, high.1)) e g.1))
    ]

whole_fault : (b : ℕ) (bytes : List ℕ) (e : WireError) → 128 ≤ b → HasGroupsFault 8 e bytes → HasAnyVarintFault e (b ∷ bytes)
whole_fault b bytes Truncated le h = let few = h.0 in ((omega arith, (le, h.1)), λ is. cc)
whole_fault b bytes VarintTooLong le (front, c, len, big, s) = ((b ∷ front, c, omega arith, big, one_before b c front bytes le s), λ is. cc)
whole_fault b bytes NotMinimal le h = absurd h
whole_fault b bytes BadWireType le h = absurd h
whole_fault b bytes BadNumber le h = absurd h

pub varint_faulty : (bytes : List ℕ) (e : WireError) → varint_by false bytes ≡ Err e → HasAnyVarintFault e bytes
unfolding varint_by
varint_faulty [] e h = subst (λ (d : WireError). HasAnyVarintFault d []) (err_is {A = ℕ × List ℕ} Truncated e h) ((omega arith, tt), λ is. cc)
varint_faulty (b ∷ bytes) e h =
    elim (chosen (ltb b 128) (Ok (b, bytes)) (groups_by false 8 bytes >>= λ high. Ok (b - 128 + 128 * high.0, high.1)) (Err e) h) [
      | inl g ↦ let no = g.1 in absurd cc
      | inr g ↦ whole_fault b bytes e (ltb-false b 128 g.0) (groups_faulty 8 bytes e (bind_err (groups_by false 8 bytes) (λ high. (b - 128 + 128 * high.0, high.1)) e g.1))
    ]
