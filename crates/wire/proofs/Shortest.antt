-- The groups of a number are the fewest that make it.
use Rattle.std.proofs.Common.{◌≡◌, ℕ, zero, suc, ◌+◌, ◌/◌, ◌%◌, ◌^◌, ◌<◌, ◌≤◌, List, [], ◌∷◌, length, arith, inl, inr}
use Rattle.std.proofs.lemmas.Bool.{lt-ltb, le-ltb, cases_lt}
use Rattle.wire.specs.Varint.{groups, varint, group_sum, AreGroups, IsShortest}
use Rattle.wire.proofs.Varints.{limit}

pub AreGroups-cons : (b : ℕ) (bytes : List ℕ) → 128 ≤ b → AreGroups bytes → AreGroups (b ∷ bytes)
AreGroups-cons b [] le are = absurd are
AreGroups-cons b (c ∷ bytes) le are = (le, are)

groups_form : (count n : ℕ) → n < limit count → AreGroups (groups count n)
unfolding groups
groups_form zero n lt = omega arith
groups_form (suc count) n lt =
    elim (cases_lt n 128) [
      | inl small ↦ let s = lt-ltb n 128 small in rw s small
      | inr large ↦ let l = le-ltb n 128 large in rw l (AreGroups-cons (n % 128 + 128) (groups count (n / 128)) (omega arith) (groups_form count (n / 128) (omega arith)))
    ]

groups_make : (count n : ℕ) → n < limit count → group_sum (groups count n) ≡ n
unfolding groups
groups_make zero n lt = omega arith
groups_make (suc count) n lt =
    elim (cases_lt n 128) [
      | inl small ↦ let s = lt-ltb n 128 small in rw s (omega arith)
      | inr large ↦ let l = le-ltb n 128 large in let rest = groups_make count (n / 128) (omega arith) in rw (l, rest) (omega arith)
    ]

groups_least : (count n : ℕ) (others : List ℕ) → AreGroups others → group_sum others ≡ n → length (groups count n) ≤ length others
unfolding groups
groups_least count n [] are sum = absurd are
groups_least zero n (b ∷ others) are sum = omega arith
groups_least (suc count) n (b ∷ []) are sum =
    let small : n < 128 = omega arith in
    let s = lt-ltb n 128 small in
    rw s (omega arith)
groups_least (suc count) n (b ∷ c ∷ others) are sum =
    elim (cases_lt n 128) [
      | inl small ↦ let s = lt-ltb n 128 small in rw s (omega arith)
      | inr large ↦
          let l = le-ltb n 128 large in
          let high : group_sum (c ∷ others) ≡ n / 128 = omega arith in
          let fewer = groups_least count (n / 128) (c ∷ others) are.1 high in
          rw l (omega (arith, fewer))
    ]

pub varint_shortest : (n : ℕ) → n < 2 ^ 64 → IsShortest n (varint n)
unfolding varint
varint_shortest n lt = record { form = groups_form 9 n lt; sum = groups_make 9 n lt; least = groups_least 9 n }
