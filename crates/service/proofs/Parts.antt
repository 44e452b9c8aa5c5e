-- Fronts and ends of bytes that are no longer than asked for.
use Rattle.std.proofs.Common.{◌≡◌, ℕ, ◌≤◌, List, [], length, take, drop, take_all, drop_of_length-le, sym}

pub whole_front : (n : ℕ) (xs : List ℕ) → length xs ≤ n → xs ≡ take n xs
whole_front n xs h = sym (take_all n xs h)

pub nothing_after : (n : ℕ) (xs : List ℕ) → length xs ≤ n → [] ≡ drop n xs
nothing_after n xs h = sym (drop_of_length-le xs h)
