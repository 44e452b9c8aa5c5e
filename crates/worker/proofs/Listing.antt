-- Whether a command lists outputs, as they are gone through.
use Rattle.std.proofs.Common.{◌≡◌, ℕ, ◌+◌, ◌<◌, List, length, drop, get_or, subst}
use Rattle.std.specs.Prelude.{◌↔◌, Contains}
use Rattle.std.specs.List.{AllByRecursion}
use Rattle.actions.specs.declared.outcome.Output.{Output}
use Rattle.actions.specs.Outcome.{outputs_in, paths_of_outputs}
use Rattle.action_messages.specs.Command.{CommandValue}
use Rattle.std.proofs.Common.{suc, ◌∷◌, ap, sym, add-one, drop-cons}

split_at : {X : Type 0} (xs : List X) (i : ℕ) (x : X) → i < length xs → x ≡ get_or xs i x → drop i xs ≡ x ∷ drop (i + 1) xs
split_at xs i x lt is = rw (add-one, drop-cons xs i x lt) (ap (λ k. k ∷ drop (suc i) xs) (sym is))

module _ {A : Type 0} where
  -- the command lists the paths of these outputs
  abbrev pub AreAllListed : CommandValue → List (List (List ℕ) × Output A) → Type 0
  AreAllListed c xs = AllByRecursion (Contains c.output_paths) (paths_of_outputs (outputs_in xs))

  -- it lists all where it lists the rest
  abbrev pub AreListedWith : CommandValue → List (List (List ℕ) × Output A) → List (List (List ℕ) × Output A) → Type 0
  AreListedWith c xs rest = AreAllListed c rest ↔ AreAllListed c xs

  pub listed_next : (c : CommandValue) (xs : List (List (List ℕ) × Output A)) (i : ℕ) (x : List (List ℕ) × Output A) → i < length xs → x ≡ get_or xs i x → Contains c.output_paths x.0 → AreListedWith c xs (drop i xs) → AreListedWith c xs (drop (i + 1) xs)
  listed_next c xs i x lt is inside goes =
      let here = subst (AreListedWith c xs) (split_at xs i x lt is) goes in
      (λ h. here.0 (inside, h), λ h. (here.1 h).1)

  pub listed_not : (c : CommandValue) (xs : List (List (List ℕ) × Output A)) (i : ℕ) (x : List (List ℕ) × Output A) → i < length xs → x ≡ get_or xs i x → (Contains c.output_paths x.0 → ⊥) → AreListedWith c xs (drop i xs) → AreAllListed c xs → ⊥
  listed_not c xs i x lt is none goes all =
      let here = subst (AreListedWith c xs) (split_at xs i x lt is) goes in
      none (here.1 all).0
