-- A graft of lines in the order of their targets goes name by name.
use Rattle.std.proofs.Common.{◌≡◌, suc, ◌≤◌, List, [], ◌∷◌, refl, ap, arith, Bool, true, false, cond, length}
use Rattle.std.specs.Prelude.{nat_eq}
use Rattle.std.specs.Cmp.Lexicographic.{pointwise, bytes_decides}
use Rattle.tree.specs.Tree.{Name}
use Rattle.tree.specs.Visiting.{first_under, led}

module _ {X : Type 0} where
  -- ---- the lines of one first name

  pub led_step : (n : Name) (p : List Name) (x : X) (rest : List (List Name × X)) → first_under n (n ∷ p) x rest ≡ (p, x) ∷ rest
  led_step n p x rest = ap (λ b. cond b ((p, x) ∷ rest) []) ((bytes_decides n n).1 refl)

  -- ---- fewer names are left

  pub length_led : (n : Name) (ls : List (List Name × X)) → length (led n ls) ≤ length ls
  length_led n [] = omega arith
  length_led n (l ∷ ls) = at l.0 (length_led n ls)
    where
      at : (p : List Name) → length (led n ls) ≤ length ls → length (first_under n p l.1 (led n ls)) ≤ suc (length ls)
      at [] ih = omega arith
      at (m ∷ q) ih = by (pointwise nat_eq m n)
        where
          by : (b : Bool) → length (cond b ((q, l.1) ∷ led n ls) []) ≤ suc (length ls)
          by true = omega (arith, ih)
          by false = omega arith
