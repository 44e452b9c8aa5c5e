-- The first mismatch of two directories, from the first name under which their Directories differ.
use Rattle.std.proofs.Common.{◌≡◌, ◌≢◌, ◌<◌, ◌-◌, ℕ, zero, suc, List, [], ◌∷◌, ◌++◌, refl, ap, sym, ◌∙◌, subst, inl, inr, arith}
use Rattle.std.specs.Prelude.{Option, Some, None}
use Rattle.blob_digest.specs.Digest.{DigestValue}
use Rattle.messages.specs.declared.node.Node.TheVariants.{File, Link, Dir}
use Rattle.messages.specs.DirectoryRules.{DirectoryValue}
use Rattle.tree.specs.Difference.{IsFirstName, child_of}
use Rattle.tree.specs.Form.{NodeValue}
use Rattle.tree.specs.Mismatch.{AreNoDirectories, FirstMismatch, IsKnownAs, IsMismatchAt, MismatchValue}
use Rattle.tree.specs.Tree.{Name}

abbrev pub mismatch_of : List Name → Option NodeValue → Option NodeValue → MismatchValue
mismatch_of path here there = record { path = path; here = here; there = there }

-- directories that aren't one have different digests
pub unlike_digests : {x y : Option NodeValue} {d e : DigestValue} → x ≡ Some (Dir d) → y ≡ Some (Dir e) → x ≢ y → d ≢ e
unlike_digests h k other same = other (h ∙ ap (λ d. Some (Dir d)) same ∙ sym k)

module _ (path : List Name) (Next : DigestValue → DigestValue → Option MismatchValue → Type 0) where
  -- what isn't two directories differs as such
  pub at_others : (here there : Option NodeValue) → AreNoDirectories here there → IsMismatchAt path here there Next (mismatch_of path here there)
  at_others None there h = refl
  at_others (Some (File d b)) there h = refl
  at_others (Some (Link t)) there h = refl
  at_others (Some (Dir d)) None h = refl
  at_others (Some (Dir d)) (Some (File e b)) h = refl
  at_others (Some (Dir d)) (Some (Link t)) h = refl
  at_others (Some (Dir d)) (Some (Dir e)) h = absurd (h d e refl refl)

  pub at_below : (here there : Option NodeValue) (d e : DigestValue) (found : MismatchValue) → here ≡ Some (Dir d) → there ≡ Some (Dir e) → Next d e (Some found) → IsMismatchAt path here there Next found
  at_below here there d e found h k next = subst (λ o. IsMismatchAt path o there Next found) (sym h) (subst (λ o. IsMismatchAt path (Some (Dir d)) o Next found) (sym k) (inl next))

  pub at_two : (here there : Option NodeValue) (d e : DigestValue) → here ≡ Some (Dir d) → there ≡ Some (Dir e) → Next d e None → IsMismatchAt path here there Next (mismatch_of path here there)
  at_two here there d e h k next = subst (λ o. IsMismatchAt path o there Next (mismatch_of path o there)) (sym h) (subst (λ o. IsMismatchAt path (Some (Dir d)) o Next (mismatch_of path (Some (Dir d)) o)) (sym k) (inr (next, refl)))

module _ (known : List (List ℕ)) (path : List Name) (g r : DigestValue) where
  pub none_deeper : (deeper : ℕ) → deeper ≡ 0 → FirstMismatch known deeper path g r None
  none_deeper deeper is = subst (λ j. FirstMismatch known j path g r None) (sym is) refl

  pub none_known : (deeper : ℕ) → deeper ≢ 0 → ((k m : DirectoryValue) → IsKnownAs known g k → IsKnownAs known r m → ⊥) → FirstMismatch known deeper path g r None
  none_known zero some h = absurd (some refl)
  none_known (suc deeper) some h = h

  less_one : (deeper : ℕ) → deeper ≢ 0 → deeper ≡ suc (deeper - 1)
  less_one deeper some = omega (arith, some)

  pub mismatch_at : (deeper : ℕ) (k m : DirectoryValue) (n : Name) (found : MismatchValue) → deeper ≢ 0 → IsKnownAs known g k → IsKnownAs known r m → IsFirstName k m n
      → IsMismatchAt (path ++ n ∷ []) (child_of n k) (child_of n m) (λ x y next. FirstMismatch known (deeper - 1) (path ++ n ∷ []) x y next) found → FirstMismatch known deeper path g r (Some found)
  mismatch_at deeper k m n found some here there first at = subst (λ j. FirstMismatch known j path g r (Some found)) (sym (less_one deeper some)) (k, m, here, there, n, first, at)

  -- what is found at the first name is the mismatch, by the nodes that the code has there
  pub found_at : (deeper : ℕ) (k m : DirectoryValue) (n : Name) (below : List Name) (here there : Option NodeValue) (found : MismatchValue) → deeper ≢ 0 → IsKnownAs known g k → IsKnownAs known r m → IsFirstName k m n
      → below ≡ path ++ n ∷ [] → here ≡ child_of n k → there ≡ child_of n m → IsMismatchAt below here there (λ x y next. FirstMismatch known (deeper - 1) below x y next) found → FirstMismatch known deeper path g r (Some found)
  found_at deeper k m n below here there found some known_here known_there first is h i at =
      let Next = λ (p : List Name) (x y : DigestValue) (next : Option MismatchValue). FirstMismatch known (deeper - 1) p x y next in
      mismatch_at deeper k m n found some known_here known_there first
      (subst (λ p. IsMismatchAt p (child_of n k) (child_of n m) (Next p) found) is
      (subst (λ o. IsMismatchAt below o (child_of n m) (Next below) found) h (subst (λ o. IsMismatchAt below here o (Next below) found) i at)))
