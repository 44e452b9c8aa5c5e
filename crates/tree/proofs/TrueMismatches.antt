-- What is found as the first mismatch is one.
use Rattle.std.proofs.Common.{◌≡◌, ◌≢◌, ℕ, zero, suc, List, [], ◌∷◌, ◌++◌, refl, ap, sym, ◌∙◌, subst, inl, inr, append_assoc}
use Rattle.std.specs.Prelude.{Option, Some, None}
use Rattle.blob_digest.specs.Digest.{DigestValue}
use Rattle.messages.specs.declared.node.Node.TheVariants.{File, Link, Dir}
use Rattle.messages.specs.DirectoryRules.{DirectoryValue}
use Rattle.blob_source.specs.Source.{Blobs}
use Rattle.tree.specs.Difference.{IsFirstName, ReadsDirectory, child_of}
use Rattle.tree.specs.Form.{NodeValue}
use Rattle.tree.specs.Mismatch.{FirstMismatch, IsKnownAs, IsMismatchAt, IsTrueMismatch, MismatchValue, what_is}
use Rattle.tree.specs.Tree.{Name}
use Rattle.tree.specs.TrueDifference.{StandFirst}
use Rattle.tree.proofs.Mismatches.{mismatch_of}
use Rattle.tree.proofs.TrueDifferences.{stands_here, stands_below}

abbrev untold : Blobs
untold d = None

module _ (known : List (List ℕ)) where
  -- below a path
  record IsTrueBelow (above : List Name) (g r : DigestValue) (x : MismatchValue) : Type 0 where
    path : List Name
    is : x.path ≡ above ++ path
    other : x.here ≢ x.there
    first : StandFirst known untold g r path (what_is x.here) (what_is x.there)

  module _ (above : List Name) (g r : DigestValue) (k m : DirectoryValue) (here : IsKnownAs known g k) (there : IsKnownAs known r m) (n : Name) (first : IsFirstName k m n) where
    true_here : (x y : Option NodeValue) → child_of n k ≡ x → child_of n m ≡ y → IsTrueBelow above g r (mismatch_of (above ++ n ∷ []) x y)
    true_here None None e f = absurd (first.other (e ∙ sym f))
    true_here None (Some y) e f = record {
      path = n ∷ [];
      is = refl;
      other = λ same. first.other (e ∙ same ∙ sym f);
      first = stands_here known untold g r k m (inl here) (inl there) n first _ _ (rw e refl) (rw f refl);
    }
    true_here (Some x) None e f = record {
      path = n ∷ [];
      is = refl;
      other = λ same. first.other (e ∙ same ∙ sym f);
      first = stands_here known untold g r k m (inl here) (inl there) n first _ _ (rw e refl) (rw f refl);
    }
    true_here (Some x) (Some y) e f = record {
      path = n ∷ [];
      is = refl;
      other = λ same. first.other (e ∙ same ∙ sym f);
      first = stands_here known untold g r k m (inl here) (inl there) n first _ _ (rw e refl) (rw f refl);
    }

    true_below : (a b : DigestValue) (x : MismatchValue) → child_of n k ≡ Some (Dir a) → child_of n m ≡ Some (Dir b) → IsTrueBelow (above ++ n ∷ []) a b x → IsTrueBelow above g r x
    true_below a b x e f h = record {
      path = n ∷ h.path;
      is = h.is ∙ append_assoc above (n ∷ []) h.path;
      other = h.other;
      first = stands_below known untold g r k m (inl here) (inl there) n first a b h.path _ _ e f h.first;
    }

    stands : (x y : Option NodeValue) (u : MismatchValue) → child_of n k ≡ x → child_of n m ≡ y → u ≡ mismatch_of (above ++ n ∷ []) x y → IsTrueBelow above g r u
    stands x y u e f is = subst (IsTrueBelow above g r) (sym is) (true_here x y e f)

    module _ (Next : DigestValue → DigestValue → Option MismatchValue → Type 0) (u : MismatchValue) (next : (a b : DigestValue) → Next a b (Some u) → IsTrueBelow (above ++ n ∷ []) a b u) where
      true_at : (x y : Option NodeValue) → child_of n k ≡ x → child_of n m ≡ y → IsMismatchAt (above ++ n ∷ []) x y Next u → IsTrueBelow above g r u
      true_at None y e f h = stands None y u e f h
      true_at (Some (File d b)) y e f h = stands (Some (File d b)) y u e f h
      true_at (Some (Link t)) y e f h = stands (Some (Link t)) y u e f h
      true_at (Some (Dir a)) None e f h = stands (Some (Dir a)) None u e f h
      true_at (Some (Dir a)) (Some (File d b)) e f h = stands (Some (Dir a)) (Some (File d b)) u e f h
      true_at (Some (Dir a)) (Some (Link t)) e f h = stands (Some (Dir a)) (Some (Link t)) u e f h
      true_at (Some (Dir a)) (Some (Dir b)) e f (inl h) = true_below a b u e f (next a b h)
      true_at (Some (Dir a)) (Some (Dir b)) e f (inr h) = stands (Some (Dir a)) (Some (Dir b)) u e f h.1

  true_in : (deeper : ℕ) (above : List Name) (g r : DigestValue) (u : MismatchValue) → FirstMismatch known deeper above g r (Some u) → IsTrueBelow above g r u
  true_in zero above g r u h = absurd (let no : Some u ≡ None = h in cc)
  true_in (suc deeper) above g r u (k, m, here, there, n, first, h) =
      true_at above g r k m here there n first (λ x y next. FirstMismatch known deeper (above ++ n ∷ []) x y next) u (λ a b next. true_in deeper (above ++ n ∷ []) a b u next) (child_of n k) (child_of n m) refl refl h

  pub first_true : (g r : DigestValue) (u : MismatchValue) → FirstMismatch known 64 [] g r (Some u) → IsTrueMismatch known g r u
  first_true g r u h =
      let found = true_in 64 [] g r u h in
      record { other = found.other; first = subst (λ p. StandFirst known untold g r p (what_is u.here) (what_is u.there)) (sym found.is) found.first }
