-- What is found as the first difference is one.
use Rattle.std.proofs.Common.{◌≡◌, ◌≢◌, ℕ, zero, suc, List, [], ◌∷◌, ◌++◌, refl, ap, sym, ◌∙◌, subst, inl, inr, append_assoc}
use Rattle.std.specs.Prelude.{◌⊎◌, Option, Some, None}
use Rattle.std.specs.Ordering.{ordering_then}
use Rattle.std.specs.declared.cmp.Ordering.{Ordering}
use Rattle.std.specs.declared.cmp.Ordering.TheVariants.{Less, Equal, Greater}
use Rattle.blob_digest.specs.Digest.{DigestValue}
use Rattle.messages.specs.declared.node.Node.TheVariants.{File, Link, Dir}
use Rattle.messages.specs.DirectoryRules.{DirectoryValue}
use Rattle.messages.specs.Node.{child}
use Rattle.tree.specs.Tree.{Name, name_cmp, path_cmp}
use Rattle.tree.specs.Form.{NodeValue}
use Rattle.blob_source.specs.Source.{Blobs}
use Rattle.blob_source.specs.Told.{Fault}
use Rattle.tree.specs.Lookup.{Looked, fault, nothing, found, LooksFrom}
use Rattle.tree.specs.Difference.{ReadsDirectory, FailsToRead, Differing, unexplained, absent, differs, unread, child_of, IsFirstName, FindsAt, Finds, FindsFirst}
use Rattle.tree.specs.TrueDifference.{LooksBeside, AreAlike, StandFirst, StandUnread, IsTrueDifference}
use Rattle.tree.proofs.TreeLemmas.{name_same, never_less}
use Rattle.tree.proofs.DifferenceOnce.{reads_once, reads_or_fails, fails_once}

module _ (own : List (List ℕ)) (B : Blobs) where
  -- a look-up from a node
  abbrev LooksOn : List Name → Option NodeValue → Looked → Type 0
  LooksOn p o r = LooksFrom (ReadsDirectory own B) (FailsToRead own B) p o r

  looks_on_once : (p : List Name) (o : Option NodeValue) (r s : Looked) → LooksOn p o r → LooksOn p o s → r ≡ s
  looks_on_once p None r s h k = h ∙ sym k
  looks_on_once [] (Some x) r s h k = h ∙ sym k
  looks_on_once (n ∷ p) (Some (File d e)) r s h k = h ∙ sym k
  looks_on_once (n ∷ p) (Some (Link t)) r s h k = h ∙ sym k
  looks_on_once (n ∷ p) (Some (Dir d)) r s (inl h) (inl k) = looks_on_once p (child n h.0) r s h.2 (subst (λ m. LooksOn p (child n m) s) (reads_once own B d k.0 h.0 k.1 h.1) k.2)
  looks_on_once (n ∷ p) (Some (Dir d)) r s (inl h) (inr k) = absurd (reads_or_fails own B d h.0 k.0 h.1 k.1)
  looks_on_once (n ∷ p) (Some (Dir d)) r s (inr h) (inl k) = absurd (reads_or_fails own B d k.0 h.0 k.1 h.1)
  looks_on_once (n ∷ p) (Some (Dir d)) r s (inr h) (inr k) = h.2 ∙ ap fault (fails_once own B d h.0 k.0 h.1 k.1) ∙ sym k.2

  -- the look-up goes on from the child of the Directory that is read
  from_child : (d : DigestValue) (c : DirectoryValue) → ReadsDirectory own B d c → (a : Name) (q : List Name) (v : Looked) → LooksBeside own B d (a ∷ q) v → LooksOn q (child a c) v
  from_child d c read a q v (inl h) = subst (λ m. LooksOn q (child a m) v) (reads_once own B d h.0 c h.1 read) h.2
  from_child d c read a q v (inr h) = absurd (reads_or_fails own B d c h.0 read h.1)

  -- ---- at one directory of each

  module _ (g r : DigestValue) (c m : DirectoryValue) (grafted : ReadsDirectory own B g c) (recorded : ReadsDirectory own B r m) (n : Name) (first : IsFirstName c m n) where
    before_at : (p : List Name) → ((q : List Name) (v w : Looked) → path_cmp q p ≡ Less → LooksOn q (child n c) v → LooksOn q (child n m) w → AreAlike v w)
        → (q : List Name) (v w : Looked) → path_cmp q (n ∷ p) ≡ Less → LooksBeside own B g q v → LooksBeside own B r q w → AreAlike v w
    before_at p below [] v w less h k = inr (g, r, h, k)
    before_at p below (a ∷ q) v w less h k = by (name_cmp a n) refl
      where
        by : (o : Ordering) → name_cmp a n ≡ o → AreAlike v w
        by Less e = inl (looks_on_once q (child a m) v w (subst (λ o. LooksOn q o v) (first.same a e) (from_child g c grafted a q v h)) (from_child r m recorded a q w k))
        by Equal e =
            let same = name_same a n e in
            let rest : path_cmp q p ≡ Less = sym (ap (λ o. ordering_then o (path_cmp q p)) e) ∙ less in
            below q v w rest (subst (λ b. LooksOn q (child b c) v) same (from_child g c grafted a q v h)) (subst (λ b. LooksOn q (child b m) w) same (from_child r m recorded a q w k))
        by Greater e = absurd (let more : Greater ≡ Less = sym (ap (λ o. ordering_then o (path_cmp q p)) e) ∙ less in cc)

    pub stands_here : (x y : Looked) → LooksOn [] (child n c) x → LooksOn [] (child n m) y → StandFirst own B g r (n ∷ []) x y
    stands_here x y h k = record {
      grafted = inl (c, grafted, h);
      recorded = inl (m, recorded, k);
      before = before_at [] (λ q v w less i j. absurd (never_less q less));
    }

    pub stands_below : (a b : DigestValue) (p : List Name) (x y : Looked) → child_of n c ≡ Some (Dir a) → child_of n m ≡ Some (Dir b) → StandFirst own B a b p x y → StandFirst own B g r (n ∷ p) x y
    stands_below a b p x y e f h = record {
      grafted = inl (c, grafted, subst (λ o. LooksOn p o x) (sym e) h.grafted);
      recorded = inl (m, recorded, subst (λ o. LooksOn p o y) (sym f) h.recorded);
      before = before_at p (λ q v w less i j. h.before q v w less (subst (λ o. LooksOn q o v) e i) (subst (λ o. LooksOn q o w) f j));
    }

  unread_here : (g r : DigestValue) (f : Fault) → FailsToRead own B r f ⊎ ((m : DirectoryValue) × ReadsDirectory own B r m × FailsToRead own B g f) → StandUnread own B g r f
  unread_here g r f fails = record {
    path = [];
    grafted = g;
    recorded = r;
    first = record { grafted = refl; recorded = refl; before = λ q v w less i j. absurd (never_less q less) };
    fails = fails;
  }

  -- ---- below a path

  abbrev IsTrueBelow : List Name → DigestValue → DigestValue → Differing → Type 0
  IsTrueBelow above g r (unexplained path) = (p : List Name) × (path ≡ above ++ p) × (y : NodeValue) × StandFirst own B g r p nothing (found y)
  IsTrueBelow above g r (absent path) = (p : List Name) × (path ≡ above ++ p) × (x : NodeValue) × StandFirst own B g r p (found x) nothing
  IsTrueBelow above g r (differs path) = (p : List Name) × (path ≡ above ++ p) × (x y : NodeValue) × (x ≢ y) × StandFirst own B g r p (found x) (found y)
  IsTrueBelow above g r (unread f) = StandUnread own B g r f

  module _ (above : List Name) (g r : DigestValue) (c m : DirectoryValue) (grafted : ReadsDirectory own B g c) (recorded : ReadsDirectory own B r m) (n : Name) (first : IsFirstName c m n) where
    true_below : (a b : DigestValue) (x : Differing) → child_of n c ≡ Some (Dir a) → child_of n m ≡ Some (Dir b) → IsTrueBelow (above ++ n ∷ []) a b x → IsTrueBelow above g r x
    true_below a b (unexplained path) e f h = (n ∷ h.0, h.1 ∙ append_assoc above (n ∷ []) h.0, h.2, stands_below g r c m grafted recorded n first a b h.0 _ _ e f h.3)
    true_below a b (absent path) e f h = (n ∷ h.0, h.1 ∙ append_assoc above (n ∷ []) h.0, h.2, stands_below g r c m grafted recorded n first a b h.0 _ _ e f h.3)
    true_below a b (differs path) e f h = (n ∷ h.0, h.1 ∙ append_assoc above (n ∷ []) h.0, h.2, h.3, h.4, stands_below g r c m grafted recorded n first a b h.0 _ _ e f h.5)
    true_below a b (unread why) e f h = record {
      path = n ∷ h.path;
      grafted = h.grafted;
      recorded = h.recorded;
      first = stands_below g r c m grafted recorded n first a b h.path _ _ e f h.first;
      fails = h.fails;
    }

    only_recorded : (y : NodeValue) (x : Differing) → child_of n c ≡ None → child_of n m ≡ Some y → x ≡ unexplained (above ++ n ∷ []) → IsTrueBelow above g r x
    only_recorded y x e f is = subst (IsTrueBelow above g r) (sym is) (
      n ∷ [],
      refl,
      y,
      stands_here g r c m grafted recorded n first nothing (found y) (subst (λ o. LooksOn [] o nothing) (sym e) refl) (subst (λ o. LooksOn [] o (found y)) (sym f) refl),
    )

    only_grafted : (z : NodeValue) (x : Differing) → child_of n c ≡ Some z → child_of n m ≡ None → x ≡ absent (above ++ n ∷ []) → IsTrueBelow above g r x
    only_grafted z x e f is = subst (IsTrueBelow above g r) (sym is) (
      n ∷ [],
      refl,
      z,
      stands_here g r c m grafted recorded n first (found z) nothing (subst (λ o. LooksOn [] o (found z)) (sym e) refl) (subst (λ o. LooksOn [] o nothing) (sym f) refl),
    )

    others : (z y : NodeValue) (x : Differing) → child_of n c ≡ Some z → child_of n m ≡ Some y → x ≡ differs (above ++ n ∷ []) → IsTrueBelow above g r x
    others z y x e f is = subst (IsTrueBelow above g r) (sym is) (
      n ∷ [],
      refl,
      z,
      y,
      (λ same. first.other (e ∙ ap Some same ∙ sym f)),
      stands_here g r c m grafted recorded n first (found z) (found y) (subst (λ o. LooksOn [] o (found z)) (sym e) refl) (subst (λ o. LooksOn [] o (found y)) (sym f) refl),
    )

    true_at : (deeper : ℕ) (x : Differing) → ((a b : DigestValue) → Finds own B deeper (above ++ n ∷ []) a b x → IsTrueBelow (above ++ n ∷ []) a b x)
        → (o p : Option NodeValue) → child_of n c ≡ o → child_of n m ≡ p → FindsAt deeper (above ++ n ∷ []) o p (λ a b. Finds own B deeper (above ++ n ∷ []) a b x) x → IsTrueBelow above g r x
    true_at zero x next None None e f h = elim h [ ]
    true_at zero x next None (Some y) e f h = only_recorded y x e f h
    true_at zero x next (Some z) None e f h = only_grafted z x e f h
    true_at zero x next (Some z) (Some y) e f h = others z y x e f h
    true_at (suc deeper) x next None None e f h = elim h [ ]
    true_at (suc deeper) x next None (Some y) e f h = only_recorded y x e f h
    true_at (suc deeper) x next (Some z) None e f h = only_grafted z x e f h
    true_at (suc deeper) x next (Some (File d b)) (Some y) e f h = others (File d b) y x e f h
    true_at (suc deeper) x next (Some (Link t)) (Some y) e f h = others (Link t) y x e f h
    true_at (suc deeper) x next (Some (Dir a)) (Some (File d b)) e f h = others (Dir a) (File d b) x e f h
    true_at (suc deeper) x next (Some (Dir a)) (Some (Link t)) e f h = others (Dir a) (Link t) x e f h
    true_at (suc deeper) x next (Some (Dir a)) (Some (Dir b)) e f h = true_below a b x e f (next a b h)

  finds_true : (deeper : ℕ) (above : List Name) (g r : DigestValue) (x : Differing) → Finds own B deeper above g r x → IsTrueBelow above g r x
  finds_true zero above g r x h = elim h [ ]
  finds_true (suc deeper) above g r x (inl h) = subst (IsTrueBelow above g r) (sym h.2) (unread_here g r h.0 (inl h.1))
  finds_true (suc deeper) above g r x (inr (m, recorded, inl h)) = subst (IsTrueBelow above g r) (sym h.2) (unread_here g r h.0 (inr (m, recorded, h.1)))
  finds_true (suc deeper) above g r x (inr (m, recorded, inr (c, grafted, n, first, h))) =
      true_at above g r c m grafted recorded n first deeper x (λ a b k. finds_true deeper (above ++ n ∷ []) a b x k) (child_of n c) (child_of n m) refl refl h

  whole : (g r : DigestValue) (x : Differing) → IsTrueBelow [] g r x → IsTrueDifference own B g r x
  whole g r (unexplained path) h = (h.2, subst (λ p. StandFirst own B g r p nothing (found h.2)) (sym h.1) h.3)
  whole g r (absent path) h = (h.2, subst (λ p. StandFirst own B g r p (found h.2) nothing) (sym h.1) h.3)
  whole g r (differs path) h = (h.2, h.3, h.4, subst (λ p. StandFirst own B g r p (found h.2) (found h.3)) (sym h.1) h.5)
  whole g r (unread f) h = h

  pub finds_first_true : (g r : DigestValue) (x : Differing) → FindsFirst own B g r x → IsTrueDifference own B g r x
  finds_first_true g r x h = whole g r x (finds_true 64 [] g r x h)
