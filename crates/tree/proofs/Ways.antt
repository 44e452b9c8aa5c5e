-- What a look-up, unfolding and a comparison look at, while a source tells more and more.
use Rattle.std.proofs.Common.{◌≡◌, ℕ, zero, suc, ◌+◌, ◌-◌, ◌<◌, List, [], ◌∷◌, length, drop, get_or, subst, sym, ◌∙◌, refl, ap, arith, inl, inr, add-one, drop-cons}
use Rattle.std.specs.Prelude.{Option, Some, None, option_map}
use Rattle.blob_digest.specs.Digest.{DigestValue}
use Rattle.messages.specs.declared.node.Node.{Node}
use Rattle.messages.specs.declared.node.Node.TheVariants.{File, Link, Dir}
use Rattle.messages.specs.DirectoryRules.{DirectoryValue}
use Rattle.messages.specs.Node.{child}
use Rattle.tree.specs.Tree.{Name}
use Rattle.tree.specs.Form.{NodeValue, node_value}
use Rattle.blob_source.specs.Source.{Blobs, Telling, Grows}
use Rattle.blob_source.specs.Told.{TellsDirectory, FailsDirectory}
use Rattle.tree.specs.Difference.{ReadsDirectory, child_of}
use Rattle.tree.specs.declared.difference.Unlike.TheVariants.{Directories}
use Rattle.tree.specs.Comparing.{IsUnlike}
use Rattle.tree.specs.Memo.{Asked, AsksNoOther, Known, LooksAtBlob, Learns}
use Rattle.tree.specs.LooksAt.{OnWayFrom, OnWay, UnfoldLooksAt, LooksAtOther, ComparesBoth, Compares}
use Rattle.tree.specs.Lookup.{LooksFrom, found}
use Rattle.tree.proofs.Children.{child_value}
use Rattle.tree.proofs.Descent.{told_still}
use Rattle.tree.proofs.FirstFaults.{looks_below}
use Rattle.tree.proofs.Learning.{learns_then, learns_more}
use Rattle.tree.proofs.Leaving.{others_then}
use Rattle.tree.proofs.DifferenceSteps.{ReadsBoth, reads_still}

-- ---- look-ups

way_still_from : {B C : Blobs} (a : Asked) (p : List Name) (o : Option NodeValue) → Grows B C → OnWayFrom B p o a → OnWayFrom C p o a
way_still_from a p None g h = h
way_still_from a [] (Some x) g h = h
way_still_from a (n ∷ p) (Some (File d e)) g h = h
way_still_from a (n ∷ p) (Some (Link t)) g h = h
way_still_from a (n ∷ p) (Some (Dir d)) g (inl h) = inl h
way_still_from a (n ∷ p) (Some (Dir d)) g (inr h) = inr (h.0, told_still g h.1, way_still_from a p (child n h.0) g h.2)

pub way_still : (B C : Blobs) (d : DigestValue) (p : List Name) (a : Asked) → Grows B C → OnWay B d p a → OnWay C d p a
way_still B C d p a g h = way_still_from a p (Some (Dir d)) g h

-- whatever is told later, what the rest of the way looks at is on the way of the whole path
pub record WayGoesOn (B : Blobs) (d : DigestValue) (p : List Name) (o : Option NodeValue) (rest : List Name) : Type 0 where
  pub looks : (later : Blobs) → Grows B later → (a : Asked) → OnWayFrom later rest o a → OnWay later d p a

pub way_dir : {A : Type 0} (B : Blobs) (d e : DigestValue) (p rest : List Name) (x : Node A) → x ≡ Dir e → WayGoesOn B d p (Some (node_value x)) rest → WayGoesOn B d p (Some (Dir e)) rest
way_dir B d e p rest x is goes = subst (λ y. WayGoesOn B d p (Some (node_value y)) rest) is goes

module _ (B C : Blobs) (d e : DigestValue) (p : List Name) (i : ℕ) (lt : i < length p) (goes : WayGoesOn B d p (Some (Dir e)) (drop i p)) (grows : Grows B C) where
  -- the directory at which the way goes on
  pub way_here : (a : Asked) → LooksAtBlob e a → OnWay C d p a
  way_here a h =
      let split : drop i p ≡ get_or p i [] ∷ drop (suc i) p = drop-cons p i [] lt in
      goes.looks C grows a (rw split (inl h))

  way_at : (x : Name) (m : DirectoryValue) (o : Option NodeValue) → TellsDirectory C e m → o ≡ child (get_or p i x) m → WayGoesOn C d p o (drop (i + 1) p)
  way_at x m o told is =
      let split : drop i p ≡ get_or p i x ∷ drop (i + 1) p = rw (add-one, drop-cons p i x lt) in
      record {
        looks = λ later g a h. goes.looks later (λ f b q. g f b (grows f b q)) a
            (subst (λ q. OnWayFrom later q (Some (Dir e)) a) (sym split) (inr (m, told_still g told, subst (λ y. OnWayFrom later (drop (i + 1) p) y a) is h)));
      }

  -- the child that was found, or none
  pub way_child : {A : Type 0} (x : Name) (m : DirectoryValue) (o : Option (Node A)) → TellsDirectory C e m → x ≡ get_or p i x → o ≡ child x m → WayGoesOn C d p (option_map node_value o) (drop (i + 1) p)
  way_child {A} x m o told is child_is = way_at x m (option_map node_value o) told (ap (option_map node_value) child_is ∙ child_value A x m ∙ ap (λ n. child n m) is)

-- a fetch of the directory at which the way goes on
pub others_on_way : {A : Type 0} {old mid new : Telling} (d e : DigestValue) (p : List Name) (i : ℕ) (x : Node A) → i < length p → x ≡ Dir e → WayGoesOn mid.blobs d p (Some (node_value x)) (drop i p)
    → AsksNoOther (OnWay mid.blobs d p) old mid → Grows mid.blobs new.blobs → AsksNoOther (LooksAtBlob e) mid new → AsksNoOther (OnWay new.blobs d p) old new
others_on_way {mid = mid} {new = new} d e p i x lt is way only grows then =
    let here = way_dir mid.blobs d e p (drop i p) x is way in
    others_then (λ a. way_still mid.blobs new.blobs d p a grows) (way_here mid.blobs new.blobs d e p i lt here grows) only then

-- ---- unfolding

-- a node that was found is found still
pub found_still : {B C : Blobs} → Grows B C → (p : List Name) (o : Option NodeValue) (x : NodeValue) → LooksFrom (TellsDirectory B) (FailsDirectory B) p o (found x) → LooksFrom (TellsDirectory C) (FailsDirectory C) p o (found x)
found_still grows p None x h = h
found_still grows [] (Some y) x h = h
found_still grows (n ∷ p) (Some (File d e)) x h = h
found_still grows (n ∷ p) (Some (Link t)) x h = h
found_still grows (n ∷ p) (Some (Dir d)) x (inl h) = inl (h.0, told_still grows h.1, found_still grows p (child n h.0) x h.2)
found_still grows (n ∷ p) (Some (Dir d)) x (inr h) = absurd (let is = h.2 in cc)

pub unfold_still : {B C : Blobs} (d : DigestValue) (a : Asked) → Grows B C → UnfoldLooksAt B d a → UnfoldLooksAt C d a
unfold_still d a grows h = (h.0, h.1, found_still grows h.0 (Some (Dir d)) (Dir h.1) h.2, h.3)

-- the root, and what is below a child
pub unfold_here : {B : Blobs} (d : DigestValue) (a : Asked) → LooksAtBlob d a → UnfoldLooksAt B d a
unfold_here d a h = ([], d, refl, h)

pub unfold_child : (B : Blobs) (d e : DigestValue) (m : DirectoryValue) (n : Name) (a : Asked) → TellsDirectory B d m → child {A = Unit {0}} n m ≡ Some (Dir e) → UnfoldLooksAt B e a → UnfoldLooksAt B d a
unfold_child B d e m n a told is h = (n ∷ h.0, h.1, looks_below B d e m n h.0 (found (Dir h.1)) told is h.2, h.3)

-- ---- comparisons

module _ (own : List (List ℕ)) {B C : Blobs} (grows : Grows B C) (a : Asked) where
  both_still : (o p : Option NodeValue) (Next Later : DigestValue → DigestValue → Type 0) → ((x y : DigestValue) → Next x y → Later x y) → ComparesBoth o p Next → ComparesBoth o p Later
  both_still None p Next Later by h = h
  both_still (Some (File d e)) p Next Later by h = h
  both_still (Some (Link t)) p Next Later by h = h
  both_still (Some (Dir g)) None Next Later by h = h
  both_still (Some (Dir g)) (Some (File d e)) Next Later by h = h
  both_still (Some (Dir g)) (Some (Link t)) Next Later by h = h
  both_still (Some (Dir g)) (Some (Dir r)) Next Later by h = by g r h

  pub compares_still : (deeper : ℕ) (g r : DigestValue) → Compares own B deeper g r a → Compares own C deeper g r a
  compares_still zero g r h = h
  compares_still (suc deeper) g r (inl h) = inl h
  compares_still (suc deeper) g r (inr (m, read, inl k)) = inr (m, reads_still own r m grows read, inl k)
  compares_still (suc deeper) g r (inr (m, read, inr (k, here, n, first, both))) =
      inr (
        m,
        reads_still own r m grows read,
        inr (
          k,
          reads_still own g k grows here,
          n,
          first,
          both_still (child_of n k) (child_of n m) (λ x y. Compares own B deeper x y a) (λ x y. Compares own C deeper x y a) (λ x y. compares_still deeper x y) both,
        ),
      )

module _ (own : List (List ℕ)) (B : Blobs) (g r : DigestValue) (deeper : ℕ) (some : 0 < deeper) (a : Asked) where
  less : deeper ≡ suc (deeper - 1)
  less = omega (arith, some)

  -- the recorded Directory is looked at
  pub compares_recorded : LooksAtOther own r a → Compares own B deeper g r a
  compares_recorded h = subst (λ j. Compares own B j g r a) (sym less) (inl h)

  -- and then the graft's
  pub compares_grafted : (m : DirectoryValue) → ReadsDirectory own B r m → LooksAtOther own g a → Compares own B deeper g r a
  compares_grafted m read h = subst (λ j. Compares own B j g r a) (sym less) (inr (m, read, inl h))

  at_both : (o p : Option NodeValue) (d e : DigestValue) (Next : DigestValue → DigestValue → Type 0) → o ≡ Some (Dir d) → p ≡ Some (Dir e) → Next d e → ComparesBoth o p Next
  at_both o p d e Next h k next = subst (λ q. ComparesBoth q p Next) (sym h) (subst (λ q. ComparesBoth (Some (Dir d)) q Next) (sym k) next)

  -- and then what is below them
  pub compares_below : (n : Name) (k m : DirectoryValue) (d e : DigestValue) → ReadsBoth own B g r n k m → IsUnlike (child_of n k) (child_of n m) (Directories d e)
      → Compares own B (deeper - 1) d e a → Compares own B deeper g r a
  compares_below n k m d e h at below =
      subst (λ j. Compares own B j g r a) (sym less)
      (inr (m, h.recorded, inr (k, h.grafted, n, h.first, at_both (child_of n k) (child_of n m) d e (λ x y. Compares own B (deeper - 1) x y a) at.0 at.1 below)))

-- two Directories that were read
pub learns_both : {rejected refused : Type 0} {k0 k1 k2 : Known} {t0 t1 t2 : Telling} (own : List (List ℕ)) (g r : DigestValue) (deeper : ℕ) (m : DirectoryValue) → 0 < deeper → ReadsDirectory own t2.blobs r m
    → (rejected → ⊥) → Learns (LooksAtOther own r) rejected k0 k1 t0 t1 → Learns (LooksAtOther own g) refused k1 k2 t1 t2 → Learns (Compares own t2.blobs deeper g r) refused k0 k2 t0 t2
learns_both {t2 = t2} own g r deeper m some read passed h k =
    learns_then (λ a. compares_recorded own t2.blobs g r deeper some a) (λ a. compares_grafted own t2.blobs g r deeper some a m read) passed h k

-- the way of a path by another name
pub looked_way : {refused : Type 0} {k0 k1 : Known} {t0 t1 : Telling} (d : DigestValue) (p q : List Name) → p ≡ q → Learns (OnWay t1.blobs d p) refused k0 k1 t0 t1 → Learns (OnWay t1.blobs d q) refused k0 k1 t0 t1
looked_way {t1 = t1} d p q same h = learns_more (λ a at. subst (λ x. OnWay t1.blobs d x a) same at) (λ n. n) h
