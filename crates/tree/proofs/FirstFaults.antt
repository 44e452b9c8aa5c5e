-- What comes before the first fault of a tree that is unfolded.
use Rattle.std.proofs.Common.{◌≡◌, List, [], ◌∷◌, ◌++◌, refl, sym, subst, append_assoc, inl, inr}
use Rattle.std.specs.Prelude.{Option, Some, None}
use Rattle.blob_digest.specs.Digest.{DigestValue}
use Rattle.messages.specs.declared.node.Node.TheVariants.{File, Link, Dir}
use Rattle.messages.specs.DirectoryRules.{DirectoryValue}
use Rattle.messages.specs.Node.{child}
use Rattle.tree.specs.Tree.{Name}
use Rattle.tree.specs.Form.{NodeValue}
use Rattle.blob_source.specs.Source.{Blobs, Grows}
use Rattle.blob_source.specs.Told.{TellsDirectory, FailsDirectory}
use Rattle.tree.specs.Lookup.{Looked, found, LooksFrom, Looks}
use Rattle.tree.specs.Unfolded.{IsFineAt}
use Rattle.tree.specs.Unfolding.{AreFine}
use Rattle.tree.proofs.Descent.{told_still}
use Rattle.tree.proofs.LookupOnce.{told_once}

pub same_found : {c d : DigestValue} → found (Dir c) ≡ found (Dir d) → d ≡ c
same_found e = cc

pub same_dir : {d e : DigestValue} → ◌≡◌ {A = NodeValue} (Dir d) (Dir e) → d ≡ e
same_dir e = cc

pub same_some : {x z : NodeValue} → ◌≡◌ {A = Option NodeValue} (Some x) (Some z) → x ≡ z
same_some e = cc

-- a look-up goes through the child
pub looks_below : (B : Blobs) (d e : DigestValue) (m : DirectoryValue) (n : Name) (q : List Name) (r : Looked) → TellsDirectory B d m → child {A = Unit {0}} n m ≡ Some (Dir e) → Looks B e q r → Looks B d (n ∷ q) r
looks_below B d e m n q r told is h = inl (m, told, subst (λ o. LooksFrom (TellsDirectory B) (FailsDirectory B) q o r) (sym is) h)

module _ (B : Blobs) (d : DigestValue) (m : DirectoryValue) (told : TellsDirectory B d m) where
  not_through : (q : List Name) (x : NodeValue) (c : DigestValue) → ((e : DigestValue) → x ≡ Dir e → ⊥) → LooksFrom (TellsDirectory B) (FailsDirectory B) q (Some x) (found (Dir c)) → ⊥
  not_through [] x c other h = other c (dir_of h)
    where
      dir_of : {x y : NodeValue} → found x ≡ found y → y ≡ x
      dir_of e = cc
  not_through (n ∷ q) (File f b) c other h = cc
  not_through (n ∷ q) (Link t) c other h = cc
  not_through (n ∷ q) (Dir e) c other h = other e refl

  -- where it finds a directory, the child is one
  pub through : (n : Name) (q : List Name) (c : DigestValue) → Looks B d (n ∷ q) (found (Dir c)) → (e : DigestValue) × (child {A = Unit {0}} n m ≡ Some (Dir e)) × Looks B e q (found (Dir c))
  through n q c (inr why) = absurd (let is = why.2 in cc)
  through n q c (inl h) = by (child n m) refl (subst (λ k. LooksFrom (TellsDirectory B) (FailsDirectory B) q (child n k) (found (Dir c))) (told_once B d h.0 m h.1 told) h.2)
    where
      by : (o : Option NodeValue) → child n m ≡ o → LooksFrom (TellsDirectory B) (FailsDirectory B) q o (found (Dir c)) → (e : DigestValue) × (child {A = Unit {0}} n m ≡ Some (Dir e)) × Looks B e q (found (Dir c))
      by None is l = absurd (let i = l in cc)
      by (Some (File f b)) is l = absurd (not_through q (File f b) c (λ e i. cc) l)
      by (Some (Link t)) is l = absurd (not_through q (Link t) c (λ e i. cc) l)
      by (Some (Dir e)) is l = (e, is, l)

-- what was told stays told
pub fine_still : (B C : Blobs) → Grows B C → (d : DigestValue) (above : List Name) → AreFine B d above → AreFine C d above
fine_still B C grows d above fine [] c looks =
    let at = fine [] d refl in
    subst (IsFineAt C (above ++ [])) (same_found looks) (at.0, told_still grows at.1, at.2)
fine_still B C grows d above fine (n ∷ q) c looks =
    let at = fine [] d refl in
    let on = through C d at.0 (told_still grows at.1) n q c looks in
    subst (λ p. IsFineAt C p c) (append_assoc above (n ∷ []) q)
    (fine_still B C grows on.0 (above ++ n ∷ [])
    (λ r f h. subst (λ p. IsFineAt B p f) (sym (append_assoc above (n ∷ []) r)) (fine (n ∷ r) f (looks_below B d on.0 at.0 n r (found (Dir f)) at.1 on.1 h)))
    q c on.2)
