-- One step of a comparison: two Directories are read, and what their first name gives.
use Rattle.std.proofs.Common.{◌≡◌, ◌≢◌, ℕ, zero, suc, ◌+◌, ◌-◌, ◌<◌, List, [], ◌∷◌, ◌++◌, refl, sym, subst, arith, length, inl, inr}
use Rattle.std.specs.Prelude.{◌⊎◌, Option, Some, None}
use Rattle.blob_digest.specs.Digest.{DigestValue}
use Rattle.messages.specs.declared.node.Node.TheVariants.{File, Link, Dir}
use Rattle.messages.specs.DirectoryRules.{DirectoryValue}
use Rattle.tree.specs.declared.difference.Unlike.TheVariants.{OnlyRecorded, OnlyGrafted, Directories, Others}
use Rattle.tree.specs.declared.error.TreeError.{TreeError}
use Rattle.tree.specs.declared.error.TreeError.TheVariants.{Absent, BlobMissing, BlobWrong, BlobMalformed, TooDeep, Conflict, Fetch, Memory}
use Rattle.tree.specs.Tree.{Name}
use Rattle.tree.specs.Form.{NodeValue}
use Rattle.blob_source.specs.Source.{Blobs, Grows}
use Rattle.blob_source.specs.Told.{Fault, missing, wrong, malformed}
use Rattle.tree.specs.Lookup.{names_in}
use Rattle.tree.specs.TreeError.{Explains}
use Rattle.tree.specs.Unfolding.{ExplainsChild}
use Rattle.tree.specs.Difference.{ReadsDirectory, FailsToRead, Differing, unexplained, absent, differs, unread, child_of, IsFirstName, FindsAt, Finds, ExplainsDifference}
use Rattle.tree.specs.Comparing.{AreDirectories, IsUnlike}
use Rattle.tree.proofs.Descent.{told_still}

-- what was read is read later too
pub reads_still : {B C : Blobs} (own : List (List ℕ)) (d : DigestValue) (m : DirectoryValue) → Grows B C → ReadsDirectory own B d m → ReadsDirectory own C d m
reads_still own d m g (inl h) = inl h
reads_still own d m g (inr h) = inr (h.0, told_still g h.1)

-- ---- two children of one name

module _ (Next : DigestValue → DigestValue → Type 0) (path : List Name) where
  at_recorded : (deeper : ℕ) (o p : Option NodeValue) → IsUnlike o p OnlyRecorded → FindsAt deeper path o p Next (unexplained path)
  at_recorded zero o p h = subst (λ q. FindsAt zero path q p Next (unexplained path)) (sym h.0) (subst (λ q. FindsAt zero path None q Next (unexplained path)) (sym h.2) refl)
  at_recorded (suc deeper) o p h = subst (λ q. FindsAt (suc deeper) path q p Next (unexplained path)) (sym h.0) (subst (λ q. FindsAt (suc deeper) path None q Next (unexplained path)) (sym h.2) refl)

  at_grafted : (deeper : ℕ) (o p : Option NodeValue) → IsUnlike o p OnlyGrafted → FindsAt deeper path o p Next (absent path)
  at_grafted zero o p h = subst (λ q. FindsAt zero path q p Next (absent path)) (sym h.1) (subst (λ q. FindsAt zero path (Some h.0) q Next (absent path)) (sym h.2) refl)
  at_grafted (suc deeper) o p h = subst (λ q. FindsAt (suc deeper) path q p Next (absent path)) (sym h.1) (subst (λ q. FindsAt (suc deeper) path (Some h.0) q Next (absent path)) (sym h.2) refl)

  both_there : (deeper : ℕ) (x y : NodeValue) → ((AreDirectories x y → ⊥) ⊎ (deeper ≡ 0)) → FindsAt deeper path (Some x) (Some y) Next (differs path)
  both_there zero x y h = refl
  both_there (suc deeper) (File d e) y h = refl
  both_there (suc deeper) (Link t) y h = refl
  both_there (suc deeper) (Dir d) (File e b) h = refl
  both_there (suc deeper) (Dir d) (Link t) h = refl
  both_there (suc deeper) (Dir d) (Dir e) (inl h) = absurd (h tt)
  both_there (suc deeper) (Dir d) (Dir e) (inr h) = absurd (omega (arith, h))

  at_both : (deeper : ℕ) (o p : Option NodeValue) (x y : NodeValue) → o ≡ Some x → p ≡ Some y → ((AreDirectories x y → ⊥) ⊎ (deeper ≡ 0)) → FindsAt deeper path o p Next (differs path)
  at_both deeper o p x y h k there = subst (λ q. FindsAt deeper path q p Next (differs path)) (sym h) (subst (λ q. FindsAt deeper path (Some x) q Next (differs path)) (sym k) (both_there deeper x y there))

  at_below : (deeper : ℕ) (o p : Option NodeValue) (d e : DigestValue) (found : Differing) → o ≡ Some (Dir d) → p ≡ Some (Dir e) → Next d e → FindsAt (suc deeper) path o p Next found
  at_below deeper o p d e found h k next = subst (λ q. FindsAt (suc deeper) path q p Next found) (sym h) (subst (λ q. FindsAt (suc deeper) path (Some (Dir d)) q Next found) (sym k) next)

-- ---- two Directories

-- the Directories of a graft's directory g and of a recorded one r are read
pub record ReadsBoth (own : List (List ℕ)) (B : Blobs) (g r : DigestValue) (n : Name) (k m : DirectoryValue) : Type 0 where
  pub recorded : ReadsDirectory own B r m
  pub grafted : ReadsDirectory own B g k
  pub first : IsFirstName k m n

pub reads_both : {B C : Blobs} (own : List (List ℕ)) (g r : DigestValue) (n : Name) (k m : DirectoryValue) → Grows B C → ReadsBoth own B g r n k m → ReadsBoth own C g r n k m
reads_both own g r n k m grows h = record { recorded = reads_still own r m grows h.recorded; grafted = reads_still own g k grows h.grafted; first = h.first }

module _ (own : List (List ℕ)) (B : Blobs) (above : List Name) (g r : DigestValue) where
  less_one : (deeper : ℕ) → 0 < deeper → deeper ≡ suc (deeper - 1)
  less_one deeper some = omega (arith, some)

  finds_at : (deeper : ℕ) (found : Differing) (n : Name) (k m : DirectoryValue) → 0 < deeper → ReadsBoth own B g r n k m
      → FindsAt (deeper - 1) (above ++ n ∷ []) (child_of n k) (child_of n m) (λ x y. Finds own B (deeper - 1) (above ++ n ∷ []) x y found) found → Finds own B deeper above g r found
  finds_at deeper found n k m some h at = subst (λ j. Finds own B j above g r found) (sym (less_one deeper some)) (inr (m, h.recorded, inr (k, h.grafted, n, h.first, at)))

  pub finds_recorded : (deeper : ℕ) (path : List Name) (n : Name) (k m : DirectoryValue) → 0 < deeper → ReadsBoth own B g r n k m → path ≡ above ++ n ∷ [] → IsUnlike (child_of n k) (child_of n m) OnlyRecorded
      → Finds own B deeper above g r (unexplained path)
  finds_recorded deeper path n k m some h is at =
      subst (λ p. Finds own B deeper above g r (unexplained p)) (sym is)
      (finds_at deeper (unexplained (above ++ n ∷ [])) n k m some h (at_recorded (λ x y. Finds own B (deeper - 1) (above ++ n ∷ []) x y (unexplained (above ++ n ∷ []))) (above ++ n ∷ []) (deeper - 1) (child_of n k) (child_of n m) at))

  pub finds_grafted : (deeper : ℕ) (path : List Name) (n : Name) (k m : DirectoryValue) → 0 < deeper → ReadsBoth own B g r n k m → path ≡ above ++ n ∷ [] → IsUnlike (child_of n k) (child_of n m) OnlyGrafted
      → Finds own B deeper above g r (absent path)
  finds_grafted deeper path n k m some h is at =
      subst (λ p. Finds own B deeper above g r (absent p)) (sym is)
      (finds_at deeper (absent (above ++ n ∷ [])) n k m some h (at_grafted (λ x y. Finds own B (deeper - 1) (above ++ n ∷ []) x y (absent (above ++ n ∷ []))) (above ++ n ∷ []) (deeper - 1) (child_of n k) (child_of n m) at))

  finds_both : (deeper : ℕ) (path : List Name) (n : Name) (k m : DirectoryValue) (x y : NodeValue) → 0 < deeper → ReadsBoth own B g r n k m → path ≡ above ++ n ∷ [] → child_of n k ≡ Some x → child_of n m ≡ Some y
      → ((AreDirectories x y → ⊥) ⊎ (deeper - 1 ≡ 0)) → Finds own B deeper above g r (differs path)
  finds_both deeper path n k m x y some h is left right there =
      subst (λ p. Finds own B deeper above g r (differs p)) (sym is)
      (finds_at deeper (differs (above ++ n ∷ [])) n k m some h (at_both (λ x y. Finds own B (deeper - 1) (above ++ n ∷ []) x y (differs (above ++ n ∷ []))) (above ++ n ∷ []) (deeper - 1) (child_of n k) (child_of n m) x y left right there))

  pub finds_others : (deeper : ℕ) (path : List Name) (n : Name) (k m : DirectoryValue) → 0 < deeper → ReadsBoth own B g r n k m → path ≡ above ++ n ∷ [] → IsUnlike (child_of n k) (child_of n m) Others
      → Finds own B deeper above g r (differs path)
  finds_others deeper path n k m some h is at = finds_both deeper path n k m at.0 at.1 some h is at.2 at.3 (inl at.5)

  -- two directories at a path of 64 names
  pub finds_last : (deeper : ℕ) (path : List Name) (n : Name) (k m : DirectoryValue) (d e : DigestValue) → deeper ≡ 1 → ReadsBoth own B g r n k m → path ≡ above ++ n ∷ [] → IsUnlike (child_of n k) (child_of n m) (Directories d e)
      → Finds own B deeper above g r (differs path)
  finds_last deeper path n k m d e one h is at = finds_both deeper path n k m (Dir d) (Dir e) (omega (arith, one)) h is at.0 at.1 (inr (omega (arith, one)))

  -- two directories that are compared in turn
  pub finds_below : (deeper : ℕ) (path : List Name) (n : Name) (k m : DirectoryValue) (d e : DigestValue) (found : Differing) → 0 < deeper → deeper ≢ 1 → ReadsBoth own B g r n k m → path ≡ above ++ n ∷ [] → IsUnlike (child_of n k) (child_of n m) (Directories d e)
      → Finds own B (deeper - 1) path d e found → Finds own B deeper above g r found
  finds_below deeper path n k m d e found some more h is at below =
      let path_is = above ++ n ∷ [] in
      let two : deeper - 1 ≡ suc (deeper - 2) = omega (arith, some, more) in
      let next : Finds own B (suc (deeper - 2)) path_is d e found = subst (λ p. Finds own B (suc (deeper - 2)) p d e found) is (subst (λ j. Finds own B j path d e found) two below) in
      finds_at deeper found n k m some h
      (subst (λ j. FindsAt j path_is (child_of n k) (child_of n m) (λ x y. Finds own B j path_is x y found) found) (sym two)
      (at_below (λ x y. Finds own B (suc (deeper - 2)) path_is x y found) path_is (deeper - 2) (child_of n k) (child_of n m) d e found at.0 at.1 next))

  -- ---- a Directory that can't be read

  of_fault : {A : Type 0} (deeper : ℕ) (P : Fault → Type 0) (e : TreeError A) → ((f : Fault) → P f → Finds own B deeper above g r (unread f)) → Explains P e → ExplainsDifference (Finds own B deeper above g r) e
  of_fault deeper P (Absent path) f h = h
  of_fault deeper P (BlobMissing d) f h = f (missing d) h
  of_fault deeper P (BlobWrong d) f h = f (wrong d) h
  of_fault deeper P (BlobMalformed d) f h = f (malformed d) h
  of_fault deeper P (TooDeep path) f h = h
  of_fault deeper P (Conflict path) f h = h
  of_fault deeper P Fetch f h = h
  of_fault deeper P Memory f h = h

  pub recorded_fault : {A : Type 0} (deeper : ℕ) (e : TreeError A) → 0 < deeper → Explains (FailsToRead own B r) e → ExplainsDifference (Finds own B deeper above g r) e
  recorded_fault deeper e some h = of_fault deeper (FailsToRead own B r) e (λ f k. subst (λ j. Finds own B j above g r (unread f)) (sym (less_one deeper some)) (inl (f, k, refl))) h

  pub grafted_fault : {A : Type 0} (deeper : ℕ) (m : DirectoryValue) (e : TreeError A) → 0 < deeper → ReadsDirectory own B r m → Explains (FailsToRead own B g) e → ExplainsDifference (Finds own B deeper above g r) e
  grafted_fault deeper m e some read h = of_fault deeper (FailsToRead own B g) e (λ f k. subst (λ j. Finds own B j above g r (unread f)) (sym (less_one deeper some)) (inr (m, read, inl (f, k, refl)))) h

-- a path of 64 names has no room below it
pub child_fault : {A : Type 0} (Found : Differing → Type 0) (deeper : ℕ) (above : Option (List Name)) (e : TreeError A) → 0 < deeper → deeper + length (names_in above) ≡ 64 → ExplainsChild above e → ExplainsDifference Found e
child_fault Found deeper above (Absent path) some depth h = h
child_fault Found deeper above (BlobMissing d) some depth h = absurd h
child_fault Found deeper above (BlobWrong d) some depth h = absurd h
child_fault Found deeper above (BlobMalformed d) some depth h = absurd h
child_fault Found deeper None (TooDeep path) some depth h = h
child_fault Found deeper (Some above) (TooDeep path) some depth h = absurd (omega (arith, some, depth, h.1))
child_fault Found deeper above (Conflict path) some depth h = absurd h
child_fault Found deeper above Fetch some depth h = tt
child_fault Found deeper above Memory some depth h = tt

-- what explains a comparison below explains the one above
pub explains_below : {A : Type 0} (P Q : Differing → Type 0) (e : TreeError A) → ((x : Differing) → P x → Q x) → ExplainsDifference P e → ExplainsDifference Q e
explains_below P Q (Absent path) f h = h
explains_below P Q (BlobMissing d) f h = f (unread (missing d)) h
explains_below P Q (BlobWrong d) f h = f (unread (wrong d)) h
explains_below P Q (BlobMalformed d) f h = f (unread (malformed d)) h
explains_below P Q (TooDeep path) f h = h
explains_below P Q (Conflict path) f h = h
explains_below P Q Fetch f h = h
explains_below P Q Memory f h = h
