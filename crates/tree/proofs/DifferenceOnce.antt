-- What a comparison finds is single-valued.
use Rattle.std.proofs.Common.{◌≡◌, ◌≢◌, ℕ, zero, suc, List, [], ◌∷◌, ◌++◌, refl, ap, sym, ◌∙◌, subst, inl, inr}
use Rattle.std.specs.Prelude.{Option, Some, None}
use Rattle.std.specs.List.{AllByRecursion}
use Rattle.std.specs.declared.cmp.Ordering.{Ordering}
use Rattle.std.specs.declared.cmp.Ordering.TheVariants.{Less, Equal, Greater}
use Rattle.blob_digest.specs.Digest.{DigestValue, digest_of}
use Rattle.messages.specs.declared.node.Node.TheVariants.{File, Link, Dir}
use Rattle.messages.specs.DirectoryRules.{DirectoryValue, IsDirectory}
use Rattle.messages.specs.Directory.{directory_bytes}
use Rattle.tree.specs.Tree.{Name, name_cmp}
use Rattle.tree.specs.Form.{NodeValue}
use Rattle.blob_source.specs.Source.{Blobs}
use Rattle.blob_source.specs.Told.{Fault}
use Rattle.tree.specs.Difference.{IsFirstOf, IsNoneOf, ReadsDirectory, FailsToRead, Differing, unread, child_of, IsFirstName, FindsAt, Finds, FindsFirst}
use Rattle.tree.proofs.TreeLemmas.{name_same, name_greater}
use Rattle.tree.proofs.DirectoryBytes.{directory_bytes_injective}
use Rattle.tree.proofs.TreeDigests.{valid_digests}
use Rattle.tree.proofs.LookupOnce.{told_once, told_or_fault, fault_once}

-- ---- one Directory is read

-- encodings with one front that ends at the first with the digest
first_in_two : (d : DigestValue) (a b : List (List ℕ)) (x y : List ℕ) (xs ys : List (List ℕ)) → AllByRecursion (λ o. digest_of o ≢ d) a → AllByRecursion (λ o. digest_of o ≢ d) b → digest_of x ≡ d → digest_of y ≡ d
    → a ++ x ∷ xs ≡ b ++ y ∷ ys → x ≡ y
first_in_two d [] [] x y xs ys h k p q e = cc
first_in_two d [] (c ∷ b) x y xs ys h k p q e = let same : x ≡ c = cc in absurd (k.0 (ap digest_of (sym same) ∙ p))
first_in_two d (c ∷ a) [] x y xs ys h k p q e = let same : c ≡ y = cc in absurd (h.0 (ap digest_of same ∙ q))
first_in_two d (c ∷ a) (f ∷ b) x y xs ys h k p q e = first_in_two d a b x y xs ys h.1 k.1 p q (let rest : a ++ x ∷ xs ≡ b ++ y ∷ ys = cc in rest)

pub first_once : (own : List (List ℕ)) (d : DigestValue) (x y : List ℕ) → IsFirstOf own d x → IsFirstOf own d y → x ≡ y
first_once own d x y h k = first_in_two d h.before k.before x y h.behind k.behind h.first k.first h.right k.right (sym h.stands ∙ k.stands)

none_there : (d : DigestValue) (a : List (List ℕ)) (x : List ℕ) (xs : List (List ℕ)) → IsNoneOf (a ++ x ∷ xs) d → digest_of x ≡ d → ⊥
none_there d [] x xs h is = h.0 is
none_there d (c ∷ a) x xs h is = none_there d a x xs h.1 is

pub first_or_none : (own : List (List ℕ)) (d : DigestValue) (x : List ℕ) → IsFirstOf own d x → IsNoneOf own d → ⊥
first_or_none own d x h k = none_there d h.before x h.behind (subst (λ bs. IsNoneOf bs d) h.stands k) h.right

module _ (own : List (List ℕ)) (B : Blobs) where
  pub reads_once : (d : DigestValue) (m n : DirectoryValue) → ReadsDirectory own B d m → ReadsDirectory own B d n → m ≡ n
  reads_once d m n (inl h) (inl k) = directory_bytes_injective m n (valid_digests m h.0) (valid_digests n k.0) (first_once own d (directory_bytes m) (directory_bytes n) h.1 k.1)
  reads_once d m n (inl h) (inr k) = absurd (first_or_none own d (directory_bytes m) h.1 k.0)
  reads_once d m n (inr h) (inl k) = absurd (first_or_none own d (directory_bytes n) k.1 h.0)
  reads_once d m n (inr h) (inr k) = told_once B d m n h.1 k.1

  pub reads_or_fails : (d : DigestValue) (m : DirectoryValue) (f : Fault) → ReadsDirectory own B d m → FailsToRead own B d f → ⊥
  reads_or_fails d m f (inl h) k = first_or_none own d (directory_bytes m) h.1 k.0
  reads_or_fails d m f (inr h) k = told_or_fault IsDirectory directory_bytes B d m f h.1 k.1

  pub fails_once : (d : DigestValue) (f h : Fault) → FailsToRead own B d f → FailsToRead own B d h → f ≡ h
  fails_once d f h k l = fault_once IsDirectory directory_bytes B d f h k.1 l.1

  -- ---- one name is the first

  name_once : (g r : DirectoryValue) (n k : Name) → IsFirstName g r n → IsFirstName g r k → n ≡ k
  name_once g r n k h l = by (name_cmp n k) refl
    where
      by : (o : Ordering) → name_cmp n k ≡ o → n ≡ k
      by Less e = absurd (h.other (l.same n e))
      by Equal e = name_same n k e
      by Greater e = absurd (l.other (h.same k (name_greater n k e)))

  -- ---- one thing is found

  at_once : (deeper : ℕ) (path : List Name) (o p : Option NodeValue) (F G : DigestValue → DigestValue → Type 0) (x y : Differing)
      → ((a b : DigestValue) → F a b → G a b → x ≡ y) → FindsAt deeper path o p F x → FindsAt deeper path o p G y → x ≡ y
  at_once zero path None None F G x y next h k = elim h [ ]
  at_once zero path None (Some b) F G x y next h k = h ∙ sym k
  at_once zero path (Some a) None F G x y next h k = h ∙ sym k
  at_once zero path (Some a) (Some b) F G x y next h k = h ∙ sym k
  at_once (suc deeper) path None None F G x y next h k = elim h [ ]
  at_once (suc deeper) path None (Some b) F G x y next h k = h ∙ sym k
  at_once (suc deeper) path (Some a) None F G x y next h k = h ∙ sym k
  at_once (suc deeper) path (Some (File d e)) (Some b) F G x y next h k = h ∙ sym k
  at_once (suc deeper) path (Some (Link t)) (Some b) F G x y next h k = h ∙ sym k
  at_once (suc deeper) path (Some (Dir d)) (Some (File f e)) F G x y next h k = h ∙ sym k
  at_once (suc deeper) path (Some (Dir d)) (Some (Link t)) F G x y next h k = h ∙ sym k
  at_once (suc deeper) path (Some (Dir d)) (Some (Dir e)) F G x y next h k = next d e h k

  finds_once : (deeper : ℕ) (path : List Name) (g r : DigestValue) (x y : Differing) → Finds own B deeper path g r x → Finds own B deeper path g r y → x ≡ y
  finds_once zero path g r x y h k = elim h [ ]
  finds_once (suc deeper) path g r x y (inl h) (inl k) = h.2 ∙ ap unread (fails_once r h.0 k.0 h.1 k.1) ∙ sym k.2
  finds_once (suc deeper) path g r x y (inl h) (inr k) = absurd (reads_or_fails r k.0 h.0 k.1 h.1)
  finds_once (suc deeper) path g r x y (inr h) (inl k) = absurd (reads_or_fails r h.0 k.0 h.1 k.1)
  finds_once (suc deeper) path g r x y (inr (m, told, inl h)) (inr (m2, told2, inl k)) = h.2 ∙ ap unread (fails_once g h.0 k.0 h.1 k.1) ∙ sym k.2
  finds_once (suc deeper) path g r x y (inr (m, told, inl h)) (inr (m2, told2, inr k)) = absurd (reads_or_fails g k.0 h.0 k.1 h.1)
  finds_once (suc deeper) path g r x y (inr (m, told, inr h)) (inr (m2, told2, inl k)) = absurd (reads_or_fails g h.0 k.0 h.1 k.1)
  finds_once (suc deeper) path g r x y (inr (m, told, inr (j, read, n, first, h))) (inr (m2, told2, inr (j2, read2, n2, first2, k))) =
      let recorded = reads_once r m2 m told2 told in
      let grafted = reads_once g j2 j read2 read in
      let names = name_once j m n2 n (subst (λ v. IsFirstName j v n2) recorded (subst (λ v. IsFirstName v m2 n2) grafted first2)) first in
      let at = λ (a : DirectoryValue) (b : DirectoryValue) (i : Name). FindsAt deeper (path ++ i ∷ []) (child_of i a) (child_of i b) (λ c d. Finds own B deeper (path ++ i ∷ []) c d y) y in
      at_once deeper (path ++ n ∷ []) (child_of n j) (child_of n m) (λ c d. Finds own B deeper (path ++ n ∷ []) c d x) (λ c d. Finds own B deeper (path ++ n ∷ []) c d y) x y
      (λ a b p q. finds_once deeper (path ++ n ∷ []) a b x y p q) h (subst (λ i. at j m i) names (subst (λ v. at j v n2) recorded (subst (λ v. at v m2 n2) grafted k)))

pub finds_first_once : (own : List (List ℕ)) (B : Blobs) (g r : DigestValue) (x y : Differing) → FindsFirst own B g r x → FindsFirst own B g r y → x ≡ y
finds_first_once own B g r x y h k = finds_once own B 64 [] g r x y h k
