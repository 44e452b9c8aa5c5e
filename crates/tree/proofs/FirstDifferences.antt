-- Two directories with different digests have a first difference, or a Directory of theirs can't be read. That there is one
-- is said as: it can't be that there is none.
use Rattle.std.proofs.Common.{◌≡◌, ◌≢◌, ℕ, zero, suc, arith, List, [], ◌∷◌, ◌++◌, refl, ap, sym, ◌∙◌, subst, inl, inr, append_assoc, map}
use Rattle.std.specs.Prelude.{Option, Some, None, Contains}
use Rattle.std.specs.List.{AllByRecursion}
use Rattle.std.proofs.lemmas.List.{append-nil}
use Rattle.std.proofs.lemmas.List.Elements.{Contains-append_left, Contains-append_right}
use Rattle.std.specs.declared.cmp.Ordering.{Ordering}
use Rattle.std.specs.declared.cmp.Ordering.TheVariants.{Less, Equal, Greater}
use Rattle.blob_digest.specs.Digest.{DigestValue, digest_of}
use Rattle.messages.specs.declared.node.Node.TheVariants.{File, Link, Dir}
use Rattle.messages.specs.FileNode.{FileNodeValue}
use Rattle.messages.specs.DirectoryNode.{DirectoryNodeValue}
use Rattle.messages.specs.SymlinkNode.{SymlinkNodeValue}
use Rattle.messages.specs.DirectoryRules.{DirectoryValue, IsDirectory, file_names, directory_names, symlink_names}
use Rattle.messages.specs.Directory.{directory_bytes}
use Rattle.messages.specs.Node.{IsChild}
use Rattle.messages.specs.Order.{IsAscending}
use Rattle.messages.proofs.Children.{child_stands, child_found}
use Rattle.tree.specs.Tree.{Name, name_cmp}
use Rattle.tree.specs.Form.{NodeValue}
use Rattle.blob_source.specs.Source.{Blobs}
use Rattle.blob_source.specs.Told.{Fault}
use Rattle.tree.specs.Comparing.{IsEncoding}
use Rattle.tree.specs.Difference.{IsFirstOf, IsNoneOf, ReadsDirectory, FailsToRead, Differing, unexplained, absent, differs, unread, child_of, IsFirstName, FindsAt, Finds, FindsFirst}
use Rattle.tree.proofs.TreeLemmas.{name_itself, name_trans}
use Rattle.tree.proofs.Totals.{told_or_faulty}

-- ---- Directories with the same children are one

-- two lists in the same strict order with the same elements are one
module _ {X : Type 0} (name : X → Name) where
  not_less : (n : Name) → name_cmp n n ≡ Less → ⊥
  not_less n h = let own = name_itself n in cc

  -- no element comes before those after it
  after_first : (x y : X) (xs : List X) → IsAscending (map name (x ∷ xs)) → Contains xs y → name_cmp (name x) (name y) ≡ Less
  after_first x y xs h c = each xs h.0 c
    where
      each : (ys : List X) → AllByRecursion (λ other. name_cmp (name x) other ≡ Less) (map name ys) → Contains ys y → name_cmp (name x) (name y) ≡ Less
      each [] all (k, lt, e) = absurd (omega arith)
      each (z ∷ ys) all (zero, lt, e) = subst (λ w. name_cmp (name x) (name w) ≡ Less) e all.0
      each (z ∷ ys) all (suc k, lt, e) = each ys all.1 (k, omega (arith, lt), e)

  tail_of : (x z : X) (xs : List X) → Contains (x ∷ xs) z → (x ≡ z → ⊥) → Contains xs z
  tail_of x z xs (zero, lt, e) other = absurd (other e)
  tail_of x z xs (suc k, lt, e) other = (k, omega (arith, lt), e)

  first_in : (x : X) (xs : List X) → Contains (x ∷ xs) x
  first_in x xs = (0, omega arith, refl)

  later_in : (x z : X) (xs : List X) → Contains xs z → Contains (x ∷ xs) z
  later_in x z xs (k, lt, e) = (suc k, omega (arith, lt), e)

  heads_same : (x y : X) (xs ys : List X) → IsAscending (map name (x ∷ xs)) → IsAscending (map name (y ∷ ys)) → Contains (y ∷ ys) x → Contains (x ∷ xs) y → x ≡ y
  heads_same x y xs ys h k (zero, lt, e) there = sym e
  heads_same x y xs ys h k (suc i, lt, e) (zero, lt', e') = e'
  heads_same x y xs ys h k (suc i, lt, e) (suc j, lt', e') =
      let less = after_first y x ys k (i, omega (arith, lt), e) in
      let more = after_first x y xs h (j, omega (arith, lt'), e') in
      absurd (not_less (name x) (name_trans (name x) (name y) (name x) more less))

  pub same_elements : (xs ys : List X) → IsAscending (map name xs) → IsAscending (map name ys) → ((x : X) → Contains xs x → Contains ys x) → ((x : X) → Contains ys x → Contains xs x) → xs ≡ ys
  same_elements [] [] h k there back = refl
  same_elements [] (y ∷ ys) h k there back = absurd (nowhere (back y (first_in y ys)))
    where
      nowhere : Contains [] y → ⊥
      nowhere (i, lt, e) = omega arith
  same_elements (x ∷ xs) [] h k there back = absurd (nowhere (there x (first_in x xs)))
    where
      nowhere : Contains [] x → ⊥
      nowhere (i, lt, e) = omega arith
  same_elements (x ∷ xs) (y ∷ ys) h k there back =
      let same = heads_same x y xs ys h k (there x (first_in x xs)) (back y (first_in y ys)) in
      let rest = same_elements xs ys h.1 k.1
      (λ z c. tail_of y z ys (there z (later_in x z xs c)) (λ e. not_less (name z) (subst (λ w. name_cmp (name w) (name z) ≡ Less) (same ∙ e) (after_first x z xs h c))))
      (λ z c. tail_of x z xs (back z (later_in y z ys c)) (λ e. not_less (name z) (subst (λ w. name_cmp (name w) (name z) ≡ Less) (sym same ∙ e) (after_first y z ys k c)))) in
      λ i. same i ∷ rest i

-- one has what the other has
module _ (k m : DirectoryValue) (same : (n : Name) → child_of n k ≡ child_of n m) (h : IsDirectory k) where
  node_there : (n : Name) (x : NodeValue) → IsChild {A = Unit {0}} n k (Some x) → IsChild {A = Unit {0}} n m (Some x)
  node_there n x here =
      let at : child_of n m ≡ Some x = sym (same n) ∙ child_found (Unit {0}) n k h.names (Some x) here in
      subst (IsChild {A = Unit {0}} n m) at (child_stands (Unit {0}) n m)

  pub files_there : (f : FileNodeValue) → Contains k.files f → Contains m.files f
  files_there f c = node_there f.name (File f.digest f.executable) c

  pub directories_there : (d : DirectoryNodeValue) → Contains k.directories d → Contains m.directories d
  directories_there d c = node_there d.name (Dir d.digest) c

  pub symlinks_there : (l : SymlinkNodeValue) → Contains k.symlinks l → Contains m.symlinks l
  symlinks_there l c = node_there l.name (Link l.target) c

pub same_children : (k m : DirectoryValue) → IsDirectory k → IsDirectory m → ((n : Name) → child_of n k ≡ child_of n m) → k ≡ m
same_children k m h j same =
    let back : (n : Name) → child_of n m ≡ child_of n k = λ n. sym (same n) in
    let files = same_elements (λ f. f.name) k.files m.files h.names.files_ascend j.names.files_ascend (files_there k m same h) (files_there m k back j) in
    let directories = same_elements (λ d. d.name) k.directories m.directories h.names.directories_ascend j.names.directories_ascend (directories_there k m same h) (directories_there m k back j) in
    let symlinks = same_elements (λ l. l.name) k.symlinks m.symlinks h.names.symlinks_ascend j.names.symlinks_ascend (symlinks_there k m same h) (symlinks_there m k back j) in
    λ i. record { files = files i; directories = directories i; symlinks = symlinks i }

-- ---- the first name

-- the names of a Directory's children
abbrev names_of : DirectoryValue → List Name
names_of m = file_names m.files ++ directory_names m.directories ++ symlink_names m.symlinks

mapped : {X : Type 0} (name : X → Name) (xs : List X) (x : X) → Contains xs x → Contains (map name xs) (name x)
mapped name [] x (k, lt, e) = absurd (omega arith)
mapped name (y ∷ xs) x (zero, lt, e) = (0, omega arith, ap name e)
mapped name (y ∷ xs) x (suc k, lt, e) = later_in (λ (n : Name). n) (name y) (name x) (map name xs) (mapped name xs x (k, omega (arith, lt), e))

child_name : (n : Name) (m : DirectoryValue) (x : NodeValue) → IsChild {A = Unit {0}} n m (Some x) → Contains (names_of m) n
child_name n m (File digest executable) h =
    Contains-append_left (file_names m.files ++ directory_names m.directories) (symlink_names m.symlinks) n (Contains-append_left (file_names m.files) (directory_names m.directories) n (mapped (λ f. f.name) m.files _ h))
child_name n m (Dir digest) h =
    Contains-append_left (file_names m.files ++ directory_names m.directories) (symlink_names m.symlinks) n (Contains-append_right (file_names m.files) (directory_names m.directories) n (mapped (λ d. d.name) m.directories _ h))
child_name n m (Link target) h = Contains-append_right (file_names m.files ++ directory_names m.directories) (symlink_names m.symlinks) n (mapped (λ l. l.name) m.symlinks _ h)

named_child : (n : Name) (m : DirectoryValue) (x : NodeValue) → child_of n m ≡ Some x → Contains (names_of m) n
named_child n m x is = child_name n m x (subst (IsChild {A = Unit {0}} n m) is (child_stands (Unit {0}) n m))

all_at : {X : Type 0} (P : X → Type 0) (xs : List X) (x : X) → AllByRecursion P xs → Contains xs x → P x
all_at P [] x all (k, lt, e) = absurd (omega arith)
all_at P (y ∷ xs) x all (zero, lt, e) = subst P e all.0
all_at P (y ∷ xs) x all (suc k, lt, e) = all_at P xs x all.1 (k, omega (arith, lt), e)

all_map : {X : Type 0} (P Q : X → Type 0) (xs : List X) → ((x : X) → P x → Q x) → AllByRecursion P xs → AllByRecursion Q xs
all_map P Q [] by h = tt
all_map P Q (x ∷ xs) by h = (by x h.0, all_map P Q xs by h.1)

all_push : {X : Type 0} (P : X → Type 0) (xs : List X) (x : X) → AllByRecursion P xs → P x → AllByRecursion P (xs ++ x ∷ [])
all_push P [] x h k = (k, tt)
all_push P (y ∷ xs) x h k = (h.0, all_push P xs x h.1 k)

module _ (k m : DirectoryValue) where
  abbrev SameAt : Name → Type 0
  SameAt n = child_of n k ≡ child_of n m

  -- what holds of the names of children, and of the names of none, holds of all
  everywhere : (P : Name → Type 0) → AllByRecursion P (names_of k ++ names_of m) → ((n : Name) → child_of n k ≡ None → child_of n m ≡ None → P n) → (n : Name) → P n
  everywhere P all none n = left (child_of n k) refl
    where
      right : (o : Option NodeValue) → child_of n m ≡ o → child_of n k ≡ None → P n
      right None e f = none n f e
      right (Some x) e f = all_at P (names_of k ++ names_of m) n all (Contains-append_right (names_of k) (names_of m) n (named_child n m x e))

      left : (o : Option NodeValue) → child_of n k ≡ o → P n
      left None e = right (child_of n m) refl e
      left (Some x) e = all_at P (names_of k ++ names_of m) n all (Contains-append_left (names_of k) (names_of m) n (named_child n k x e))

  -- among names, they are the same at all, or there is a least at which they aren't
  least : (ns : List Name) → (AllByRecursion SameAt ns → ⊥) → ((n : Name) → (SameAt n → ⊥) → AllByRecursion (λ x. name_cmp x n ≡ Less → SameAt x) ns → ⊥) → ⊥
  least [] all one = all tt
  least (x ∷ ns) all one = least ns
      (λ rest. one x (λ same. all (same, rest)) ((λ less. absurd (not_less (λ y. y) x less)), all_map SameAt (λ y. name_cmp y x ≡ Less → SameAt y) ns (λ y same less. same) rest))
      (λ n other rest. by n other rest (name_cmp x n) refl)
    where
      by : (n : Name) → (SameAt n → ⊥) → AllByRecursion (λ y. name_cmp y n ≡ Less → SameAt y) ns → (o : Ordering) → name_cmp x n ≡ o → ⊥
      by n other rest Less e =
          one x (λ same. one n other ((λ less. same), rest))
          ((λ less. absurd (not_less (λ y. y) x less)), all_map (λ y. name_cmp y n ≡ Less → SameAt y) (λ y. name_cmp y x ≡ Less → SameAt y) ns (λ y same less. same (name_trans y x n less e)) rest)
      by n other rest Equal e = one n other ((λ less. absurd cc), rest)
      by n other rest Greater e = one n other ((λ less. absurd cc), rest)

  first_name : IsDirectory k → IsDirectory m → k ≢ m → ((n : Name) → IsFirstName k m n → ⊥) → ⊥
  first_name h j other found = least (names_of k ++ names_of m)
      (λ all. other (same_children k m h j (everywhere SameAt all (λ n e f. e ∙ sym f))))
      (λ n differ all. found n (record { same = everywhere (λ x. name_cmp x n ≡ Less → SameAt x) all (λ x e f less. e ∙ sym f); other = differ }))

-- ---- Directories that are read

first_own : (d : DigestValue) (before own : List (List ℕ)) → IsNoneOf before d → AllByRecursion IsEncoding own → ((b : List ℕ) → IsEncoding b → IsFirstOf (before ++ own) d b → ⊥) → (IsNoneOf (before ++ own) d → ⊥) → ⊥
first_own d before [] none valid one nowhere = nowhere (subst (λ q. IsNoneOf q d) (sym (append-nil before)) none)
first_own d before (b ∷ own) none valid one nowhere =
    let other : digest_of b ≢ d = λ is. one b valid.0 (record { before = before; behind = own; stands = refl; right = is; first = none }) in
    let joined : (before ++ b ∷ []) ++ own ≡ before ++ b ∷ own = append_assoc before (b ∷ []) own in
    first_own d (before ++ b ∷ []) own (all_push (λ e. digest_of e ≢ d) before b none other) valid.1
    (λ c e h. one c e (subst (λ q. IsFirstOf q d c) joined h)) (λ h. nowhere (subst (λ q. IsNoneOf q d) joined h))

module _ (own : List (List ℕ)) (B : Blobs) (valid : AllByRecursion IsEncoding own) where
  -- a Directory is read, or there is a fault
  reads_or_fails : (d : DigestValue) → ((m : DirectoryValue) → IsDirectory m → digest_of (directory_bytes m) ≡ d → ReadsDirectory own B d m → ⊥) → ((f : Fault) → FailsToRead own B d f → ⊥) → ⊥
  reads_or_fails d reads fails = first_own d [] own tt valid
      (λ b encoding first.
      let right : digest_of (directory_bytes encoding.0) ≡ d = ap digest_of (sym encoding.2) ∙ first.right in
      reads encoding.0 encoding.1 right (inl (encoding.1, subst (IsFirstOf own d) encoding.2 first)))
      (λ none. told_or_faulty IsDirectory directory_bytes B d (λ m told. reads m told.valid told.blob.right (inr (none, told))) (λ f fault. fails f (none, fault)))

  -- ---- the first difference

  -- there is one below directories that differ
  abbrev EndsBelow : ℕ → Type 0
  EndsBelow deeper = (path : List Name) (g r : DigestValue) → g ≢ r → ((x : Differing) → Finds own B deeper path g r x → ⊥) → ⊥

  -- and at children that differ
  abbrev EndsAt : ℕ → Type 0
  EndsAt deeper = (path : List Name) (o p : Option NodeValue) → o ≢ p → ((x : Differing) → FindsAt deeper path o p (λ g r. Finds own B deeper path g r x) x → ⊥) → ⊥

  ends_at_last : EndsAt zero
  ends_at_last path None None other k = other refl
  ends_at_last path None (Some y) other k = k (unexplained path) refl
  ends_at_last path (Some x) None other k = k (absent path) refl
  ends_at_last path (Some x) (Some y) other k = k (differs path) refl

  ends_at : (deeper : ℕ) → EndsBelow (suc deeper) → EndsAt (suc deeper)
  ends_at deeper below path None None other k = other refl
  ends_at deeper below path None (Some y) other k = k (unexplained path) refl
  ends_at deeper below path (Some x) None other k = k (absent path) refl
  ends_at deeper below path (Some (Dir g)) (Some (Dir r)) other k = below path g r (λ e. other (ap (λ d. Some (Dir d)) e)) k
  ends_at deeper below path (Some (File d b)) (Some y) other k = k (differs path) refl
  ends_at deeper below path (Some (Link t)) (Some y) other k = k (differs path) refl
  ends_at deeper below path (Some (Dir g)) (Some (File d b)) other k = k (differs path) refl
  ends_at deeper below path (Some (Dir g)) (Some (Link t)) other k = k (differs path) refl

  ends_next : (deeper : ℕ) → EndsAt deeper → EndsBelow (suc deeper)
  ends_next deeper at path g r other k =
      reads_or_fails r
      (λ m m_is m_right m_read. reads_or_fails g
      (λ c c_is c_right c_read.
      let differ : c ≢ m = λ e. other (sym c_right ∙ ap (λ q. digest_of (directory_bytes q)) e ∙ m_right) in
      first_name c m c_is m_is differ (λ n first.
      at (path ++ n ∷ []) (child_of n c) (child_of n m) first.other (λ x found. k x (inr (m, m_read, inr (c, c_read, n, first, found))))))
      (λ f fault. k (unread f) (inr (m, m_read, inl (f, fault, refl)))))
      (λ f fault. k (unread f) (inl (f, fault, refl)))

  ends_below : (deeper : ℕ) → EndsBelow (suc deeper)
  ends_below zero = ends_next zero ends_at_last
  ends_below (suc deeper) = ends_next (suc deeper) (ends_at deeper (ends_below deeper))

  pub finds_first_total : (g r : DigestValue) → g ≢ r → ((x : Differing) → FindsFirst own B g r x → ⊥) → ⊥
  finds_first_total g r other k = ends_below 63 [] g r other k
