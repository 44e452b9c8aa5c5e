-- The children of a Directory, inserted one after another at their places.
use Rattle.std.proofs.Common.{◌≡◌, ◌≢◌, ℕ, zero, suc, ◌+◌, ◌<◌, List, [], ◌∷◌, ◌++◌, refl, ap, sym, ◌∙◌, subst, arith, length, take, map, get_or}
use Rattle.std.specs.List.{AllByRecursion}
use Rattle.std.specs.List.Sorted.{IsStrictlySortedBy}
use Rattle.std.specs.Map.{keys_of}
use Rattle.std.specs.Ordering.{match_ordering}
use Rattle.std.specs.declared.cmp.Ordering.{Ordering}
use Rattle.std.specs.declared.cmp.Ordering.TheVariants.{Less, Equal, Greater}
use Rattle.std.specs.BTreeMap.{insert_entry}
use Rattle.messages.specs.declared.node.Node.{Node}
use Rattle.messages.specs.declared.node.Node.TheVariants.{File, Link, Dir}
use Rattle.messages.specs.FileNode.{FileNodeValue}
use Rattle.messages.specs.DirectoryNode.{DirectoryNodeValue}
use Rattle.messages.specs.SymlinkNode.{SymlinkNodeValue}
use Rattle.messages.specs.DirectoryRules.{DirectoryValue, directory_with, file_names, directory_names, symlink_names}
use Rattle.messages.specs.Order.{IsAscending, ShareNone}
use Rattle.tree.specs.Tree.{Name, name_cmp, IsBelowAll, IsOrdered}
use Rattle.tree.specs.Form.{NodeValue, node_value, no_children, with_child, directory_of}
use Rattle.tree.specs.Visiting.{with_children}
use Rattle.tree.specs.Unfolding.{leaves, child_values, made}
use Rattle.tree.proofs.TreeLemmas.{name_itself, name_same, name_trans, below_trans}
use Rattle.tree.proofs.VisitSteps.{none_after}

-- the name comes after those of all children of the node's kind
abbrev pub IsLast : Name → NodeValue → DirectoryValue → Type 0
IsLast n (File d executable) m = AllByRecursion (λ f. name_cmp f.name n ≡ Less) m.files
IsLast n (Link target) m = AllByRecursion (λ l. name_cmp l.name n ≡ Less) m.symlinks
IsLast n (Dir d) m = AllByRecursion (λ c. name_cmp c.name n ≡ Less) m.directories

-- no child has the name
pub record IsNew (n : Name) (m : DirectoryValue) : Type 0 where
  pub files : AllByRecursion (λ f. f.name ≢ n) m.files
  pub directories : AllByRecursion (λ c. c.name ≢ n) m.directories
  pub symlinks : AllByRecursion (λ l. l.name ≢ n) m.symlinks

not_both : (n m : Name) → name_cmp n m ≡ Less → name_cmp m n ≡ Less → ⊥
not_both n m h k = let own = name_itself n in let less = name_trans n m n h k in cc

none_both : {X : Type 0} (name : X → Name) (n : Name) (xs : List X) → AllByRecursion (λ x. name_cmp (name x) n ≡ Less) xs → AllByRecursion (λ x. name_cmp n (name x) ≡ Less) xs → xs ≡ []
none_both name n [] h k = refl
none_both name n (x ∷ xs) h k = absurd (not_both (name x) n h.0 k.0)

-- the children of a tree of later names have later names
pub record AreLater (n : Name) (m : DirectoryValue) : Type 0 where
  pub files : AllByRecursion (λ f. name_cmp n f.name ≡ Less) m.files
  pub directories : AllByRecursion (λ c. name_cmp n c.name ≡ Less) m.directories
  pub symlinks : AllByRecursion (λ l. name_cmp n l.name ≡ Less) m.symlinks

pub later_child : (n m : Name) (x : NodeValue) (d : DirectoryValue) → name_cmp n m ≡ Less → AreLater n d → AreLater n (with_child m x d)
later_child n m (File e executable) d h k = record { files = (h, k.files); directories = k.directories; symlinks = k.symlinks }
later_child n m (Link target) d h k = record { files = k.files; directories = k.directories; symlinks = (h, k.symlinks) }
later_child n m (Dir e) d h k = record { files = k.files; directories = (h, k.directories); symlinks = k.symlinks }

are_later : (n : Name) (es : List (Name × NodeValue)) → IsBelowAll n (leaves es) → AreLater n (directory_of (leaves es))
are_later n [] h = record { files = tt; directories = tt; symlinks = tt }
are_later n (e ∷ es) h = later_child n e.0 e.1 (directory_of (leaves es)) h.0 (are_later n es h.1)

-- in front of the others and last of its kind: the only one of it
first_and_last : (n : Name) (x : NodeValue) (m : DirectoryValue) → AreLater n m → IsLast n x m → with_child n x m ≡ with_children m (with_child n x no_children)
first_and_last n (File d executable) m h last =
    let none = none_both (λ f. f.name) n m.files last h.files in
    let f : FileNodeValue = record { name = n; digest = d; executable = executable } in
    let files : f ∷ m.files ≡ m.files ++ f ∷ [] = ap (λ fs. f ∷ fs) none ∙ ap (λ fs. fs ++ f ∷ []) (sym none) in
    let directories = sym (none_after m.directories) in
    let symlinks = sym (none_after m.symlinks) in
    λ i. record { files = files i; directories = directories i; symlinks = symlinks i }
first_and_last n (Link target) m h last =
    let none = none_both (λ l. l.name) n m.symlinks last h.symlinks in
    let l : SymlinkNodeValue = record { name = n; target = target } in
    let symlinks : l ∷ m.symlinks ≡ m.symlinks ++ l ∷ [] = ap (λ ls. l ∷ ls) none ∙ ap (λ ls. ls ++ l ∷ []) (sym none) in
    let directories = sym (none_after m.directories) in
    let files = sym (none_after m.files) in
    λ i. record { files = files i; directories = directories i; symlinks = symlinks i }
first_and_last n (Dir d) m h last =
    let none = none_both (λ c. c.name) n m.directories last h.directories in
    let c : DirectoryNodeValue = record { name = n; digest = d } in
    let directories : c ∷ m.directories ≡ m.directories ++ c ∷ [] = ap (λ cs. c ∷ cs) none ∙ ap (λ cs. cs ++ c ∷ []) (sym none) in
    let files = sym (none_after m.files) in
    let symlinks = sym (none_after m.symlinks) in
    λ i. record { files = files i; directories = directories i; symlinks = symlinks i }

child_first : (m : Name) (y : NodeValue) (a b : DirectoryValue) → with_child m y (with_children a b) ≡ with_children (with_child m y a) b
child_first m (File d executable) a b = refl
child_first m (Link target) a b = refl
child_first m (Dir d) a b = refl

last_of_rest : (n m : Name) (x y : NodeValue) (d : DirectoryValue) → IsLast n x (with_child m y d) → IsLast n x d
last_of_rest n m (File e b) (File f c) d h = h.1
last_of_rest n m (File e b) (Link t) d h = h
last_of_rest n m (File e b) (Dir f) d h = h
last_of_rest n m (Link t) (File f c) d h = h
last_of_rest n m (Link t) (Link u) d h = h.1
last_of_rest n m (Link t) (Dir f) d h = h
last_of_rest n m (Dir e) (File f c) d h = h
last_of_rest n m (Dir e) (Link t) d h = h
last_of_rest n m (Dir e) (Dir f) d h = h.1

new_of_rest : (n m : Name) (y : NodeValue) (d : DirectoryValue) → IsNew n (with_child m y d) → (m ≢ n) × IsNew n d
new_of_rest n m (File f c) d h = (h.files.0, record { files = h.files.1; directories = h.directories; symlinks = h.symlinks })
new_of_rest n m (Link t) d h = (h.symlinks.0, record { files = h.files; directories = h.directories; symlinks = h.symlinks.1 })
new_of_rest n m (Dir f) d h = (h.directories.0, record { files = h.files; directories = h.directories.1; symlinks = h.symlinks })

-- one child more
inserted_child : (es : List (Name × NodeValue)) (n : Name) (x : NodeValue) → IsOrdered (leaves es) → IsNew n (directory_of (leaves es)) → IsLast n x (directory_of (leaves es))
    → directory_of (leaves (insert_entry name_cmp es n x)) ≡ with_children (directory_of (leaves es)) (with_child n x no_children)
inserted_child [] n x h new last = refl
inserted_child (e ∷ es) n x h new last = by (name_cmp n e.0) refl (inserted_child es n x h.1 (new_of_rest n e.0 e.1 (directory_of (leaves es)) new).1 (last_of_rest n e.0 x e.1 (directory_of (leaves es)) last))
  where
    by : (o : Ordering) → name_cmp n e.0 ≡ o → directory_of (leaves (insert_entry name_cmp es n x)) ≡ with_children (directory_of (leaves es)) (with_child n x no_children)
        → directory_of (leaves (match_ordering o ((n, x) ∷ e ∷ es) ((e.0, x) ∷ es) (e ∷ insert_entry name_cmp es n x))) ≡ with_children (directory_of (leaves (e ∷ es))) (with_child n x no_children)
    by Less c ih = first_and_last n x (directory_of (leaves (e ∷ es))) (are_later n (e ∷ es) (c, below_trans n e.0 (leaves es) c h.0)) last
    by Equal c ih = absurd ((new_of_rest n e.0 e.1 (directory_of (leaves es)) new).0 (sym (name_same n e.0 c)))
    by Greater c ih = ap (with_child e.0 e.1) ih ∙ child_first e.0 e.1 (directory_of (leaves es)) (with_child n x no_children)

-- ---- names that ascend

pub before_last : {X : Type 0} (name : X → Name) (xs : List X) (i : ℕ) (x : X) → IsAscending (map name xs) → i < length xs → AllByRecursion (λ y. name_cmp (name y) (name (get_or xs i x)) ≡ Less) (take i xs)
before_last name [] i x h lt = absurd (omega arith)
before_last name (y ∷ xs) zero x h lt = tt
before_last name (y ∷ xs) (suc i) x h lt = (at xs i x h.0 (omega arith), before_last name xs i x h.1 (omega arith))
  where
    at : (xs : List _) (i : ℕ) (x : _) → AllByRecursion (λ other. name_cmp (name y) other ≡ Less) (map name xs) → i < length xs → name_cmp (name y) (name (get_or xs i x)) ≡ Less
    at [] i x h lt = absurd (omega arith)
    at (z ∷ zs) zero x h lt = h.0
    at (z ∷ zs) (suc i) x h lt = at zs i x h.1 (omega arith)

less_apart : {X : Type 0} (name : X → Name) (n : Name) (xs : List X) → AllByRecursion (λ y. name_cmp (name y) n ≡ Less) xs → AllByRecursion (λ y. name y ≢ n) xs
less_apart name n [] h = tt
less_apart name n (x ∷ xs) h = ((λ e. (let own = name_itself n in let less : name_cmp n n ≡ Less = ap (λ m. name_cmp m n) (sym e) ∙ h.0 in cc)), less_apart name n xs h.1)

-- a name of the first list is none of the second
pub apart_at : {X Y : Type 0} (name : X → Name) (other : Y → Name) (xs : List X) (ys : List Y) (i : ℕ) (x : X) → ShareNone (map name xs) (map other ys) → i < length xs → AllByRecursion (λ y. other y ≢ name (get_or xs i x)) ys
apart_at name other [] ys i x h lt = absurd (omega arith)
apart_at name other (z ∷ xs) ys zero x h lt = each ys h.0
  where
    each : (ys : List _) → AllByRecursion (λ o. name z ≢ o) (map other ys) → AllByRecursion (λ y. other y ≢ name z) ys
    each [] h = tt
    each (y ∷ ys) h = ((λ e. h.0 (sym e)), each ys h.1)
apart_at name other (z ∷ xs) ys (suc i) x h lt = apart_at name other xs ys i x h.1 (omega arith)

pub take_one : {X : Type 0} (xs : List X) (i : ℕ) (x : X) → i < length xs → take i xs ++ get_or xs i x ∷ [] ≡ take (i + 1) xs
take_one [] i x lt = absurd (omega arith)
take_one (y ∷ xs) zero x lt = refl
take_one (y ∷ xs) (suc i) x lt = ap (λ r. y ∷ r) (take_one xs i x (omega arith)) ∙ ap (λ j. take j (y ∷ xs)) same
  where
    same : suc (i + 1) ≡ suc i + 1
    same = omega arith

-- ---- what the code keeps

module _ {A : Type 0} where
  values_inserted : (es : List (Name × Node A)) (n : Name) (v : Node A) → child_values (insert_entry name_cmp es n v) ≡ insert_entry name_cmp (child_values es) n (node_value v)
  values_inserted [] n v = refl
  values_inserted (e ∷ es) n v = by (name_cmp n e.0) (values_inserted es n v)
    where
      by : (o : Ordering) → child_values (insert_entry name_cmp es n v) ≡ insert_entry name_cmp (child_values es) n (node_value v)
          → child_values (match_ordering o ((n, v) ∷ e ∷ es) ((e.0, v) ∷ es) (e ∷ insert_entry name_cmp es n v))
          ≡ match_ordering o ((n, node_value v) ∷ child_values (e ∷ es)) ((e.0, node_value v) ∷ child_values es) ((e.0, node_value e.1) ∷ insert_entry name_cmp (child_values es) n (node_value v))
      by Less ih = refl
      by Equal ih = refl
      by Greater ih = ap (λ r. (e.0, node_value e.1) ∷ r) ih

  pub ordered_leaves : (es : List (Name × Node A)) → IsStrictlySortedBy name_cmp (keys_of es) → IsOrdered (leaves (child_values es))
  unfolding IsStrictlySortedBy
  ordered_leaves [] h = tt
  ordered_leaves (e ∷ es) h = (later es h.0, ordered_leaves es h.1)
    where
      later : (fs : List (Name × Node A)) → AllByRecursion (λ k. name_cmp e.0 k ≡ Less) (keys_of fs) → IsBelowAll e.0 (leaves (child_values fs))
      later [] h = tt
      later (f ∷ fs) h = (h.0, later fs h.1)

  more : (es fs : List (Name × Node A)) (n : Name) (v : Node A) → fs ≡ insert_entry name_cmp es n v → IsStrictlySortedBy name_cmp (keys_of es) → IsNew n (made es) → IsLast n (node_value v) (made es)
      → made fs ≡ with_children (made es) (with_child n (node_value v) no_children)
  more es fs n v is sorted new last = ap made is ∙ ap (λ cs. directory_of (leaves cs)) (values_inserted es n v) ∙ inserted_child (child_values es) n (node_value v) (ordered_leaves es sorted) new last

  pub more_files : (es fs : List (Name × Node A)) (files : List FileNodeValue) (ds : List DirectoryNodeValue) (ls : List SymlinkNodeValue) (i : ℕ) (f : FileNodeValue) (v : Node A) (n : Name)
      → i < length files → f ≡ get_or files i f → n ≡ f.name → node_value v ≡ File f.digest f.executable → IsAscending (file_names files) → ShareNone (file_names files) (directory_names ds) → ShareNone (file_names files) (symlink_names ls)
      → IsStrictlySortedBy name_cmp (keys_of es) → fs ≡ insert_entry name_cmp es n v → made es ≡ directory_with (take i files) ds ls → made fs ≡ directory_with (take (i + 1) files) ds ls
  more_files es fs files ds ls i f v n lt is name value up apart_ds apart_ls sorted at h =
      let before : AllByRecursion (λ y. name_cmp y.name n ≡ Less) (take i files) = subst (λ m. AllByRecursion (λ y. name_cmp y.name m ≡ Less) (take i files)) (ap (λ g. g.name) (sym is) ∙ sym name) (before_last (λ f. f.name) files i f up lt) in
      let new : IsNew n (directory_with (take i files) ds ls) = record {
        files = less_apart (λ f. f.name) n (take i files) before;
        directories = subst (λ m. AllByRecursion (λ c. c.name ≢ m) ds) (ap (λ g. g.name) (sym is) ∙ sym name) (apart_at (λ f. f.name) (λ c. c.name) files ds i f apart_ds lt);
        symlinks = subst (λ m. AllByRecursion (λ l. l.name ≢ m) ls) (ap (λ g. g.name) (sym is) ∙ sym name) (apart_at (λ f. f.name) (λ l. l.name) files ls i f apart_ls lt);
      } in
      let last : IsLast n (node_value v) (made es) = subst (λ x. IsLast n x (made es)) (sym value) (subst (λ m. AllByRecursion (λ y. name_cmp y.name n ≡ Less) m.files) (sym h) before) in
      let step = more es fs n v at sorted (subst (IsNew n) (sym h) new) last in
      let whole : ◌≡◌ {A = FileNodeValue} (record { name = n; digest = f.digest; executable = f.executable }) (get_or files i f) = ap (λ m. record { name = m; digest = f.digest; executable = f.executable }) name ∙ is in
      let front = ap (λ g. take i files ++ g ∷ []) whole ∙ take_one files i f lt in
      let dirs = none_after ds in
      let links = none_after ls in
      step ∙ ap (λ x. with_children (made es) (with_child n x no_children)) value ∙ ap (λ m. with_children m (with_child n (File f.digest f.executable) no_children)) h ∙ (λ j. record { files = front j; directories = dirs j; symlinks = links j })

  pub more_directories : (es fs : List (Name × Node A)) (files : List DirectoryNodeValue) (ls : List SymlinkNodeValue) (i : ℕ) (f : DirectoryNodeValue) (v : Node A) (n : Name)
      → i < length files → f ≡ get_or files i f → n ≡ f.name → node_value v ≡ Dir f.digest → IsAscending (directory_names files) → ShareNone (directory_names files) (symlink_names ls)
      → IsStrictlySortedBy name_cmp (keys_of es) → fs ≡ insert_entry name_cmp es n v → made es ≡ directory_with [] (take i files) ls → made fs ≡ directory_with [] (take (i + 1) files) ls
  more_directories es fs files ls i f v n lt is name value up apart_ls sorted at h =
      let before : AllByRecursion (λ y. name_cmp y.name n ≡ Less) (take i files) = subst (λ m. AllByRecursion (λ y. name_cmp y.name m ≡ Less) (take i files)) (ap (λ g. g.name) (sym is) ∙ sym name) (before_last (λ f. f.name) files i f up lt) in
      let new : IsNew n (directory_with [] (take i files) ls) = record {
        files = tt;
        directories = less_apart (λ f. f.name) n (take i files) before;
        symlinks = subst (λ m. AllByRecursion (λ l. l.name ≢ m) ls) (ap (λ g. g.name) (sym is) ∙ sym name) (apart_at (λ f. f.name) (λ l. l.name) files ls i f apart_ls lt);
      } in
      let last : IsLast n (node_value v) (made es) = subst (λ x. IsLast n x (made es)) (sym value) (subst (λ m. AllByRecursion (λ y. name_cmp y.name n ≡ Less) m.directories) (sym h) before) in
      let step = more es fs n v at sorted (subst (IsNew n) (sym h) new) last in
      let whole : ◌≡◌ {A = DirectoryNodeValue} (record { name = n; digest = f.digest }) (get_or files i f) = ap (λ m. record { name = m; digest = f.digest }) name ∙ is in
      let front = ap (λ g. take i files ++ g ∷ []) whole ∙ take_one files i f lt in
      let links = none_after ls in
      step ∙ ap (λ x. with_children (made es) (with_child n x no_children)) value ∙ ap (λ m. with_children m (with_child n (Dir f.digest) no_children)) h ∙ (λ j. record { files = []; directories = front j; symlinks = links j })

  pub more_symlinks : (es fs : List (Name × Node A)) (files : List SymlinkNodeValue) (i : ℕ) (f : SymlinkNodeValue) (v : Node A) (n : Name)
      → i < length files → f ≡ get_or files i f → n ≡ f.name → node_value v ≡ Link f.target → IsAscending (symlink_names files)
      → IsStrictlySortedBy name_cmp (keys_of es) → fs ≡ insert_entry name_cmp es n v → made es ≡ directory_with [] [] (take i files) → made fs ≡ directory_with [] [] (take (i + 1) files)
  more_symlinks es fs files i f v n lt is name value up sorted at h =
      let before : AllByRecursion (λ y. name_cmp y.name n ≡ Less) (take i files) = subst (λ m. AllByRecursion (λ y. name_cmp y.name m ≡ Less) (take i files)) (ap (λ g. g.name) (sym is) ∙ sym name) (before_last (λ f. f.name) files i f up lt) in
      let new : IsNew n (directory_with [] [] (take i files)) = record { files = tt; directories = tt; symlinks = less_apart (λ f. f.name) n (take i files) before } in
      let last : IsLast n (node_value v) (made es) = subst (λ x. IsLast n x (made es)) (sym value) (subst (λ m. AllByRecursion (λ y. name_cmp y.name n ≡ Less) m.symlinks) (sym h) before) in
      let step = more es fs n v at sorted (subst (IsNew n) (sym h) new) last in
      let whole : ◌≡◌ {A = SymlinkNodeValue} (record { name = n; target = f.target }) (get_or files i f) = ap (λ m. record { name = m; target = f.target }) name ∙ is in
      let front = ap (λ g. take i files ++ g ∷ []) whole ∙ take_one files i f lt in
      step ∙ ap (λ x. with_children (made es) (with_child n x no_children)) value ∙ ap (λ m. with_children m (with_child n (Link f.target) no_children)) h ∙ (λ j. record { files = []; directories = []; symlinks = front j })
