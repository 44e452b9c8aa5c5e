-- One child more of a directory that is being made.
use Rattle.std.proofs.Common.{◌≡◌, ℕ, zero, suc, ◌+◌, ◌-◌, ◌<◌, ◌≤◌, List, [], ◌∷◌, ◌++◌, refl, ap, sym, ◌∙◌, arith, Bool, true, false, cond, append_assoc, length, take, drop, map, get_or, drop-cons}
use Rattle.std.proofs.lemmas.List.{drop-map, take_all, length-drop}
use Rattle.std.specs.Prelude.{Result, Ok, Err, IfOk, nat_eq}
use Rattle.std.specs.Cmp.Lexicographic.{pointwise}
use Rattle.blob_digest.specs.Digest.{digest_of}
use Rattle.messages.specs.declared.node.Node.TheVariants.{File, Link, Dir}
use Rattle.messages.specs.DirectoryRules.{DirectoryValue}
use Rattle.messages.specs.FileNode.{file_node_bytes}
use Rattle.messages.specs.DirectoryNode.{directory_node_bytes}
use Rattle.messages.specs.SymlinkNode.{symlink_node_bytes}
use Rattle.messages.proofs.Spellings.{spelled_parts}
use Rattle.canonical.specs.Fields.{element_fields}
use Rattle.wire.specs.Spelling.{spelling}
use Rattle.messages.specs.Directory.{directory_bytes}
use Rattle.tree.specs.Tree.{Name, Tree}
use Rattle.tree.specs.Form.{NodeValue, no_children, with_child, directory_of}
use Rattle.tree.specs.Folded.{items_of, tops_below}
use Rattle.tree.specs.declared.visiting.Line.{Line}
use Rattle.tree.specs.declared.visiting.Visited.{Visited}
use Rattle.tree.specs.Visiting.{first_under, led, lines_seen, with_children, IsVisitOf}

-- ---- children behind children

pub none_after : {A : Type 0} (xs : List A) → xs ++ [] ≡ xs
none_after [] = refl
none_after (x ∷ xs) = ap (λ ys. x ∷ ys) (none_after xs)

pub joined_assoc : (a b c : DirectoryValue) → with_children (with_children a b) c ≡ with_children a (with_children b c)
joined_assoc a b c =
    let files = append_assoc a.files b.files c.files in
    let directories = append_assoc a.directories b.directories c.directories in
    let symlinks = append_assoc a.symlinks b.symlinks c.symlinks in
    λ i. record { files = files i; directories = directories i; symlinks = symlinks i }

pub joined_none : (a : DirectoryValue) → with_children a no_children ≡ a
joined_none a =
    let files = none_after a.files in
    let directories = none_after a.directories in
    let symlinks = none_after a.symlinks in
    λ i. record { files = files i; directories = directories i; symlinks = symlinks i }

pub child_joined : (n : Name) (x : NodeValue) (m : DirectoryValue) → with_children (with_child n x no_children) m ≡ with_child n x m
child_joined n (File d e) m = refl
child_joined n (Link t) m = refl
child_joined n (Dir d) m = refl

-- ---- lines by their index

pub drop_line : {A B : Type 0} (f : A → B) (k : ℕ) (xs : List A) (d : A) → k < length xs → drop k (map f xs) ≡ f (get_or xs k d) ∷ drop (k + 1) (map f xs)
drop_line f k xs d lt = drop-map f k xs ∙ ap (map f) (drop-cons xs k d lt) ∙ ap (λ ys. f (get_or xs k d) ∷ ys) (sym (drop-map f (suc k) xs)) ∙ ap (λ j. f (get_or xs k d) ∷ drop j (map f xs)) (sym one)
  where
    one : k + 1 ≡ suc k
    one = omega arith

pub drop_all : {A B : Type 0} (f : A → B) (k : ℕ) (xs : List A) → length xs ≤ k → drop k (map f xs) ≡ []
drop_all f zero [] le = refl
drop_all f zero (x ∷ xs) le = absurd (omega arith)
drop_all f (suc k) [] le = refl
drop_all f (suc k) (x ∷ xs) le = drop_all f k xs (omega arith)

-- the line at an index, with its names apart
pub line_at : {B : Type 0} {A : Type 0} (f : A → List Name × B) (k : ℕ) (xs : List A) (d : A) (n : Name) (p names : List Name) → k < length xs → d ≡ get_or xs k d → (f d).0 ≡ names → names ≡ n ∷ p
    → drop k (map f xs) ≡ (n ∷ p, (f d).1) ∷ drop (k + 1) (map f xs)
line_at f k xs d n p names lt is seen split =
    drop_line f k xs d lt ∙ ap (λ a. f a ∷ drop (k + 1) (map f xs)) (sym is) ∙ ap (λ q. (q, (f d).1) ∷ drop (k + 1) (map f xs)) (seen ∙ split)

-- ---- the same, at an index of all lines

pub no_names : {A : Type 0} (p : List A) → length p < 1 → p ≡ []
no_names [] lt = refl
no_names (n ∷ p) lt = absurd (omega arith)

pub rest_of : {A : Type 0} (k : ℕ) (xs : List A) → take (length xs - k) (drop k xs) ≡ drop k xs
rest_of k xs = take_all (length xs - k) (drop k xs) (let len = length-drop k xs in omega (arith, len))

-- lines of one name, with what stands at them seen otherwise
module _ {X Y : Type 0} (f : X → Y) where
  abbrev pub seen_by : List (List Name × X) → List (List Name × Y)
  seen_by ls = map (λ l. (l.0, f l.1)) ls

  pub led_seen : (n : Name) (ls : List (List Name × X)) → led n (seen_by ls) ≡ seen_by (led n ls)
  led_seen n [] = refl
  led_seen n (l ∷ ls) = at l.0 (led_seen n ls)
    where
      at : (p : List Name) → led n (seen_by ls) ≡ seen_by (led n ls) → first_under n p (f l.1) (led n (seen_by ls)) ≡ seen_by (first_under n p l.1 (led n ls))
      at [] ih = refl
      at (m ∷ p) ih = by (pointwise nat_eq m n)
        where
          by : (b : Bool) → cond b ((p, f l.1) ∷ led n (seen_by ls)) [] ≡ seen_by (cond b ((p, l.1) ∷ led n ls) [])
          by true = ap (λ r. (p, f l.1) ∷ r) ih
          by false = refl

module _ {A T X : Type 0} (f : T → X) where
  -- lines, with what stands at them seen so
  abbrev pub seen_as : List (Line A T) → List (List Name × X)
  seen_as lines = map (λ l. (l.names.now, f l.item.now)) lines

  values_seen : (lines : List (Line A T)) → seen_as lines ≡ seen_by f (lines_seen lines)
  values_seen [] = refl
  values_seen (l ∷ lines) = ap (λ r. (l.names.now, f l.item.now) ∷ r) (values_seen lines)

  pub led_values : (n : Name) (under lines : List (Line A T)) → lines_seen under ≡ led n (lines_seen lines) → seen_as under ≡ led n (seen_as lines)
  led_values n under lines h = values_seen under ∙ ap (seen_by f) h ∙ sym (led_seen f n (lines_seen lines)) ∙ ap (led n) (sym (values_seen lines))

-- the Directory that is made is the tree's
pub visit_of : {A E : Type 0} (r : Result (Visited A) E) (t : Tree NodeValue) (made : DirectoryValue) (tops : List (List ℕ)) → made ≡ directory_of t → tops ≡ tops_below t
    → IfOk r (λ v. v.root ≡ digest_of (directory_bytes made)) → IfOk r (λ v. items_of v.encodings.items ≡ directory_bytes made ∷ tops) → IfOk r (λ v. IsVisitOf t v)
visit_of (Ok v) t made tops m e h k = record { root = h ∙ ap (λ d. digest_of (directory_bytes d)) m; encodings = k ∙ ap (λ d. directory_bytes d ∷ tops) m ∙ ap (λ q. directory_bytes (directory_of t) ∷ q) e }
visit_of (Err e) t made tops m q h k = tt

-- ---- what is written

pub written_directory : (m : DirectoryValue) (x y z : List ℕ) → x ≡ spelling (element_fields 1 (map file_node_bytes m.files)) → y ≡ x ++ spelling (element_fields 2 (map directory_node_bytes m.directories))
    → z ≡ y ++ spelling (element_fields 3 (map symlink_node_bytes m.symlinks)) → z ≡ directory_bytes m
unfolding directory_bytes
written_directory m x y z first second third =
    let a = element_fields 1 (map file_node_bytes m.files) in
    let b = element_fields 2 (map directory_node_bytes m.directories) in
    let c = element_fields 3 (map symlink_node_bytes m.symlinks) in
    third ∙ ap (λ t. t ++ spelling c) (second ∙ ap (λ t. t ++ spelling b) first ∙ sym (spelled_parts a b)) ∙ sym (spelled_parts (a ++ b) c)
