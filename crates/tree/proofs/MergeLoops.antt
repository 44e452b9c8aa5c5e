-- Lines at a path, one after another.
use Rattle.std.proofs.Common.{◌≡◌, ◌≢◌, ℕ, zero, suc, ◌+◌, ◌<◌, ◌≤◌, List, [], ◌∷◌, ◌++◌, length, map, take, get_or, refl, ap, sym, ◌∙◌, subst, arith, true, false, cond, append_assoc}
use Rattle.std.specs.Prelude.{Some, ◌==◌, slice_get}
use Rattle.std.specs.List.{AllByRecursion, slice_index_or, remove}
use Rattle.std.proofs.lemmas.List.{take_all}
use Rattle.messages.specs.declared.node.Node.TheVariants.{File, Link, Dir}
use Rattle.messages.specs.FileNode.{FileNodeValue}
use Rattle.messages.specs.DirectoryNode.{DirectoryNodeValue}
use Rattle.messages.specs.SymlinkNode.{SymlinkNodeValue}
use Rattle.tree.specs.Tree.{Name}
use Rattle.tree.specs.Form.{node_value}
use Rattle.tree.specs.declared.merging.Part.{Part}
use Rattle.messages.specs.declared.node.Node.{Node}
use Rattle.messages.specs.DirectoryRules.{directory_with}
use Rattle.tree.specs.declared.merging.Within.{Within}
use Rattle.tree.specs.Merging.{within_value, node_within, merge_lines, WithinValue, NodeWithin, MergeLines, is_repeated, counted, CanMeetAt, CanMeet, child_lines}
use Rattle.tree.specs.MergeParts.{part_value, part_values, within_in, within_of}
use Rattle.tree.proofs.VisitSteps.{none_after}

-- ---- lists

pub nothing_left : {X : Type 0} (xs : List X) → length xs ≡ 0 → xs ≡ []
nothing_left [] e = refl
nothing_left (x ∷ xs) e = absurd (omega (arith, e))

one_at : {X : Type 0} (P : X → Type 0) (xs : List X) (i : ℕ) (x : X) → i < length xs → x ≡ get_or xs i x → AllByRecursion P xs → P x
one_at P [] i x lt is h = absurd (omega (arith, lt))
one_at P (y ∷ xs) zero x lt is h = subst P (sym is) h.0
one_at P (y ∷ xs) (suc i) x lt is h = one_at P xs i x (omega (arith, lt)) is h.1

mapped : {X Y : Type 0} (f : X → Y) (P : Y → Type 0) (xs : List X) → AllByRecursion P (map f xs) → AllByRecursion (λ x. P (f x)) xs
mapped f P [] h = tt
mapped f P (x ∷ xs) h = (h.0, mapped f P xs h.1)

module _ {A : Type 0} (W : ℕ → WithinValue) where
  -- ---- whether they meet

  abbrev Meets : Part A → Type 0
  Meets p = CanMeetAt p.names.items (record { node = node_value p.node; within = W p.line })

  pub meets_all : (deeper : ℕ) (parts : List (Part A)) (i : ℕ) → deeper ≢ 0 → length parts ≤ i → AllByRecursion (λ q. CanMeetAt q.0 q.1) (part_values W (take i parts)) → CanMeet deeper (part_values W parts)
  meets_all zero parts i some le h = absurd (some refl)
  meets_all (suc deeper) parts i some le h = subst (λ ps. AllByRecursion (λ q. CanMeetAt q.0 q.1) (part_values W ps)) (take_all i parts le) h

  pub meets_not : (deeper : ℕ) (parts : List (Part A)) (i : ℕ) (part : Part A) → i < length parts → part ≡ get_or parts i part → (CanMeetAt part.names.items (record { node = node_value part.node; within = W part.line }) → ⊥)
      → CanMeet deeper (part_values W parts) → ⊥
  meets_not zero parts i part lt is fails h = h
  meets_not (suc deeper) parts i part lt is fails h = fails (one_at Meets parts i part lt is (mapped (part_value W) (λ q. CanMeetAt q.0 q.1) parts h))

-- ---- what counts once

pub counted_kept : (kept rest : MergeLines) (l : List Name × NodeWithin) → is_repeated kept l.0 l.1 ≡ false → kept ++ counted kept (l ∷ rest) ≡ (kept ++ l ∷ []) ++ counted (kept ++ l ∷ []) rest
counted_kept kept rest l e = ap (λ b. kept ++ cond b (counted kept rest) (l ∷ counted (kept ++ l ∷ []) rest)) e ∙ sym (append_assoc kept (l ∷ []) (counted (kept ++ l ∷ []) rest))

pub counted_dropped : (kept rest : MergeLines) (l : List Name × NodeWithin) → is_repeated kept l.0 l.1 ≡ true → kept ++ counted kept (l ∷ rest) ≡ kept ++ counted kept rest
counted_dropped kept rest l e = ap (λ b. kept ++ cond b (counted kept rest) (l ∷ counted (kept ++ l ∷ []) rest)) e

pub counted_end : (kept all : MergeLines) → kept ++ counted kept [] ≡ all → kept ≡ all
counted_end kept all e = sym (none_after kept) ∙ e

pub map_pushed : {X Y : Type 0} (f : X → Y) (xs : List X) (x : X) → map f (xs ++ x ∷ []) ≡ map f xs ++ f x ∷ []
map_pushed f [] x = refl
map_pushed f (y ∷ xs) x = ap (λ r. f y ∷ r) (map_pushed f xs x)

-- ---- the first name of a line

pub first_removed : {X : Type 0} (xs ys : List X) (x : X) → 0 < length xs → x ≡ slice_index_or xs 0 x → ys ≡ remove xs 0 → xs ≡ x ∷ ys
first_removed [] ys x some is rest = absurd (omega (arith, some))
first_removed (y ∷ xs) ys x some is rest = λ i. sym is i ∷ sym rest i

pub some_if_not : (n : ℕ) → (n == 0) ≡ false → 0 < n
some_if_not zero e = absurd (let both : true ≡ false = e in cc)
some_if_not (suc n) e = omega arith

-- ---- the lines themselves

taken_more : {X Y : Type 0} (f : X → Y) (xs : List X) (i : ℕ) (x : X) → i < length xs → x ≡ get_or xs i x → map f (take (i + 1) xs) ≡ map f (take i xs) ++ f x ∷ []
taken_more {X} {Y} f [] i x lt is = absurd (omega (arith, lt))
taken_more {X} {Y} f (y ∷ xs) zero x lt is = ap (λ z. f z ∷ []) (sym is)
taken_more {X} {Y} f (y ∷ xs) (suc i) x lt is = ap (λ k. map f (take k (y ∷ xs))) (sym more) ∙ ap (λ r. f y ∷ r) (taken_more f xs i x (omega (arith, lt)) is)
  where
    more : suc (i + 1) ≡ suc i + 1
    more = omega arith

slice_at : {X : Type 0} (xs : List X) (i : ℕ) (x : X) → i < length xs → x ≡ get_or xs i x → slice_get xs i ≡ Some x
slice_at [] i x lt is = absurd (omega (arith, lt))
slice_at (y ∷ xs) zero x lt is = ap Some (sym is)
slice_at (y ∷ xs) (suc i) x lt is = slice_at xs i x (omega (arith, lt)) is

pub first_part : {A : Type 0} (lines : List (List Name × Node A × Within A)) (i : ℕ) (l : List Name × Node A × Within A) (ps : MergeLines) (names : List Name) (node : Node A) → i < length lines → l ≡ get_or lines i l
    → ps ≡ merge_lines (take i lines) → names ≡ l.0 → node ≡ l.1 → ps ++ (names, record { node = node_value node; within = within_of lines i }) ∷ [] ≡ merge_lines (take (i + 1) lines)
first_part lines i l ps names node lt is so_far named copied =
    let within : within_of lines i ≡ within_value l.2 = ap within_in (slice_at lines i l lt is) in
    (λ j. so_far j ++ (named j, record { node = node_value (copied j); within = within j }) ∷ []) ∙ sym (taken_more (λ k. (k.0, node_within k.1 k.2)) lines i l lt is)

-- ---- the children of a directory

module _ (within : WithinValue) where
  pub files_more : (fs : List FileNodeValue) (i : ℕ) (f : FileNodeValue) → i < length fs → f ≡ get_or fs i f
      → child_lines within (directory_with (take (i + 1) fs) [] []) ≡ child_lines within (directory_with (take i fs) [] []) ++ (f.name ∷ [], record { node = File f.digest f.executable; within = within }) ∷ []
  files_more fs i f lt is =
      none_after _ ∙ taken_more (λ g. (g.name ∷ [], record { node = File g.digest g.executable; within = within })) fs i f lt is ∙ ap (λ r. r ++ (f.name ∷ [], record { node = File f.digest f.executable; within = within }) ∷ []) (sym (none_after _))

  pub directories_more : (fs : List FileNodeValue) (ds : List DirectoryNodeValue) (i : ℕ) (d : DirectoryNodeValue) → i < length ds → d ≡ get_or ds i d
      → child_lines within (directory_with fs (take (i + 1) ds) []) ≡ child_lines within (directory_with fs (take i ds) []) ++ (d.name ∷ [], record { node = Dir d.digest; within = within }) ∷ []
  directories_more [] ds i d lt is =
      none_after _ ∙ taken_more (λ e. (e.name ∷ [], record { node = Dir e.digest; within = within })) ds i d lt is ∙ ap (λ r. r ++ (d.name ∷ [], record { node = Dir d.digest; within = within }) ∷ []) (sym (none_after _))
  directories_more (f ∷ fs) ds i d lt is = ap (λ r. (f.name ∷ [], record { node = File f.digest f.executable; within = within }) ∷ r) (directories_more fs ds i d lt is)

  pub symlinks_more : (fs : List FileNodeValue) (ds : List DirectoryNodeValue) (ls : List SymlinkNodeValue) (i : ℕ) (l : SymlinkNodeValue) → i < length ls → l ≡ get_or ls i l
      → child_lines within (directory_with fs ds (take (i + 1) ls)) ≡ child_lines within (directory_with fs ds (take i ls)) ++ (l.name ∷ [], record { node = Link l.target; within = within }) ∷ []
  symlinks_more [] [] ls i l lt is = taken_more (λ e. (e.name ∷ [], record { node = Link e.target; within = within })) ls i l lt is
  symlinks_more [] (d ∷ ds) ls i l lt is = ap (λ r. (d.name ∷ [], record { node = Dir d.digest; within = within }) ∷ r) (symlinks_more [] ds ls i l lt is)
  symlinks_more (f ∷ fs) ds ls i l lt is = ap (λ r. (f.name ∷ [], record { node = File f.digest f.executable; within = within }) ∷ r) (symlinks_more fs ds ls i l lt is)

  pub files_done : (fs : List FileNodeValue) (i : ℕ) → length fs ≤ i → child_lines within (directory_with (take i fs) [] []) ≡ child_lines within (directory_with fs [] [])
  files_done fs i le = ap (λ gs. child_lines within (directory_with gs [] [])) (take_all i fs le)

  pub directories_done : (fs : List FileNodeValue) (ds : List DirectoryNodeValue) (i : ℕ) → length ds ≤ i → child_lines within (directory_with fs (take i ds) []) ≡ child_lines within (directory_with fs ds [])
  directories_done fs ds i le = ap (λ es. child_lines within (directory_with fs es [])) (take_all i ds le)

  pub symlinks_done : (fs : List FileNodeValue) (ds : List DirectoryNodeValue) (ls : List SymlinkNodeValue) (i : ℕ) → length ls ≤ i → child_lines within (directory_with fs ds (take i ls)) ≡ child_lines within (directory_with fs ds ls)
  symlinks_done fs ds ls i le = ap (λ es. child_lines within (directory_with fs ds es)) (take_all i ls le)

-- one line more
pub line_added : (start children new now later : MergeLines) (l : List Name × NodeWithin) → now ≡ start ++ children → later ≡ now ++ l ∷ [] → new ≡ children ++ l ∷ [] → later ≡ start ++ new
line_added start children new now later l so_far more is = more ∙ ap (λ r. r ++ l ∷ []) so_far ∙ append_assoc start children (l ∷ []) ∙ ap (λ r. start ++ r) (sym is)
