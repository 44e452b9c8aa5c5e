-- One entry more of a flat tree whose Directories are being made.
use Rattle.std.proofs.Common.{◌≡◌, ℕ, suc, List, [], ◌∷◌, ◌++◌, refl, ap, sym, ◌∙◌, subst, Bool, true, false, cond, length, drop, append_assoc}
use Rattle.std.specs.Prelude.{nat_eq, Result, Ok, Err, IfOk}
use Rattle.std.specs.Cmp.Lexicographic.{pointwise, bytes_decides}
use Rattle.std.specs.declared.cmp.Ordering.TheVariants.{Less}
use Rattle.blob_digest.specs.Digest.{DigestValue, digest_of}
use Rattle.messages.specs.Directory.{directory_bytes}
use Rattle.messages.specs.declared.node.Node.TheVariants.{Dir}
use Rattle.messages.specs.DirectoryRules.{DirectoryValue}
use Rattle.tree.specs.Tree.{Name, name_cmp, Tree, empty, leaf, folder, Standing, a_leaf, a_directory}
use Rattle.tree.specs.Form.{NodeValue, no_children, with_child, directory_of, root}
use Rattle.tree.specs.Folded.{items_of, tops_below, visited}
use Rattle.tree.specs.FlatTree.{under, listed, FlatValue, IsListOf}
use Rattle.tree.specs.declared.flat_tree.FlatEntry.{FlatEntry}
use Rattle.tree.specs.declared.visiting.Line.{Line}
use Rattle.tree.specs.declared.visiting.Visited.{Visited}
use Rattle.tree.specs.Visiting.{first_under, led, line_entries, with_children, IsVisitOf}
use Rattle.tree.proofs.TreeLemmas.{name_itself}
use Rattle.tree.proofs.Sorted.{led_step}
use Rattle.tree.proofs.Listings.{IsFirst, AllFirst, first_listed}
use Rattle.tree.proofs.VisitSteps.{joined_assoc, child_joined, joined_none, none_after, visit_of}

-- ---- the entries under one name

led_later : (n : Name) (es : FlatValue) → AllFirst Less n es → led n es ≡ []
led_later n [] h = refl
led_later n (e ∷ es) h = by e.0 h.0
  where
    by : (p : List Name) → IsFirst Less n p → first_under n p e.1 (led n es) ≡ []
    by [] h = elim h [ ]
    by (m ∷ q) h = test (pointwise nat_eq m n) refl
      where
        test : (b : Bool) → pointwise nat_eq m n ≡ b → cond b ((q, e.1) ∷ led n es) [] ≡ []
        test true is = absurd (let same : name_cmp n n ≡ Less = ap (name_cmp n) (sym ((bytes_decides m n).0 is)) ∙ h in let own = name_itself n in cc)
        test false is = refl

led_listed : (n : Name) (es rest : FlatValue) → AllFirst Less n rest → led n (under n es ++ rest) ≡ es
led_listed n [] rest h = led_later n rest h
led_listed n (e ∷ es) rest h = led_step n e.0 e.1 (led n (under n es ++ rest)) ∙ ap (λ r. e ∷ r) (led_listed n es rest h)

drop_listed : (n : Name) (es rest : FlatValue) → drop (length es) (under n es ++ rest) ≡ rest
drop_listed n [] rest = refl
drop_listed n (e ∷ es) rest = drop_listed n es rest

-- lists with the same entries
parts : (p q : List Name) (s r : Standing NodeValue) (es fs : FlatValue) → (p, s) ∷ es ≡ (q, r) ∷ fs → (p ≡ q) × (s ≡ r) × (es ≡ fs)
parts p q s r es fs h =
    let first : ◌≡◌ {A = List Name × Standing NodeValue} (p, s) (q, r) = cc in
    let rest : es ≡ fs = cc in
    (ap (λ e. e.0) first, ap (λ e. e.1) first, rest)

-- ---- the children so far, and the entries that are left

-- what is left of a tree
pub record Left (made : DirectoryValue) (tops : List (List ℕ)) (rest : FlatValue) (t : Tree NodeValue) : Type 0 where
  pub tree : Tree NodeValue
  pub list : IsListOf rest tree
  pub directory : with_children made (directory_of tree) ≡ directory_of t
  pub tops_left : tops ++ tops_below tree ≡ tops_below t

pub record Lists (made : DirectoryValue) (tops : List (List ℕ)) (rest all : FlatValue) : Type 0 where
  pub left : (t : Tree NodeValue) → IsListOf all t → Left made tops rest t

pub lists_first : (all : FlatValue) → Lists no_children [] all all
lists_first all = record { left = λ t h. record { tree = t; list = h; directory = refl; tops_left = refl } }

pub lists_same : {made other : DirectoryValue} {tops others : List (List ℕ)} {rest all : FlatValue} → other ≡ made → others ≡ tops → Lists made tops rest all → Lists other others rest all
lists_same {made} {other} {tops} {others} {rest} {all} d e h = subst (λ m. Lists m others rest all) (sym d) (subst (λ t. Lists made t rest all) (sym e) h)

-- a child more, under a copy of its name
pub lists_named : (was : DirectoryValue) (x : NodeValue) {n m : Name} {other : DirectoryValue} {tops others : List (List ℕ)} {rest all : FlatValue}
    → m ≡ n → other ≡ with_children was (with_child m x no_children) → others ≡ tops → Lists (with_children was (with_child n x no_children)) tops rest all → Lists other others rest all
lists_named was x same d e h = lists_same (d ∙ ap (λ k. with_children was (with_child k x no_children)) same) e h

pub lists_leaf : (made : DirectoryValue) (tops : List (List ℕ)) (n : Name) (p : List Name) (x : NodeValue) (rest all : FlatValue) → Lists made tops ((n ∷ p, a_leaf x) ∷ rest) all
    → Lists (with_children made (with_child n x no_children)) tops rest all
lists_leaf made tops n p x rest all h = record { left = λ t at. (let l = h.left t at in step l.tree t l.list l.directory l.tops_left) }
  where
    step : (u t : Tree NodeValue) → IsListOf ((n ∷ p, a_leaf x) ∷ rest) u → with_children made (directory_of u) ≡ directory_of t → tops ++ tops_below u ≡ tops_below t
        → Left (with_children made (with_child n x no_children)) tops rest t
    step empty t l d e = absurd (let same = l.listing in cc)
    step (folder m below r) t l d e = absurd (let same = (parts (n ∷ p) (m ∷ []) (a_leaf x) a_directory rest (under m (listed below) ++ listed r) l.listing).1 in cc)
    step (leaf m y r) t l d e =
        let same = parts (n ∷ p) (m ∷ []) (a_leaf x) (a_leaf y) rest (listed r) l.listing in
        let path = same.0 in
        let value = same.1 in
        let name : n ≡ m = cc in
        let node : x ≡ y = cc in
        let later = same.2 in
        record {
          tree = r;
          list = record { ordered = l.ordered.1; listing = later };
          directory = joined_assoc made (with_child n x no_children) (directory_of r) ∙ ap (with_children made) (child_joined n x (directory_of r)) ∙ ap (λ k. with_children made (with_child k x (directory_of r))) name
              ∙ ap (λ y. with_children made (with_child m y (directory_of r))) node ∙ d;
          tops_left = e;
        }

-- what is left behind a directory
pub lists_folder : (made : DirectoryValue) (tops below : List (List ℕ)) (d : DigestValue) (n : Name) (p : List Name) (rest all seen : FlatValue) → Lists made tops ((n ∷ p, a_directory) ∷ rest) all
    → seen ≡ led n rest → ((t : Tree NodeValue) → IsListOf seen t → (d ≡ root t) × (below ≡ visited t))
    → Lists (with_children made (with_child n (Dir d) no_children)) (tops ++ below) (drop (length seen) rest) all
lists_folder made tops below d n p rest all seen h led_is visit = record { left = λ t at. (let l = h.left t at in step l.tree t l.list l.directory l.tops_left) }
  where
    step : (u t : Tree NodeValue) → IsListOf ((n ∷ p, a_directory) ∷ rest) u → with_children made (directory_of u) ≡ directory_of t → tops ++ tops_below u ≡ tops_below t
        → Left (with_children made (with_child n (Dir d) no_children)) (tops ++ below) (drop (length seen) rest) t
    step empty t l dir e = absurd (let same = l.listing in cc)
    step (leaf m y r) t l dir e = absurd (let same = (parts (n ∷ p) (m ∷ []) a_directory (a_leaf y) rest (listed r) l.listing).1 in cc)
    step (folder m b r) t l dir e =
        let same = parts (n ∷ p) (m ∷ []) a_directory a_directory rest (under m (listed b) ++ listed r) l.listing in
        let path = same.0 in
        let name : m ≡ n = cc in
        let first = same.2 in
        let later : rest ≡ under n (listed b) ++ listed r = first ∙ ap (λ k. under k (listed b) ++ listed r) name in
        let after : AllFirst Less n (listed r) = subst (λ k. AllFirst Less k (listed r)) name (first_listed m r l.ordered.0) in
        let inside : seen ≡ listed b = led_is ∙ ap (led n) later ∙ led_listed n (listed b) (listed r) after in
        let told = visit b (record { ordered = l.ordered.1; listing = inside }) in
        record {
          tree = r;
          list = record { ordered = l.ordered.2; listing = ap (λ s. drop (length s) rest) inside ∙ ap (drop (length (listed b))) later ∙ drop_listed n (listed b) (listed r) };
          directory = joined_assoc made (with_child n (Dir d) no_children) (directory_of r) ∙ ap (with_children made) (child_joined n (Dir d) (directory_of r))
              ∙ ap (λ k. with_children made (with_child k (Dir d) (directory_of r))) (sym name) ∙ ap (λ e. with_children made (with_child m (Dir e) (directory_of r))) told.0 ∙ dir;
          tops_left = append_assoc tops below (tops_below r) ∙ ap (λ b. tops ++ (b ++ tops_below r)) told.1 ∙ e;
        }

-- a tree is there below the name
pub listed_below : (n : Name) (p : List Name) (rest seen : FlatValue) → (t : Tree NodeValue) × IsListOf ((n ∷ p, a_directory) ∷ rest) t → seen ≡ led n rest → (t : Tree NodeValue) × IsListOf seen t
listed_below n p rest seen w led_is = step w.0 w.1
  where
    step : (u : Tree NodeValue) → IsListOf ((n ∷ p, a_directory) ∷ rest) u → (t : Tree NodeValue) × IsListOf seen t
    step empty l = absurd (let same = l.listing in cc)
    step (leaf m y r) l = absurd (let same = (parts (n ∷ p) (m ∷ []) a_directory (a_leaf y) rest (listed r) l.listing).1 in cc)
    step (folder m b r) l =
        let same = parts (n ∷ p) (m ∷ []) a_directory a_directory rest (under m (listed b) ++ listed r) l.listing in
        let path = same.0 in
        let name : m ≡ n = cc in
        let first = same.2 in
        let later : rest ≡ under n (listed b) ++ listed r = first ∙ ap (λ k. under k (listed b) ++ listed r) name in
        let after : AllFirst Less n (listed r) = subst (λ k. AllFirst Less k (listed r)) name (first_listed m r l.ordered.0) in
        (b, record { ordered = l.ordered.1; listing = led_is ∙ ap (led n) later ∙ led_listed n (listed b) (listed r) after })

-- no entry is without names
pub no_root : (s : Standing NodeValue) (rest : FlatValue) (t : Tree NodeValue) → IsListOf (([], s) ∷ rest) t → ⊥
no_root s rest empty l = let same = l.listing in cc
no_root s rest (leaf m y r) l = let same = (parts [] (m ∷ []) s (a_leaf y) rest (listed r) l.listing).0 in cc
no_root s rest (folder m b r) l = let same = (parts [] (m ∷ []) s a_directory rest (under m (listed b) ++ listed r) l.listing).0 in cc

pub lists_end : (made : DirectoryValue) (tops : List (List ℕ)) (all : FlatValue) (t : Tree NodeValue) → Lists made tops [] all → IsListOf all t → (made ≡ directory_of t) × (tops ≡ tops_below t)
lists_end made tops all t h at = (let l = h.left t at in step l.tree l.list l.directory l.tops_left)
  where
    step : (u : Tree NodeValue) → IsListOf [] u → with_children made (directory_of u) ≡ directory_of t → tops ++ tops_below u ≡ tops_below t → (made ≡ directory_of t) × (tops ≡ tops_below t)
    step empty l d e = (sym (joined_none made) ∙ d, sym (none_after tops) ∙ e)
    step (leaf m y r) l d e = absurd (let same = l.listing in cc)
    step (folder m b r) l d e = absurd (let same = l.listing in cc)

pub entries_length : {A : Type 0} (lines : List (Line A (FlatEntry A))) → length (line_entries lines) ≡ length lines
entries_length [] = refl
entries_length (l ∷ lines) = ap suc (entries_length lines)

-- the Directory that is made is that of the tree whose list the entries are
pub visit_of_list : {A E : Type 0} (r : Result (Visited A) E) (es : FlatValue) (made : DirectoryValue) (tops : List (List ℕ)) → Lists made tops [] es
    → IfOk r (λ v. v.root ≡ digest_of (directory_bytes made)) → IfOk r (λ v. items_of v.encodings.items ≡ directory_bytes made ∷ tops)
    → IfOk r (λ v. (t : Tree NodeValue) → IsListOf es t → IsVisitOf t v)
visit_of_list (Ok v) es made tops h root_is tops_is = λ t at. (let ends = lists_end made tops es t h at in visit_of {E = Unit {0}} (Ok v) t made tops ends.0 ends.1 root_is tops_is)
visit_of_list (Err e) es made tops h root_is tops_is = tt

pub lists_rest : {made : DirectoryValue} {tops : List (List ℕ)} {rest other all : FlatValue} → rest ≡ other → Lists made tops rest all → Lists made tops other all
lists_rest {made} {tops} {rest} {other} {all} e h = subst (λ r. Lists made tops r all) e h
