-- Two Directories side by side, child by child, up to the first name at which they are not the same.
use Rattle.std.proofs.Common.{◌≡◌, ◌≢◌, List, [], ◌∷◌, ◌++◌, refl, ap, sym, ◌∙◌, subst, append_assoc, false, cond}
use Rattle.std.specs.Prelude.{Option, Some, None}
use Rattle.std.specs.List.{AllByRecursion}
use Rattle.std.specs.Ordering.{eq_by_cmp, is_eq}
use Rattle.std.specs.declared.cmp.Ordering.TheVariants.{Less}
use Rattle.messages.specs.declared.node.Node.TheVariants.{Dir}
use Rattle.messages.specs.DirectoryRules.{DirectoryValue}
use Rattle.messages.specs.Node.{child}
use Rattle.tree.specs.declared.difference.Unlike.{Unlike}
use Rattle.tree.specs.declared.difference.Unlike.TheVariants.{OnlyRecorded, OnlyGrafted, Directories, Others}
use Rattle.tree.specs.declared.difference.FirstName.{FirstName}
use Rattle.tree.specs.Tree.{Name, name_cmp, IsBelowAll, IsOrdered}
use Rattle.tree.specs.Form.{NodeValue, directory_of}
use Rattle.tree.specs.Unfolding.{leaves, AreChildren}
use Rattle.tree.specs.Difference.{child_of}
use Rattle.tree.specs.Comparing.{IsUnlike, IsFirst}
use Rattle.tree.proofs.Children.{child-with_child, child-below, same_name}
use Rattle.tree.proofs.TreeLemmas.{name_itself, apart_cmp, below_trans}

-- ---- the child of a name, in a list of children

unfoldable find_in : Name → List (Name × NodeValue) → Option NodeValue
find_in k [] = None
find_in k (e ∷ es) = cond (eq_by_cmp name_cmp k e.0) (Some e.1) (find_in k es)

child_in_list : (k : Name) (es : List (Name × NodeValue)) → IsOrdered (leaves es) → child_of k (directory_of (leaves es)) ≡ find_in k es
unfolding find_in
child_in_list k [] h = refl
child_in_list k (e ∷ es) h =
    child-with_child k e.0 e.1 (directory_of (leaves es)) (λ is. (let same = same_name k e.0 is in rw same (child-below e.0 (leaves es) h.0)))
    ∙ ap (cond (eq_by_cmp name_cmp k e.0) (Some e.1)) (child_in_list k es h.1)

find_first : (n : Name) (x : NodeValue) (es : List (Name × NodeValue)) → find_in n ((n, x) ∷ es) ≡ Some x
unfolding find_in
find_first n x es = ap (λ o. cond (is_eq o) (Some x) (find_in n es)) (name_itself n)

find_below : (k : Name) (es : List (Name × NodeValue)) → IsBelowAll k (leaves es) → find_in k es ≡ None
unfolding find_in
find_below k [] h = refl
find_below k (e ∷ es) h = ap (λ o. cond (is_eq o) (Some e.1) (find_in k es)) h.0 ∙ find_below k es h.1

-- names that all come before one
abbrev AreBefore : List (Name × NodeValue) → Name → Type 0
AreBefore same n = AllByRecursion (λ e. name_cmp e.0 n ≡ Less) same

greater : (n m : Name) → name_cmp m n ≡ Less → is_eq (name_cmp n m) ≡ false
greater n m h = apart_cmp n m (λ e. (let own = name_itself n in let less : name_cmp n n ≡ Less = ap (λ k. name_cmp k n) e ∙ h in cc))

-- a name behind those of the front is found behind it
find_behind : (same : List (Name × NodeValue)) (n : Name) (es : List (Name × NodeValue)) → AreBefore same n → find_in n (same ++ es) ≡ find_in n es
unfolding find_in
find_behind [] n es h = refl
find_behind (e ∷ same) n es h = ap (λ b. cond b (Some e.1) (find_in n (same ++ es))) (greater n e.0 h.0) ∙ find_behind same n es h.1

-- what follows one front or another is found alike
find_same : (same : List (Name × NodeValue)) (k : Name) (cs ds : List (Name × NodeValue)) → find_in k cs ≡ find_in k ds → find_in k (same ++ cs) ≡ find_in k (same ++ ds)
unfolding find_in
find_same [] k cs ds h = h
find_same (e ∷ same) k cs ds h = ap (cond (eq_by_cmp name_cmp k e.0) (Some e.1)) (find_same same k cs ds h)

below_front : (k : Name) (same : List (Name × NodeValue)) (n : Name) (x : NodeValue) (es : List (Name × NodeValue)) → IsBelowAll k (leaves (same ++ (n, x) ∷ es)) → name_cmp k n ≡ Less
below_front k [] n x es h = h.0
below_front k (e ∷ same) n x es h = below_front k same n x es h.1

front_before : (same : List (Name × NodeValue)) (n : Name) (x : NodeValue) (es : List (Name × NodeValue)) → IsOrdered (leaves (same ++ (n, x) ∷ es)) → AreBefore same n
front_before [] n x es h = tt
front_before (e ∷ same) n x es h = (below_front e.0 same n x es h.0, front_before same n x es h.1)

rest_ordered : (same es : List (Name × NodeValue)) → IsOrdered (leaves (same ++ es)) → IsOrdered (leaves es)
rest_ordered [] es h = h
rest_ordered (e ∷ same) es h = rest_ordered same es h.1

-- ---- the first name

unlike_other : (o p : Option NodeValue) (u : Unlike) → IsUnlike o p u → o ≢ p
unlike_other o p OnlyRecorded h = λ e. (let at : ◌≡◌ {A = Option NodeValue} None (Some h.1) = sym h.0 ∙ e ∙ h.2 in cc)
unlike_other o p OnlyGrafted h = λ e. (let at : ◌≡◌ {A = Option NodeValue} (Some h.0) None = sym h.1 ∙ e ∙ h.2 in cc)
unlike_other o p (Directories d f) h = λ e. h.2 (let at : ◌≡◌ {A = Option NodeValue} (Some (Dir d)) (Some (Dir f)) = sym h.0 ∙ e ∙ h.1 in cc)
unlike_other o p Others h = λ e. h.4 (let at : ◌≡◌ {A = Option NodeValue} (Some h.0) (Some h.1) = sym h.2 ∙ e ∙ h.3 in cc)

-- two lists of children with one front: of a graft's Directory g and a recorded one r
pub record SideBySide (g r : DirectoryValue) (cs ds : List (Name × NodeValue)) : Type 0 where
  pub same : List (Name × NodeValue)
  pub grafted : AreChildren (same ++ cs) g
  pub recorded : AreChildren (same ++ ds) r

child_at : (same es : List (Name × NodeValue)) (m : DirectoryValue) (k : Name) → AreChildren (same ++ es) m → child_of k m ≡ find_in k (same ++ es)
child_at same es m k h = ap (child k) (sym h.directory) ∙ child_in_list k (same ++ es) h.ordered

is_first : {A : Type 0} (f : FirstName A) (g r : DirectoryValue) (cs ds : List (Name × NodeValue)) → (h : SideBySide g r cs ds) → AreBefore h.same f.name
    → ((k : Name) → name_cmp k f.name ≡ Less → find_in k cs ≡ None) → ((k : Name) → name_cmp k f.name ≡ Less → find_in k ds ≡ None)
    → IsUnlike (find_in f.name cs) (find_in f.name ds) f.unlike → IsFirst g r f
is_first f g r cs ds h before left right unlike =
    let here = child_at h.same cs g f.name h.grafted ∙ find_behind h.same f.name cs before in
    let there = child_at h.same ds r f.name h.recorded ∙ find_behind h.same f.name ds before in
    let at = subst (λ o. IsUnlike (child_of f.name g) o f.unlike) (sym there) (subst (λ o. IsUnlike o (find_in f.name ds) f.unlike) (sym here) unlike) in
    record {
      name = record {
        same = λ k less. child_at h.same cs g k h.grafted ∙ find_same h.same k cs ds (left k less ∙ sym (right k less)) ∙ sym (child_at h.same ds r k h.recorded);
        other = unlike_other (child_of f.name g) (child_of f.name r) f.unlike at;
      };
      unlike = at;
    }

none_first : (n : Name) (x : NodeValue) (es : List (Name × NodeValue)) → IsOrdered (leaves ((n, x) ∷ es)) → (k : Name) → name_cmp k n ≡ Less → find_in k ((n, x) ∷ es) ≡ None
none_first n x es h k less = find_below k ((n, x) ∷ es) (less, below_trans k n (leaves es) less h.0)

none_later : (n : Name) (es : List (Name × NodeValue)) → IsBelowAll n (leaves es) → (k : Name) → name_cmp k n ≡ Less → find_in k es ≡ None
none_later n es h k less = find_below k es (below_trans k n (leaves es) less h)

pub first_grafted : {A : Type 0} (f : FirstName A) (g r : DirectoryValue) (x : NodeValue) (cs ds : List (Name × NodeValue)) → SideBySide g r ((f.name, x) ∷ cs) ds → IsBelowAll f.name (leaves ds) → f.unlike ≡ OnlyGrafted → IsFirst g r f
first_grafted f g r x cs ds h later is =
    is_first f g r ((f.name, x) ∷ cs) ds h (front_before h.same f.name x cs h.grafted.ordered)
    (none_first f.name x cs (rest_ordered h.same ((f.name, x) ∷ cs) h.grafted.ordered)) (none_later f.name ds later)
    (subst (λ u. IsUnlike (find_in f.name ((f.name, x) ∷ cs)) (find_in f.name ds) u) (sym is) (x, find_first f.name x cs, find_below f.name ds later))

pub first_recorded : {A : Type 0} (f : FirstName A) (g r : DirectoryValue) (y : NodeValue) (cs ds : List (Name × NodeValue)) → SideBySide g r cs ((f.name, y) ∷ ds) → IsBelowAll f.name (leaves cs) → f.unlike ≡ OnlyRecorded → IsFirst g r f
first_recorded f g r y cs ds h later is =
    is_first f g r cs ((f.name, y) ∷ ds) h (front_before h.same f.name y ds h.recorded.ordered)
    (none_later f.name cs later) (none_first f.name y ds (rest_ordered h.same ((f.name, y) ∷ ds) h.recorded.ordered))
    (subst (λ u. IsUnlike (find_in f.name cs) (find_in f.name ((f.name, y) ∷ ds)) u) (sym is) (find_below f.name cs later, y, find_first f.name y ds))

pub first_both : {A : Type 0} (f : FirstName A) (g r : DirectoryValue) (x y : NodeValue) (cs ds : List (Name × NodeValue)) → SideBySide g r ((f.name, x) ∷ cs) ((f.name, y) ∷ ds) → IsUnlike (Some x) (Some y) f.unlike → IsFirst g r f
first_both f g r x y cs ds h unlike =
    is_first f g r ((f.name, x) ∷ cs) ((f.name, y) ∷ ds) h (front_before h.same f.name x cs h.grafted.ordered)
    (none_first f.name x cs (rest_ordered h.same ((f.name, x) ∷ cs) h.grafted.ordered)) (none_first f.name y ds (rest_ordered h.same ((f.name, y) ∷ ds) h.recorded.ordered))
    (subst (λ o. IsUnlike o (find_in f.name ((f.name, y) ∷ ds)) f.unlike) (sym (find_first f.name x cs)) (subst (λ o. IsUnlike (Some x) o f.unlike) (sym (find_first f.name y ds)) unlike))

-- the names behind a greater one
pub later_rest : {g r : DirectoryValue} {cs : List (Name × NodeValue)} (n m : Name) (y : NodeValue) (ds : List (Name × NodeValue)) → SideBySide g r cs ((m, y) ∷ ds) → name_cmp n m ≡ Less → IsBelowAll n (leaves ((m, y) ∷ ds))
later_rest n m y ds h less = (less, below_trans n m (leaves ds) less (rest_ordered h.same ((m, y) ∷ ds) h.recorded.ordered).0)

pub later_own : {g r : DirectoryValue} {ds : List (Name × NodeValue)} (n m : Name) (y : NodeValue) (cs : List (Name × NodeValue)) → SideBySide g r ((m, y) ∷ cs) ds → name_cmp n m ≡ Less → IsBelowAll n (leaves ((m, y) ∷ cs))
later_own n m y cs h less = (less, below_trans n m (leaves cs) less (rest_ordered h.same ((m, y) ∷ cs) h.grafted.ordered).0)

-- ---- step by step

pub side_first : (g r : DirectoryValue) (cs ds : List (Name × NodeValue)) → AreChildren cs g → AreChildren ds r → SideBySide g r cs ds
side_first g r cs ds h k = record { same = []; grafted = h; recorded = k }

pub side_next : (g r : DirectoryValue) (n m : Name) (x y : NodeValue) (cs ds : List (Name × NodeValue)) → SideBySide g r ((n, x) ∷ cs) ((m, y) ∷ ds) → n ≡ m → x ≡ y → SideBySide g r cs ds
side_next g r n m x y cs ds h names nodes =
    let recorded : h.same ++ (m, y) ∷ ds ≡ (h.same ++ (n, x) ∷ []) ++ ds = (λ i. h.same ++ (sym names i, sym nodes i) ∷ ds) ∙ sym (append_assoc h.same ((n, x) ∷ []) ds) in
    record {
      same = h.same ++ (n, x) ∷ [];
      grafted = subst (λ es. AreChildren es g) (sym (append_assoc h.same ((n, x) ∷ []) cs)) h.grafted;
      recorded = subst (λ es. AreChildren es r) recorded h.recorded;
    }
