-- What a result and a source determine, and what an outcome has at a path.
use Rattle.std.proofs.Common.{◌≡◌, ℕ, zero, suc, List, [], ◌∷◌, ◌++◌, refl, sym, ap, subst, ◌∙◌, inl, inr, Less, arith}
use Rattle.std.specs.Prelude.{Contains, Option, Some, None}
use Rattle.std.specs.List.{AllByRecursion}
use Rattle.std.specs.Cmp.Lexicographic.{nat_list_cmp_total}
use Rattle.blob_digest.specs.Digest.{DigestValue}
use Rattle.messages.specs.declared.node.Node.TheVariants.{File, Link, Dir}
use Rattle.messages.specs.DirectoryRules.{DirectoryValue}
use Rattle.messages.specs.Order.{bytes_cmp}
use Rattle.messages.specs.Path.{Overlap, AreApart, path_text}
use Rattle.messages.specs.Node.{child}
use Rattle.messages.specs.Tree.{TreeValue, IsTree, tree_bytes}
use Rattle.messages.proofs.Orders.{itself}
use Rattle.tree.specs.Form.{NodeValue}
use Rattle.blob_source.specs.Source.{Blobs, IsUnder}
use Rattle.blob_source.specs.Told.{Fault, IsTold}
use Rattle.tree.specs.Lookup.{Looked, LooksFrom}
use Rattle.tree.proofs.LookupOnce.{told_or_fault, fault_once}
use Rattle.tree.proofs.MergeStages.{first_once}
use Rattle.actions.specs.declared.outcome.Output.TheVariants as outputs
use Rattle.action_messages.specs.Ascending.{IsAscendingBy}
use Rattle.action_messages.specs.OutputFile.{OutputFileValue}
use Rattle.action_messages.specs.OutputSymlink.{OutputSymlinkValue}
use Rattle.action_messages.specs.OutputDirectory.{OutputDirectoryValue}
use Rattle.action_messages.specs.ActionResult.{ActionResultValue}
use Rattle.actions.specs.Outcome.{OutputValue, OutcomeValue, IsOutcome, paths_of_outputs}
use Rattle.tree.specs.Merging.{WithinValue}
use Rattle.actions.specs.OutcomeLookup.{IsFirstChild, NoFault, LooksBelow, LooksIn, LiesWithin, within_output, StandsOver}
use Rattle.action_messages.specs.Outputs.{RecordedValue, file, directory, link, files_among, directories_among, links_among, AreOutputs}
use Rattle.actions.specs.Recorded.{StandsFor, StandForAll, IsRecorded, IsFirstTreeFault, IsOutputFault}
use Rattle.action_messages.proofs.Merging.{texts}
use Rattle.actions.proofs.TreeLookups.{all_at, holds_mapped}
use Rattle.actions.proofs.Outcomes.{apart_back}
use Rattle.actions.proofs.TreeBytes.{tree_bytes_injective}

-- ---- one order

not_both : (a b : List ℕ) → bytes_cmp a b ≡ Less → bytes_cmp b a ≡ Less → ⊥
not_both a b h k = let own = nat_list_cmp_total.trans a b a h k in cc (sym own ∙ itself a)

abbrev Behind : List ℕ → List RecordedValue → Type 0
Behind t xs = AllByRecursion (λ u. bytes_cmp t u ≡ Less) (texts xs)

file_behind : (t : List ℕ) (xs : List RecordedValue) (f : OutputFileValue) (rest : List OutputFileValue) → Behind t xs → files_among xs ≡ f ∷ rest → bytes_cmp t (path_text f.path) ≡ Less
file_behind t [] f rest h e = absurd cc
file_behind t (file g ∷ xs) f rest h e = let same : g ≡ f = cc in subst (λ x. bytes_cmp t (path_text x.path) ≡ Less) same h.0
file_behind t (directory d ∷ xs) f rest h e = file_behind t xs f rest h.1 e
file_behind t (link l ∷ xs) f rest h e = file_behind t xs f rest h.1 e

directory_behind : (t : List ℕ) (xs : List RecordedValue) (d : OutputDirectoryValue) (rest : List OutputDirectoryValue) → Behind t xs → directories_among xs ≡ d ∷ rest → bytes_cmp t (path_text d.path) ≡ Less
directory_behind t [] d rest h e = absurd cc
directory_behind t (file f ∷ xs) d rest h e = directory_behind t xs d rest h.1 e
directory_behind t (directory g ∷ xs) d rest h e = let same : g ≡ d = cc in subst (λ x. bytes_cmp t (path_text x.path) ≡ Less) same h.0
directory_behind t (link l ∷ xs) d rest h e = directory_behind t xs d rest h.1 e

link_behind : (t : List ℕ) (xs : List RecordedValue) (l : OutputSymlinkValue) (rest : List OutputSymlinkValue) → Behind t xs → links_among xs ≡ l ∷ rest → bytes_cmp t (path_text l.path) ≡ Less
link_behind t [] l rest h e = absurd cc
link_behind t (file f ∷ xs) l rest h e = link_behind t xs l rest h.1 e
link_behind t (directory d ∷ xs) l rest h e = link_behind t xs l rest h.1 e
link_behind t (link g ∷ xs) l rest h e = let same : g ≡ l = cc in subst (λ x. bytes_cmp t (path_text x.path) ≡ Less) same h.0

same_order : (xs ys : List RecordedValue) → IsAscendingBy bytes_cmp (texts xs) → IsAscendingBy bytes_cmp (texts ys) → files_among xs ≡ files_among ys → directories_among xs ≡ directories_among ys → links_among xs ≡ links_among ys → xs ≡ ys
same_order [] [] up vp f d l = refl
same_order [] (file y ∷ ys) up vp f d l = absurd cc
same_order [] (directory y ∷ ys) up vp f d l = absurd cc
same_order [] (link y ∷ ys) up vp f d l = absurd cc
same_order (file x ∷ xs) [] up vp f d l = absurd cc
same_order (directory x ∷ xs) [] up vp f d l = absurd cc
same_order (link x ∷ xs) [] up vp f d l = absurd cc
same_order (file x ∷ xs) (file y ∷ ys) up vp f d l =
    let same : x ≡ y = cc in
    let tails : files_among xs ≡ files_among ys = cc in
    let rest = same_order xs ys up.1 vp.1 tails d l in
    λ i. file (same i) ∷ rest i
same_order (directory x ∷ xs) (directory y ∷ ys) up vp f d l =
    let same : x ≡ y = cc in
    let tails : directories_among xs ≡ directories_among ys = cc in
    let rest = same_order xs ys up.1 vp.1 f tails l in
    λ i. directory (same i) ∷ rest i
same_order (link x ∷ xs) (link y ∷ ys) up vp f d l =
    let same : x ≡ y = cc in
    let tails : links_among xs ≡ links_among ys = cc in
    let rest = same_order xs ys up.1 vp.1 f d tails in
    λ i. link (same i) ∷ rest i
same_order (file x ∷ xs) (directory y ∷ ys) up vp f d l = absurd (not_both (path_text x.path) (path_text y.path) (directory_behind (path_text x.path) xs y (directories_among ys) up.0 d) (file_behind (path_text y.path) ys x (files_among xs) vp.0 (sym f)))
same_order (file x ∷ xs) (link y ∷ ys) up vp f d l = absurd (not_both (path_text x.path) (path_text y.path) (link_behind (path_text x.path) xs y (links_among ys) up.0 l) (file_behind (path_text y.path) ys x (files_among xs) vp.0 (sym f)))
same_order (directory x ∷ xs) (file y ∷ ys) up vp f d l = absurd (not_both (path_text x.path) (path_text y.path) (file_behind (path_text x.path) xs y (files_among ys) up.0 f) (directory_behind (path_text y.path) ys x (directories_among xs) vp.0 (sym d)))
same_order (directory x ∷ xs) (link y ∷ ys) up vp f d l = absurd (not_both (path_text x.path) (path_text y.path) (link_behind (path_text x.path) xs y (links_among ys) up.0 l) (directory_behind (path_text y.path) ys x (directories_among xs) vp.0 (sym d)))
same_order (link x ∷ xs) (file y ∷ ys) up vp f d l = absurd (not_both (path_text x.path) (path_text y.path) (file_behind (path_text x.path) xs y (files_among ys) up.0 f) (link_behind (path_text y.path) ys x (links_among xs) vp.0 (sym l)))
same_order (link x ∷ xs) (directory y ∷ ys) up vp f d l = absurd (not_both (path_text x.path) (path_text y.path) (directory_behind (path_text x.path) xs y (directories_among ys) up.0 d) (link_behind (path_text y.path) ys x (links_among xs) vp.0 (sym l)))

pub outputs_once : (r : ActionResultValue) (xs ys : List RecordedValue) → AreOutputs r xs → AreOutputs r ys → xs ≡ ys
outputs_once r xs ys h k = same_order xs ys h.ascend k.ascend (h.files ∙ sym k.files) (h.directories ∙ sym k.directories) (h.symlinks ∙ sym k.symlinks)

-- ---- one outcome

under_once : (B : Blobs) (d : DigestValue) (x y : Option (List ℕ)) → IsUnder B d x → IsUnder B d y → x ≡ y
under_once B d x y (inl h) (inl k) = h.1 ∙ sym k.1
under_once B d x y (inl h) (inr k) = absurd (k.0 h.0)
under_once B d x y (inr h) (inl k) = absurd (h.0 k.0)
under_once B d x y (inr h) (inr k) = h.1 ∙ sym k.1

pub tree_once : (B : Blobs) (d : DigestValue) (t u : TreeValue) → IsTold IsTree tree_bytes B d t → IsTold IsTree tree_bytes B d u → t ≡ u
tree_once B d t u h k =
    let same : ◌≡◌ {A = Option (List ℕ)} (Some (tree_bytes t)) (Some (tree_bytes u)) = under_once B d (Some (tree_bytes t)) (Some (tree_bytes u)) h.blob.held k.blob.held in
    tree_bytes_injective t u h.valid k.valid (let bytes : tree_bytes t ≡ tree_bytes u = cc in bytes)

pub stands_once : (B : Blobs) (x : RecordedValue) (v w : OutputValue) → StandsFor B x v → StandsFor B x w → v ≡ w
stands_once B (file f) v w h k = h ∙ sym k
stands_once B (directory d) v w h k = h.2 ∙ ap outputs.Tree (tree_once B d.tree h.0 k.0 h.1 k.1) ∙ sym k.2
stands_once B (link l) v w h k = h ∙ sym k

pub stand_once : (B : Blobs) (xs : List RecordedValue) (es fs : List (List (List ℕ) × OutputValue)) → StandForAll B xs es → StandForAll B xs fs → es ≡ fs
stand_once B [] es fs h k = h ∙ sym k
stand_once B (x ∷ xs) [] fs h k = elim h [ ]
stand_once B (x ∷ xs) (e ∷ es) [] h k = elim k [ ]
stand_once B (x ∷ xs) (e ∷ es) (f ∷ fs) h k =
    let path : e.0 ≡ f.0 = h.0 ∙ sym k.0 in
    let value = stands_once B x e.1 f.1 h.1 k.1 in
    let rest = stand_once B xs es fs h.2 k.2 in
    λ i. (path i, value i) ∷ rest i

pub recorded_once : (B : Blobs) (r : ActionResultValue) (o p : OutcomeValue) → IsRecorded B r o → IsRecorded B r p → o ≡ p
recorded_once B r o p h k =
    let code : o.exit_code ≡ p.exit_code = h.exit_code ∙ sym k.exit_code in
    let one = outputs_once r h.recorded k.recorded h.ordered k.ordered in
    let made = stand_once B k.recorded o.outputs p.outputs (subst (λ xs. StandForAll B xs o.outputs) one h.outputs) k.outputs in
    λ i. record { exit_code = code i; outputs = made i }

pub output_fault_once : (B : Blobs) (x : RecordedValue) (f g : Fault) → IsOutputFault B x f → IsOutputFault B x g → f ≡ g
output_fault_once B (file y) f g h k = elim h [ ]
output_fault_once B (directory d) f g h k = fault_once IsTree tree_bytes B d.tree f g h k
output_fault_once B (link l) f g h k = elim h [ ]

-- an output that stands for something has no fault
pub stands_or_fault : (B : Blobs) (x : RecordedValue) (v : OutputValue) (f : Fault) → StandsFor B x v → IsOutputFault B x f → ⊥
stands_or_fault B (file y) v f h k = k
stands_or_fault B (directory d) v f h k = told_or_fault IsTree tree_bytes B d.tree h.0 f h.1 k
stands_or_fault B (link l) v f h k = k

pub first_fault_once : (B : Blobs) (ds : List OutputDirectoryValue) (f g : Fault) → IsFirstTreeFault B ds f → IsFirstTreeFault B ds g → f ≡ g
first_fault_once B [] f g h k = elim h [ ]
first_fault_once B (d ∷ ds) f g (inl h) (inl k) = fault_once IsTree tree_bytes B d.tree f g h k
first_fault_once B (d ∷ ds) f g (inl h) (inr k) = absurd (told_or_fault IsTree tree_bytes B d.tree k.0 f k.1 h)
first_fault_once B (d ∷ ds) f g (inr h) (inl k) = absurd (told_or_fault IsTree tree_bytes B d.tree h.0 g h.1 k)
first_fault_once B (d ∷ ds) f g (inr h) (inr k) = first_fault_once B ds f g h.2 k.2

told_all : (B : Blobs) (xs : List RecordedValue) (es : List (List (List ℕ) × OutputValue)) (f : Fault) → StandForAll B xs es → IsFirstTreeFault B (directories_among xs) f → ⊥
told_all B [] es f h k = k
told_all B (x ∷ xs) [] f h k = elim h [ ]
told_all B (file x ∷ xs) (e ∷ es) f h k = told_all B xs es f h.2 k
told_all B (link x ∷ xs) (e ∷ es) f h k = told_all B xs es f h.2 k
told_all B (directory x ∷ xs) (e ∷ es) f h (inl k) = told_or_fault IsTree tree_bytes B x.tree h.1.0 f h.1.1 k
told_all B (directory x ∷ xs) (e ∷ es) f h (inr k) = told_all B xs es f h.2 k.2

pub recorded_or_fault : (B : Blobs) (r : ActionResultValue) (o : OutcomeValue) (f : Fault) → IsRecorded B r o → IsFirstTreeFault B r.directories f → ⊥
recorded_or_fault B r o f h k = told_all B h.recorded o.outputs f h.outputs (subst (λ ds. IsFirstTreeFault B ds f) (sym h.ordered.directories) k)

-- ---- one look-up

child_once : (t : TreeValue) (d : DigestValue) (m n : DirectoryValue) → IsFirstChild t d m → IsFirstChild t d n → m ≡ n
child_once t d m n h k = first_once t.children d m n h k

from_once : (t : TreeValue) (p : List (List ℕ)) (o : Option NodeValue) (r s : Looked) → LooksFrom (IsFirstChild t) NoFault p o r → LooksFrom (IsFirstChild t) NoFault p o s → r ≡ s
from_once t p None r s h k = h ∙ sym k
from_once t [] (Some (File d e)) r s h k = h ∙ sym k
from_once t [] (Some (Link l)) r s h k = h ∙ sym k
from_once t [] (Some (Dir d)) r s h k = h ∙ sym k
from_once t (n ∷ p) (Some (File d e)) r s h k = h ∙ sym k
from_once t (n ∷ p) (Some (Link l)) r s h k = h ∙ sym k
from_once t (n ∷ p) (Some (Dir d)) r s (inl h) (inl k) = from_once t p (child n h.0) r s h.2 (subst (λ m. LooksFrom (IsFirstChild t) NoFault p (child n m) s) (child_once t d k.0 h.0 k.1 h.1) k.2)
from_once t (n ∷ p) (Some (Dir d)) r s (inr h) k = elim (h.1) [ ]
from_once t (n ∷ p) (Some (Dir d)) r s h (inr k) = elim (k.1) [ ]

below_once : (x : OutputValue) (p : List (List ℕ)) (r s : Looked) → LooksBelow x p r → LooksBelow x p s → r ≡ s
below_once (outputs.Tree t) [] r s h k = h ∙ sym k
below_once (outputs.Tree t) (n ∷ p) r s h k = from_once t p (child n t.root) r s h k
below_once (outputs.File d e) [] r s h k = h ∙ sym k
below_once (outputs.File d e) (n ∷ p) r s h k = h ∙ sym k
below_once (outputs.Link l) [] r s h k = h ∙ sym k
below_once (outputs.Link l) (n ∷ p) r s h k = h ∙ sym k

longer : (n m : List ℕ) (p q : List (List ℕ)) → n ≡ m → Overlap p q → Overlap (n ∷ p) (m ∷ q)
longer n m p q e (inl same) = inl (λ i. e i ∷ same i)
longer n m p q e (inr (inl under)) = inr (inl (under.0, under.1, (λ i. e i ∷ under.2 i)))
longer n m p q e (inr (inr under)) = inr (inr (under.0, under.1, (λ i. sym e i ∷ under.2 i)))

-- two beginnings of one path overlap
pub beginnings : (a b q r : List (List ℕ)) → a ++ q ≡ b ++ r → Overlap a b
beginnings [] [] q r e = inl refl
beginnings [] (n ∷ b) q r e = inr (inr (n, b, refl))
beginnings (n ∷ a) [] q r e = inr (inl (n, a, refl))
beginnings (n ∷ a) (m ∷ b) q r e =
    let heads : n ≡ m = cc in
    let tails : a ++ q ≡ b ++ r = cc in
    longer n m a b heads (beginnings a b q r tails)

pub same_rest : (a q r : List (List ℕ)) → a ++ q ≡ a ++ r → q ≡ r
same_rest [] q r e = e
same_rest (n ∷ a) q r e = let tails : a ++ q ≡ a ++ r = cc in same_rest a q r tails

pub one_output : (es : List (List (List ℕ) × OutputValue)) (e f : List (List ℕ) × OutputValue) → AreApart (paths_of_outputs es) → Contains es e → Contains es f → Overlap e.0 f.0 → e ≡ f
one_output [] e f apart (k, lt, is) g o = absurd (omega arith)
one_output (x ∷ es) e f apart (zero, lt, is) (zero, mt, at) o = sym is ∙ at
one_output (x ∷ es) e f apart (zero, lt, is) (suc j, mt, at) o =
    absurd (all_at (λ p. Overlap x.0 p → ⊥) (paths_of_outputs es) f.0 apart.0 (holds_mapped (λ d. d.0) es f (j, omega (arith, mt), at)) (subst (λ y. Overlap y.0 f.0) (sym is) o))
one_output (x ∷ es) e f apart (suc k, lt, is) (zero, mt, at) o =
    absurd (apart_back x.0 e.0 (all_at (λ p. Overlap x.0 p → ⊥) (paths_of_outputs es) e.0 apart.0 (holds_mapped (λ d. d.0) es e (k, omega (arith, lt), is))) (subst (λ y. Overlap e.0 y.0) (sym at) o))
one_output (x ∷ es) e f apart (suc k, lt, is) (suc j, mt, at) o = one_output es e f apart.1 (k, omega (arith, lt), is) (j, omega (arith, mt), at) o

pub looked_once : (o : OutcomeValue) (path : List (List ℕ)) (r s : Looked) → IsOutcome o → LooksIn o path r → LooksIn o path s → r ≡ s
looked_once o path r s is (inl h) (inl k) =
    let same = one_output o.outputs h.0 k.0 is.apart h.1 k.1 (beginnings h.0.0 k.0.0 h.2 k.2 (sym h.3 ∙ k.3)) in
    let rest = same_rest h.0.0 h.2 k.2 (sym h.3 ∙ subst (λ (e : List (List ℕ) × OutputValue). path ≡ e.0 ++ k.2) (sym same) k.3) in
    below_once h.0.1 h.2 r s h.4 (subst (λ q. LooksBelow h.0.1 q s) (sym rest) (subst (λ (e : List (List ℕ) × OutputValue). LooksBelow e.1 k.2 s) (sym same) k.4))
looked_once o path r s is (inl h) (inr k) = absurd (all_at (λ e. ¬ StandsOver e.0 path) o.outputs h.0 k.0 h.1 (h.2, h.3))
looked_once o path r s is (inr h) (inl k) = absurd (all_at (λ e. ¬ StandsOver e.0 path) o.outputs k.0 h.0 k.1 (k.2, k.3))
looked_once o path r s is (inr h) (inr k) = h.1 ∙ sym k.1

pub within_once : (o : OutcomeValue) (path : List (List ℕ)) (v w : WithinValue) → IsOutcome o → LiesWithin o path v → LiesWithin o path w → v ≡ w
within_once o path v w is h k =
    let same = one_output o.outputs h.0 k.0 is.apart h.1 k.1 (beginnings h.0.0 k.0.0 h.2.0 k.2.0 (sym h.2.1 ∙ k.2.1)) in
    h.3 ∙ ap (λ (e : List (List ℕ) × OutputValue). within_output e.1) same ∙ sym k.3
