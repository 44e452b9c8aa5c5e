-- From entries and what they were gathered to, to what stands in the tree.
use Rattle.std.proofs.Common.{◌≡◌, ◌≢◌, ℕ, zero, suc, ◌+◌, ◌<◌, true, false, List, [], ◌∷◌, length, get_or, refl, ap, sym, ◌∙◌, subst, arith, cond, inl, inr}
use Rattle.std.specs.Prelude.{◌↔◌, ◌⊎◌, Contains, IsPermutation}
use Rattle.std.specs.List.{AllByRecursion}
use Rattle.std.specs.Ordering.{is_eq, is_lt, ordering_reverse}
use Rattle.std.specs.Cmp.Lexicographic.{lists_total, nat_list_cmp_total}
use Rattle.std.specs.declared.cmp.Ordering.{Ordering}
use Rattle.std.specs.declared.cmp.Ordering.TheVariants.{Less, Equal, Greater}
use Rattle.std.proofs.lemmas.Cmp.{tied_itself}
use Rattle.std.proofs.lemmas.List.Sorted.{ranks_by, sorted_far, Contains-permutation, IsPermutation-sym}
use Rattle.std.proofs.lemmas.Map.Lookups.{exact_bytes}
use Rattle.blob_digest.specs.Digest.{DigestValue}
use Rattle.messages.specs.Path.{IsPath, parts_of, path_text, text_cmp}
use Rattle.messages.proofs.Orders.{flipped}
use Rattle.messages.proofs.Paths.{parts_of_path}
use Rattle.action_messages.specs.Ascending.{IsAscendingBy, IsSortedByText}
use Rattle.action_messages.proofs.Pairs.{ByPairs, pairs_permuted, all_permuted}
use Rattle.blob_source.specs.Source.{Blobs}
use Rattle.tree.specs.Tree.{Name, path_cmp, Standing, nothing, a_leaf, a_directory, stands_at}
use Rattle.tree.specs.Form.{NodeValue}
use Rattle.tree.specs.FlatTree.{Ascend, standing_in, FlatValue, IsFlatTree}
use Rattle.tree.specs.Unfolded.{IsUnfolded}
use Rattle.tree.proofs.ByPath.{flat_ascends}
use Rattle.tree.proofs.FlatTrees.{list_maps}
use Rattle.tree.proofs.SortedInsert.{path_same}
use Rattle.worker.specs.Values.{LayoutValue}
use Rattle.worker.specs.Gathering.{AreGathered}
use Rattle.worker.specs.Layout.{IsFileWith, IsLayoutOf}

-- ---- what a list has at a path is what stands there

path_itself : (p : List Name) → path_cmp p p ≡ Equal
path_itself p = tied_itself (lists_total nat_list_cmp_total) p

all_at : {X : Type 0} (P : X → Type 0) (xs : List X) (x : X) → AllByRecursion P xs → Contains xs x → P x
all_at P [] x all (k, lt, at) = absurd (omega (arith, lt))
all_at P (y ∷ xs) x all (zero, lt, at) = subst P at all.0
all_at P (y ∷ xs) x all (suc k, lt, at) = all_at P xs x all.1 (k, omega (arith, lt), at)

stands : (es : FlatValue) (p : List Name) (s : Standing NodeValue) → Ascend es → Contains es (p, s) → standing_in es p ≡ s
stands [] p s up (k, lt, at) = absurd (omega (arith, lt))
stands (e ∷ es) p s up (zero, lt, at) =
    let path : e.0 ≡ p = ap (λ (x : List Name × Standing NodeValue). x.0) at in
    ap (λ o. cond (is_eq o) e.1 (standing_in es p)) (ap (path_cmp p) path ∙ path_itself p) ∙ ap (λ (x : List Name × Standing NodeValue). x.1) at
stands (e ∷ es) p s up (suc k, lt, at) =
    let later : Contains es (p, s) = (k, omega (arith, lt), at) in
    let less : path_cmp e.0 p ≡ Less = all_at (λ x. path_cmp e.0 x.0 ≡ Less) es (p, s) up.0 later in
    let more : path_cmp p e.0 ≡ Greater = (lists_total nat_list_cmp_total).antisymm p e.0 ∙ ap ordering_reverse less in
    ap (λ o. cond (is_eq o) e.1 (standing_in es p)) more ∙ stands es p s up.1 later

there : {X : Type 0} (x y : X) (xs : List X) → Contains xs y → Contains (x ∷ xs) y
there x y xs (k, lt, at) = (suc k, omega (arith, lt), at)

contained : (es : FlatValue) (p : List Name) (s : Standing NodeValue) → s ≢ nothing → standing_in es p ≡ s → Contains es (p, s)
contained [] p s some at = absurd (some (sym at))
contained (e ∷ es) p s some at = by (path_cmp p e.0) refl (λ h. contained es p s some h) at
  where
    by : (o : Ordering) → path_cmp p e.0 ≡ o → (standing_in es p ≡ s → Contains es (p, s)) → cond (is_eq o) e.1 (standing_in es p) ≡ s → Contains (e ∷ es) (p, s)
    by Less c rest h = there e (p, s) es (rest h)
    by Equal c rest h = let path = path_same p e.0 c in (0, omega arith, λ i. (sym path i, h i))
    by Greater c rest h = there e (p, s) es (rest h)

-- ---- what was gathered of entries

record Gathered (B : Blobs) (es : FlatValue) (ps : List (List Name)) (fs : List (List Name × List ℕ)) : Type 1 where
  pub folder_of : (p : List Name) → Contains ps p → Contains es (p, a_directory)
  pub folder_there : (p : List Name) → Contains es (p, a_directory) → Contains ps p
  pub file_of : (p : List Name) (b : List ℕ) → Contains fs (p, b) → (x : NodeValue) × IsFileWith B b (a_leaf x) × Contains es (p, a_leaf x)
  pub file_there : (p : List Name) (x : NodeValue) → Contains es (p, a_leaf x) → (b : List ℕ) × Contains fs (p, b)
  -- what holds of the paths of all entries holds of these
  pub each : (P : List Name → Type 0) → AllByRecursion (λ e. P e.0) es → AllByRecursion P ps × AllByRecursion (λ f. P f.0) fs
  pub apart : Ascend es → ByPairs (λ p q. p ≢ q) ps × ByPairs (λ f g. f.0 ≢ g.0) fs

none_in : {X Y : Type 0} (x : X) → Contains [] x → Y
none_in x (k, lt, is) = absurd (omega (arith, lt))

front_or : {X : Type 0} (y : X) (xs : List X) (x : X) → Contains (y ∷ xs) x → (y ≡ x) ⊎ Contains xs x
front_or y xs x (zero, lt, is) = inl is
front_or y xs x (suc k, lt, is) = inr (k, omega (arith, lt), is)

front : {X : Type 0} (y : X) (xs : List X) (x : X) → y ≡ x → Contains (y ∷ xs) x
front y xs x is = (0, omega arith, is)

all_apart : (p : List Name) (es : FlatValue) → AllByRecursion (λ e. path_cmp p e.0 ≡ Less) es → AllByRecursion (λ e. p ≢ e.0) es
all_apart p [] h = tt
all_apart p (e ∷ es) h = ((λ same. (let own = path_itself p in let less : path_cmp p p ≡ Less = ap (path_cmp p) same ∙ h.0 in cc)), all_apart p es h.1)

module _ (B : Blobs) where
  gathered_folder : (p : List Name) (es : FlatValue) (ps : List (List Name)) (fs : List (List Name × List ℕ)) → Gathered B es ps fs → Gathered B ((p, a_directory) ∷ es) (p ∷ ps) fs
  gathered_folder p es ps fs g = record {
    folder_of = λ q at. elim (front_or p ps q at) [
      | inl same ↦ front (p, a_directory) es (q, a_directory) (ap (λ r. (r, a_directory)) same)
      | inr later ↦ there (p, a_directory) (q, a_directory) es (g.folder_of q later)
    ];
    folder_there = λ q at. elim (front_or (p, a_directory) es (q, a_directory) at) [
      | inl same ↦ front p ps q (ap (λ (e : List Name × Standing NodeValue). e.0) same)
      | inr later ↦ there p q ps (g.folder_there q later)
    ];
    file_of = λ q b at. let f = g.file_of q b at in (f.0, f.1, there (p, a_directory) (q, a_leaf f.0) es f.2);
    file_there = λ q x at. elim (front_or (p, a_directory) es (q, a_leaf x) at) [
      | inl same ↦ let other = ap (λ (e : List Name × Standing NodeValue). e.1) same in cc
      | inr later ↦ g.file_there q x later
    ];
    each = λ P all. let more = g.each P all.1 in ((all.0, more.0), more.1);
    apart = λ up. let more = g.apart up.1 in (((g.each (λ q. p ≢ q) (all_apart p es up.0)).0, more.0), more.1);
  }

  gathered_file : (p : List Name) (x : NodeValue) (b : List ℕ) (es : FlatValue) (ps : List (List Name)) (fs : List (List Name × List ℕ)) → IsFileWith B b (a_leaf x) → Gathered B es ps fs → Gathered B ((p, a_leaf x) ∷ es) ps ((p, b) ∷ fs)
  gathered_file p x b es ps fs file g = record {
    folder_of = λ q at. there (p, a_leaf x) (q, a_directory) es (g.folder_of q at);
    folder_there = λ q at. elim (front_or (p, a_leaf x) es (q, a_directory) at) [
      | inl same ↦ let other = ap (λ (e : List Name × Standing NodeValue). e.1) same in cc
      | inr later ↦ g.folder_there q later
    ];
    file_of = λ q c at. elim (front_or (p, b) fs (q, c) at) [
      | inl same ↦ (x, subst (λ i. IsFileWith B i (a_leaf x)) (ap (λ (f : List Name × List ℕ). f.1) same) file, front (p, a_leaf x) es (q, a_leaf x) (ap (λ (f : List Name × List ℕ). (f.0, a_leaf x)) same))
      | inr later ↦ let f = g.file_of q c later in (f.0, f.1, there (p, a_leaf x) (q, a_leaf f.0) es f.2)
    ];
    file_there = λ q y at. elim (front_or (p, a_leaf x) es (q, a_leaf y) at) [
      | inl same ↦ (b, front (p, b) fs (q, b) (ap (λ (e : List Name × Standing NodeValue). (e.0, b)) same))
      | inr later ↦ let f = g.file_there q y later in (f.0, there (p, b) (q, f.0) fs f.1)
    ];
    each = λ P all. let more = g.each P all.1 in (more.0, (all.0, more.1));
    apart = λ up. let more = g.apart up.1 in (more.0, ((g.each (λ q. p ≢ q) (all_apart p es up.0)).1, more.1));
  }

  gathered : (es : FlatValue) (ps : List (List Name)) (fs : List (List Name × List ℕ)) → AreGathered B es ps fs → Gathered B es ps fs
  gathered [] ps fs h = subst (λ qs. Gathered B [] qs fs) (sym h.0) (subst (Gathered B [] []) (sym h.1) (record {
    folder_of = λ p at. none_in p at;
    folder_there = λ p at. none_in (p, a_directory) at;
    file_of = λ p b at. none_in (p, b) at;
    file_there = λ p x at. none_in (p, a_leaf x) at;
    each = λ P all. (tt, tt);
    apart = λ up. (tt, tt);
  }))
  gathered ((p, nothing) ∷ es) ps fs h = absurd h
  gathered ((p, a_directory) ∷ es) ps fs (rest, is, h) = subst (λ qs. Gathered B ((p, a_directory) ∷ es) qs fs) (sym is) (gathered_folder p es rest fs (gathered es rest fs h))
  gathered ((p, a_leaf x) ∷ es) ps fs (b, file, rest, is, h) = subst (Gathered B ((p, a_leaf x) ∷ es) ps) (sym is) (gathered_file p x b es ps rest file (gathered es ps rest h))

-- ---- the order of texts

module _ {X : Type 0} (path : X → List Name) where
  less_than : (x y : X) → IsPath (path x) → IsPath (path y) → is_lt (text_cmp (path y) (path x)) ≡ false → path x ≢ path y → text_cmp (path x) (path y) ≡ Less
  less_than x y k l up other = by (text_cmp (path x) (path y)) refl
    where
      by : (o : Ordering) → text_cmp (path x) (path y) ≡ o → o ≡ Less
      by Less e = refl
      by Equal e = let texts = exact_bytes (path_text (path x)) (path_text (path y)) e in absurd (other (sym (parts_of_path (path x) k) ∙ ap parts_of texts ∙ parts_of_path (path y) l))
      by Greater e = let below : text_cmp (path y) (path x) ≡ Less = flipped (path_text (path x)) (path_text (path y)) Greater e in let no : true ≡ false = sym (ap is_lt below) ∙ up in absurd cc

  sorted_rest : (x : X) (xs : List X) → IsSortedByText path (x ∷ xs) → IsSortedByText path xs
  sorted_rest x xs h k d lo hi =
      let next : suc k + 1 ≡ suc (k + 1) = omega arith in
      subst (λ (n : ℕ). is_lt (text_cmp (path (get_or (x ∷ xs) n d)) (path (get_or (x ∷ xs) (suc k) d))) ≡ false) next (h (suc k) d (omega arith) (omega (arith, hi)))

  first_before : (x : X) (xs : List X) → IsPath (path x) → AllByRecursion (λ y. IsPath (path y)) xs → ((j : ℕ) (d : X) → j < length xs → is_lt (text_cmp (path (get_or xs j d)) (path x)) ≡ false) → AllByRecursion (λ y. path x ≢ path y) xs
      → AllByRecursion (λ y. text_cmp (path x) (path y) ≡ Less) xs
  first_before x [] k ks up other = tt
  first_before x (y ∷ xs) k ks up other = (less_than x y k ks.0 (up 0 y (omega arith)) other.0, first_before x xs k ks.1 (λ j d lt. up (suc j) d (omega (arith, lt))) other.1)

  ascends : (xs : List X) → AllByRecursion (λ x. IsPath (path x)) xs → IsSortedByText path xs → ByPairs (λ x y. path x ≢ path y) xs → IsAscendingBy (λ x y. text_cmp (path x) (path y)) xs
  ascends [] k s h = tt
  ascends (x ∷ xs) k s h =
      let order = ranks_by nat_list_cmp_total (λ (y : X). path_text (path y)) in
      (first_before x xs k.0 k.1 (λ j d below. sorted_far (λ a b. is_lt (text_cmp (path a) (path b))) order (x ∷ xs) s 0 (suc j) d (omega arith) (omega (arith, below))) h.0, ascends xs k.1 (sorted_rest x xs s) h.1)

-- ---- the layout

no_names : {X : Type 0} → IsPath [] → X
no_names k = let some = k.some in absurd (omega (arith, some))

module _ (B : Blobs) (d : DigestValue) (es : FlatValue) (ps : List (List Name)) (fs : List (List Name × List ℕ)) (told : IsUnfolded B d es) (flat : IsFlatTree es) (all : AreGathered B es ps fs) where
  facts : Gathered B es ps fs
  facts = gathered B es ps fs all

  up : Ascend es
  up = flat_ascends es flat

  paths : AllByRecursion IsPath ps × AllByRecursion (λ f. IsPath f.0) fs
  paths = facts.each IsPath flat.paths

  -- what is listed stands in the tree
  stands_in : (n : Name) (p : List Name) (s : Standing NodeValue) → Contains es (n ∷ p, s) → stands_at told.tree (n ∷ p) ≡ s
  stands_in n p s at = sym (list_maps es told.tree told.list n p) ∙ stands es (n ∷ p) s up at

  listed_in : (n : Name) (p : List Name) (s : Standing NodeValue) → s ≢ nothing → stands_at told.tree (n ∷ p) ≡ s → Contains es (n ∷ p, s)
  listed_in n p s some at = contained es (n ∷ p) s some (list_maps es told.tree told.list n p ∙ at)

  folders_at : (p : List Name) → Contains ps p ↔ ((p ≢ []) × (stands_at told.tree p ≡ a_directory))
  folders_at [] = (λ at. no_names (all_at IsPath ps [] paths.0 at), λ h. absurd (h.0 refl))
  folders_at (n ∷ p) = (
    λ at. ((λ e. cc), stands_in n p a_directory (facts.folder_of (n ∷ p) at)),
    λ h. facts.folder_there (n ∷ p) (listed_in n p a_directory (λ e. cc) h.1),
  )

  files_at : (p : List Name) (b : List ℕ) → Contains fs (p, b) → IsFileWith B b (stands_at told.tree p)
  files_at [] b at = no_names (all_at (λ f. IsPath f.0) fs ([], b) paths.1 at)
  files_at (n ∷ p) b at = let f = facts.file_of (n ∷ p) b at in subst (IsFileWith B b) (sym (stands_in n p (a_leaf f.0) f.2)) f.1

  leaf_at : (p : List Name) (x : NodeValue) → stands_at told.tree p ≡ a_leaf x → (b : List ℕ) × Contains fs (p, b)
  leaf_at [] x at = cc
  leaf_at (n ∷ p) x at = facts.file_there (n ∷ p) x (listed_in n p (a_leaf x) (λ e. cc) at)

  module _ (l : LayoutValue) (folders : IsPermutation ps l.folders) (files : IsPermutation fs l.files) where
    pub laid_out : IsSortedByText (λ p. p) l.folders → IsSortedByText (λ f. f.0) l.files → IsLayoutOf B d l
    laid_out folders_sorted files_sorted = record {
      tree = told.tree;
      ordered = told.list.ordered;
      told = told.told;
      folders = λ p. ((λ at. (folders_at p).0 (Contains-permutation l.folders ps p (IsPermutation-sym ps l.folders folders) at)), λ h. Contains-permutation ps l.folders p folders ((folders_at p).1 h));
      files = λ p b at. files_at p b (Contains-permutation l.files fs (p, b) (IsPermutation-sym fs l.files files) at);
      each_leaf = λ p x at. let f = leaf_at p x at in (f.0, Contains-permutation fs l.files (p, f.0) files f.1);
      folders_ascend = ascends (λ p. p) l.folders (all_permuted IsPath ps l.folders folders paths.0) folders_sorted (pairs_permuted (λ p q. p ≢ q) (λ p q other e. other (sym e)) ps l.folders folders (facts.apart up).0);
      files_ascend = ascends (λ f. f.0) l.files (all_permuted (λ f. IsPath f.0) fs l.files files paths.1) files_sorted (pairs_permuted (λ f g. f.0 ≢ g.0) (λ f g other e. other (sym e)) fs l.files files (facts.apart up).1);
    }
