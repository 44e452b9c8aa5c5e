-- A look-up finds what stands at a path: in the sources, where the Directories on the way are told, and in an outcome by digests.
use Rattle.std.proofs.Common.{◌≡◌, ◌≢◌, ℕ, zero, suc, ◌&&◌, Bool, true, false, List, [], ◌∷◌, ◌++◌, map, Option, Some, None, refl, ap, sym, ◌∙◌, subst, arith, inl, inr}
use Rattle.std.specs.Prelude.{◌⊎◌, option_map, Contains, nat_eq}
use Rattle.std.specs.Cmp.Lexicographic.{pointwise}
use Rattle.std.specs.List.{AllByRecursion}
use Rattle.blob_digest.specs.Digest.{DigestValue, digest_of, NoClash}
use Rattle.messages.specs.declared.node.Node.TheVariants.{Dir}
use Rattle.messages.specs.DirectoryRules.{DirectoryValue}
use Rattle.messages.specs.Directory.{directory_bytes}
use Rattle.messages.specs.Node.{child}
use Rattle.messages.specs.Tree.{TreeValue, digests_of, child_digests}
use Rattle.actions.specs.declared.outcome.Output.TheVariants as outputs
use Rattle.actions.specs.Outcome.{OutputValue, OutcomeValue, output_node}
use Rattle.actions.specs.OutcomeLookup.{IsFirstChild, NoFault, LooksBelow, LooksIn}
use Rattle.actions.proofs.TreeLookups.{holds_mapped, all_at, child_named, first_there, root_there}
use Rattle.tree.specs.Tree.{Name, Tree, Leaf, Entry, single, whole, entry_of, below_entry, IsOrderedEntry}
use Rattle.tree.specs.Form.{NodeValue, entry_node, form, directory_of, top, root}
use Rattle.blob_source.specs.Source.{Blobs}
use Rattle.blob_source.specs.Told.{TellsDirectory, FailsDirectory}
use Rattle.tree.specs.Lookup.{found, LooksFrom}
use Rattle.tree.proofs.Children.{child-directory_of}
use Rattle.tree.proofs.MergeTrees.{differ}
use Rattle.tree.proofs.LookupLemmas as lookups
use Rattle.tree.proofs.LookupLemmas.{entry_blobs}
use Rattle.tree.proofs.OrderLemmas.{IsOrderedAt, entry_ordered}
use Rattle.verifier.specs.Build.{Outcome, IsTreeOutcome, output_at}
use Rattle.verifier.specs.Headline.{IsBlobOfEntry, IsBlobOfOutcome}
use Rattle.verifier.proofs.OutputLookups.{HoldsTree, HoldsOutput, output_found}
use Rattle.verifier.proofs.SameDigests.{same_digests}
use Rattle.runs.specs.Mirrors.{IsFormOf}
use Rattle.verifier.proofs.OutputLookups.{mapped_from, directory_is, reads_tree}

same_entry : (x y : Entry Leaf) → ◌≡◌ {A = Option (Entry Leaf)} (Some x) (Some y) → x ≡ y
same_entry x y h = cc

-- ---- in the sources

pub way_found : (B : Blobs) (p : List Name) (o : Option (Entry Leaf)) (y : Entry Leaf) → IsOrderedAt o
    → ((q : List Name) (n : Name) (r : List Name) → p ≡ q ++ n ∷ r → (u : Tree Leaf) → below_entry q o ≡ Some (whole u) → TellsDirectory B (root (form u)) (directory_of (form u)))
    → below_entry p o ≡ Some y → LooksFrom (TellsDirectory B) (FailsDirectory B) p (option_map entry_node o) (found (entry_node y))
way_found B [] None y ordered tells is = absurd cc
way_found B (n ∷ p) None y ordered tells is = absurd cc
way_found B [] (Some x) y ordered tells is = ap (λ e. found (entry_node e)) (sym (same_entry x y is))
way_found B (n ∷ p) (Some (single x)) y ordered tells is = absurd cc
way_found B (n ∷ p) (Some (whole t)) y ordered tells is =
    let rest = way_found B p (entry_of n t) y (entry_ordered n t ordered) (λ q m r e u at. tells (n ∷ q) m r (ap (λ k. n ∷ k) e) u at) is in
    inl (directory_of (form t), tells [] n p refl t refl, subst (λ o. LooksFrom (TellsDirectory B) (FailsDirectory B) p o (found (entry_node y))) (sym (child-directory_of n t ordered)) rest)

-- ---- the first child with a digest

digest_or : (a d : DigestValue) → (a ≡ d) ⊎ (a ≢ d)
digest_or a d = by (pointwise nat_eq a.hash d.hash && nat_eq a.size d.size) refl
  where
    by : (b : Bool) → (pointwise nat_eq a.hash d.hash && nat_eq a.size d.size) ≡ b → (a ≡ d) ⊎ (a ≢ d)
    by true is = inl (same_digests a d is)
    by false is = inr (differ a d (sym is))

abbrev FirstWith : DigestValue → List DirectoryValue → Type 0
FirstWith d ms =
    (m : DirectoryValue) × (before : List DirectoryValue) × (later : List DirectoryValue) × (ms ≡ before ++ m ∷ later) × (digest_of (directory_bytes m) ≡ d)
    × AllByRecursion (λ (x : DirectoryValue). digest_of (directory_bytes x) ≢ d) before

not_front : (a d : DigestValue) (ds : List DigestValue) → a ≢ d → Contains (a ∷ ds) d → Contains ds d
not_front a d ds other (zero, lt, is) = absurd (other is)
not_front a d ds other (suc k, lt, is) = (k, omega (arith, lt), is)

first_with : (d : DigestValue) (ms : List DirectoryValue) → Contains (digests_of (map directory_bytes ms)) d → FirstWith d ms
first_with d [] (k, lt, is) = absurd (omega arith)
first_with d (x ∷ ms) c = by (digest_or (digest_of (directory_bytes x)) d) (first_with d ms)
  where
    by : (digest_of (directory_bytes x) ≡ d) ⊎ (digest_of (directory_bytes x) ≢ d) → (Contains (digests_of (map directory_bytes ms)) d → FirstWith d ms) → FirstWith d (x ∷ ms)
    by (inl same) rest = (x, [], ms, refl, same, tt)
    by (inr other) rest = let k = rest (not_front (digest_of (directory_bytes x)) d (digests_of (map directory_bytes ms)) other c) in (k.0, x ∷ k.1, k.2, ap (λ l. x ∷ l) k.3, k.4, (other, k.5))

-- ---- in an outcome by digests

module _ (S : List ℕ → Type 0) (apart : NoClash S) where
  -- a directory below one of a Tree's is a child of the Tree
  named_below : (t : TreeValue) → HoldsTree S apart t → (m : DirectoryValue) → Contains (t.root ∷ t.children) m → (n : Name) (u w : Tree Leaf) → child n m ≡ option_map entry_node (entry_of n u) → entry_of n u ≡ Some (whole w)
      → Contains (child_digests t) (root (form w))
  named_below t h m inside n u w stands there = child_named t m n (Dir (root (form w))) h.valid inside (sym (stands ∙ ap (option_map entry_node) there)) (root (form w)) refl

  in_tree : (t : TreeValue) → HoldsTree S apart t → (p : List Name) (o : Option (Entry Leaf)) (y : Entry Leaf) → IsOrderedAt o → ((b : List ℕ) → lookups.IsBlobOfEntry o b → S b)
      → ((u : Tree Leaf) → o ≡ Some (whole u) → Contains (child_digests t) (root (form u))) → below_entry p o ≡ Some y → LooksFrom (IsFirstChild t) NoFault p (option_map entry_node o) (found (entry_node y))
  in_tree t h [] None y ordered own named is = absurd cc
  in_tree t h (n ∷ p) None y ordered own named is = absurd cc
  in_tree t h [] (Some x) y ordered own named is = ap (λ e. found (entry_node e)) (sym (same_entry x y is))
  in_tree t h (n ∷ p) (Some (single x)) y ordered own named is = absurd cc
  in_tree t h (n ∷ p) (Some (whole u)) y ordered own named is =
      let c = first_with (root (form u)) t.children (named u refl) in
      let first : IsFirstChild t (root (form u)) c.0 = record { before = c.1; behind = c.2; stands = c.3; right = c.4; first = c.5 } in
      let inside = first_there t (root (form u)) c.0 first in
      let same : c.0 ≡ directory_of (form u) = reads_tree S apart t h u c.0 (own (top (form u)) (inl refl)) first in
      let stands : child n c.0 ≡ option_map entry_node (entry_of n u) = ap (child n) same ∙ child-directory_of n u ordered in
      let rest = in_tree t h p (entry_of n u) y (entry_ordered n u ordered) (λ b k. own b (inr (entry_blobs n u b k))) (λ w there. named_below t h c.0 inside n u w stands there) is in
      inl (c.0, first, subst (λ o. LooksFrom (IsFirstChild t) NoFault p o (found (entry_node y))) (sym stands) rest)

  below_found : (x : OutputValue) (e : Entry Leaf) (q : List Name) (y : Entry Leaf) → IsOrderedEntry e → ((b : List ℕ) → IsBlobOfEntry e b → S b) → HoldsOutput S apart x
      → entry_node e ≡ output_node x → below_entry q (Some e) ≡ Some y → LooksBelow x q (found (entry_node y))
  below_found (outputs.File d executable) e [] y ordered own h same is = ap (λ z. found z) (ap entry_node (sym (same_entry e y is)) ∙ same)
  below_found (outputs.File d executable) (single x) (n ∷ q) y ordered own h same is = absurd cc
  below_found (outputs.File d executable) (whole u) (n ∷ q) y ordered own h same is = absurd cc
  below_found (outputs.Link target) e [] y ordered own h same is = ap (λ z. found z) (ap entry_node (sym (same_entry e y is)) ∙ same)
  below_found (outputs.Link target) (single x) (n ∷ q) y ordered own h same is = absurd cc
  below_found (outputs.Link target) (whole u) (n ∷ q) y ordered own h same is = absurd cc
  below_found (outputs.Tree t) e [] y ordered own h same is = ap (λ z. found z) (ap entry_node (sym (same_entry e y is)) ∙ same)
  below_found (outputs.Tree t) (single x) (n ∷ q) y ordered own h same is = absurd cc
  below_found (outputs.Tree t) (whole u) (n ∷ q) y ordered own h same is =
      let digests : root (form u) ≡ digest_of (directory_bytes t.root) = cc in
      let top_is = directory_is S apart u t.root h.valid.root (h.held t.root (0, omega arith, refl)) (own (top (form u)) (inl refl)) (sym digests) in
      let stands : child n t.root ≡ option_map entry_node (entry_of n u) = ap (child n) top_is ∙ child-directory_of n u ordered in
      let rest = in_tree t h q (entry_of n u) y (entry_ordered n u ordered) (λ b k. own b (inr (entry_blobs n u b k))) (λ w there. named_below t h t.root (root_there t) n u w stands there) is in
      subst (λ o. LooksFrom (IsFirstChild t) NoFault q o (found (entry_node y))) (sym stands) rest

  -- what stands in an outcome is found in each outcome by digests that is its form
  pub outputs_found : (o : Outcome) (v : OutcomeValue) → IsTreeOutcome o → ((b : List ℕ) → IsBlobOfOutcome o b → S b) → ((e : List Name × OutputValue) → Contains v.outputs e → HoldsOutput S apart e.1)
      → IsFormOf v o → (p : List Name) (y : Entry Leaf) → output_at o.outputs p ≡ Some y → LooksIn v p (found (entry_node y))
  outputs_found o v valid own held same p y is =
      let x = output_found o.outputs p y is in
      let there = mapped_from (λ (d : List Name × OutputValue). (d.0, output_node d.1)) v.outputs (x.0.0, entry_node x.0.1) ((same.outputs x.0.0 (entry_node x.0.1)).1 (holds_mapped (λ (d : List Name × Entry Leaf). (d.0, entry_node d.1)) o.outputs x.0 x.1)) in
      let paths : there.0.0 ≡ x.0.0 = ap (λ (d : List Name × NodeValue). d.0) there.2 in
      let nodes : output_node there.0.1 ≡ entry_node x.0.1 = ap (λ (d : List Name × NodeValue). d.1) there.2 in
      inl (
        there.0,
        there.1,
        x.2,
        x.3 ∙ ap (λ r. r ++ x.2) (sym paths),
        below_found there.0.1 x.0.1 x.2 y (all_at (λ (d : List Name × Entry Leaf). IsOrderedEntry d.1) o.outputs x.0 valid.outputs x.1) (λ b k. own b (x.0, x.1, k)) (held there.0 there.1) (sym nodes) x.4,
      )
