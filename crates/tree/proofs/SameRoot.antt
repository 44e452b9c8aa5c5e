-- Among blobs without a clash, trees with one root are one.
use Rattle.std.proofs.Common.{◌≡◌, ℕ, List, refl, ap, sym, ◌∙◌, true, false, cond, inl, inr}
use Rattle.std.specs.Prelude.{Option, Some, None, option_map}
use Rattle.std.specs.Ordering.{eq_by_cmp}
use Rattle.messages.specs.declared.node.Node.TheVariants.{Dir}
use Rattle.blob_digest.specs.Digest.{DigestValue, digest_of, NoClash}
use Rattle.messages.specs.Node.{child}
use Rattle.tree.specs.Tree.{Name, name_cmp, Tree, empty, leaf, folder, Entry, single, whole, entry_of, Leaf, file, link, IsOrdered}
use Rattle.tree.specs.Form.{leaf_node, entry_node, form, directory_of, top, root, IsContent, IsBlobBelow, IsBlobOf}
use Rattle.tree.proofs.OrderLemmas.{IsOrderedAt, entry_ordered}
use Rattle.tree.proofs.Children.{child-directory_of}
use Rattle.tree.proofs.DirectoryBytes.{directory_bytes_injective}
use Rattle.tree.proofs.TreeDigests.{tree_digests}
use Rattle.tree.proofs.LookupLemmas.{IsBlobOfEntry, entry_blobs}
use Rattle.tree.proofs.SameTree.{same_tree}

module _ (S : List ℕ → Type 0) (apart : NoClash S) where
  same_leaf : (x y : Leaf) → ((b : List ℕ) → IsContent x b → S b) → ((b : List ℕ) → IsContent y b → S b) → leaf_node x ≡ leaf_node y → x ≡ y
  same_leaf (file c e) (file d f) h g is =
      let digests : digest_of c ≡ digest_of d = cc in
      let bits : e ≡ f = cc in
      let contents = apart c d (h c refl) (g d refl) digests in
      λ i. file (contents i) (bits i)
  same_leaf (file c e) (link t) h g is = cc
  same_leaf (link t) (file c e) h g is = cc
  same_leaf (link t) (link u) h g is = cc

  leaf_no_folder : (x : Leaf) (d : DigestValue) → leaf_node x ≡ Dir d → ⊥
  leaf_no_folder (file c e) d is = cc
  leaf_no_folder (link t) d is = cc

  -- the Directories of two trees with one root are one
  same_directory : (t u : Tree Leaf) → S (top (form t)) → S (top (form u)) → root (form t) ≡ root (form u) → directory_of (form t) ≡ directory_of (form u)
  same_directory t u h g is = directory_bytes_injective (directory_of (form t)) (directory_of (form u)) (tree_digests t) (tree_digests u) (apart (top (form t)) (top (form u)) h g is)

  same_by : (t u : Tree Leaf) → IsOrdered t → IsOrdered u → ((b : List ℕ) → IsBlobOf t b → S b) → ((b : List ℕ) → IsBlobOf u b → S b) → root (form t) ≡ root (form u)
      → ((k : Name) (o : Option (Entry Leaf)) → IsOrderedAt o → ((b : List ℕ) → IsBlobOfEntry o b → S b) → option_map entry_node (entry_of k t) ≡ option_map entry_node o → entry_of k t ≡ o)
      → t ≡ u
  same_by t u h g bt bu is each =
      let one = same_directory t u (bt _ (inl refl)) (bu _ (inl refl)) is in
      same_tree t u h g (λ k. each k (entry_of k u) (entry_ordered k u g) (λ b q. bu b (inr (entry_blobs k u b q))) (sym (child-directory_of k t h) ∙ ap (child k) one ∙ child-directory_of k u g))

  at_leaf : (x : Leaf) (o : Option (Entry Leaf)) → ((b : List ℕ) → IsContent x b → S b) → ((b : List ℕ) → IsBlobOfEntry o b → S b) → Some (leaf_node x) ≡ option_map entry_node o → Some (single x) ≡ o
  at_leaf x None h g is = cc
  at_leaf x (Some (single y)) h g is = let nodes : leaf_node x ≡ leaf_node y = cc in ap (λ z. Some (single z)) (same_leaf x y h g nodes)
  at_leaf x (Some (whole v)) h g is = absurd (leaf_no_folder x (root (form v)) (let nodes : leaf_node x ≡ Dir (root (form v)) = cc in nodes))

  at_folder : (t : Tree Leaf) (o : Option (Entry Leaf)) → IsOrderedAt o → ((b : List ℕ) → IsBlobOfEntry o b → S b) → Some (Dir (root (form t))) ≡ option_map entry_node o
      → ((u : Tree Leaf) → IsOrdered u → ((b : List ℕ) → IsBlobOf u b → S b) → root (form t) ≡ root (form u) → t ≡ u) → Some (whole t) ≡ o
  at_folder t None h g is by = cc
  at_folder t (Some (single y)) h g is by = absurd (leaf_no_folder y (root (form t)) (let nodes : leaf_node y ≡ Dir (root (form t)) = cc in nodes))
  at_folder t (Some (whole u)) h g is by = let roots : root (form t) ≡ root (form u) = cc in ap (λ z. Some (whole z)) (by u h g roots)

  -- an entry is told by its node
  same_entry : (t : Tree Leaf) → IsOrdered t → ((b : List ℕ) → IsBlobBelow t b → S b) → (n : Name) (o : Option (Entry Leaf)) → IsOrderedAt o → ((b : List ℕ) → IsBlobOfEntry o b → S b)
      → option_map entry_node (entry_of n t) ≡ option_map entry_node o → entry_of n t ≡ o
  same_entry empty h bt n None g bo = λ is. refl
  same_entry empty h bt n (Some e) g bo = λ is. cc
  same_entry (leaf m x rest) h bt n o g bo =
      elim (eq_by_cmp name_cmp n m) as (λ q. option_map entry_node (cond q (Some (single x)) (entry_of n rest)) ≡ option_map entry_node o → cond q (Some (single x)) (entry_of n rest) ≡ o) [
        | true ↦ λ is. at_leaf x o (λ b q. bt b (inl q)) bo is
        | false ↦ λ is. same_entry rest h.1 (λ b q. bt b (inr q)) n o g bo is
      ]
  same_entry (folder m below rest) h bt n o g bo =
      elim (eq_by_cmp name_cmp n m) as (λ q. option_map entry_node (cond q (Some (whole below)) (entry_of n rest)) ≡ option_map entry_node o → cond q (Some (whole below)) (entry_of n rest) ≡ o) [
        | true ↦ λ is. at_folder below o g bo is (λ u hu bu roots. same_by below u h.1 hu (λ b q. bt b (inl q)) bu roots (λ k p gp bp same. same_entry below h.1 (λ b q. bt b (inl (inr q))) k p gp bp same))
        | false ↦ λ is. same_entry rest h.2 (λ b q. bt b (inr q)) n o g bo is
      ]

  -- trees with one root are one
  pub same_root : (t u : Tree Leaf) → IsOrdered t → IsOrdered u → ((b : List ℕ) → IsBlobOf t b → S b) → ((b : List ℕ) → IsBlobOf u b → S b) → root (form t) ≡ root (form u) → t ≡ u
  same_root t u h g bt bu is = same_by t u h g bt bu is (same_entry t h (λ b q. bt b (inr q)))
