-- Lines of which each has its origin in a source tree and in what steps came to: what they put together by digests is what they put together there.
use Rattle.std.proofs.Common.{◌≡◌, ◌≢◌, ℕ, List, [], ◌∷◌, Option, Some, None, refl, ap, sym, ◌∙◌, subst, inl, inr}
use Rattle.std.specs.Prelude.{option_map, option_and_then}
use Rattle.blob_digest.specs.Digest.{NoClash}
use Rattle.messages.specs.Path.{IsPath}
use Rattle.messages.specs.Directory.{directory_bytes}
use Rattle.blob_source.specs.Source.{Blobs}
use Rattle.actions.specs.declared.outcome.Output.TheVariants as outputs
use Rattle.actions.specs.Outcome.{OutputValue}
use Rattle.actions.specs.OutcomeLookup.{within_output}
use Rattle.plan.specs.Values.{LineValue}
use Rattle.tree.specs.Tree.{Name, Tree, Leaf, Entry, IsOrdered}
use Rattle.tree.specs.Form.{NodeValue, entry_node, form, root}
use Rattle.tree.specs.Lookup.{IsValue}
use Rattle.tree.specs.Merge.{TreeLines, AreMergeable, merge}
use Rattle.tree.specs.MergeAgrees.{GiveNodesOf, IsBlobIn, IsBlobOfTrees, IsBlobOfOne, IsBlobOfEntries, IsOfMerge}
use Rattle.tree.specs.Merging.{NodeWithin, MergeLines, conflict, IsHeldIn, AreHeld, merged}
use Rattle.tree.proofs.MergeTold.{merges_tell}
use Rattle.tree.proofs.MergeTotal.{tells_merge}
use Rattle.tree.proofs.OrderLemmas.{IsOrderedAt}
use Rattle.verifier.specs.Build.{State, origin_at, origins, merge_of}
use Rattle.verifier.proofs.HeldOrigins.{IsValidTree}
use Rattle.verifier.proofs.OutputLookups.{HoldsOutput, mapped_from}
use Rattle.verifier.proofs.Targets.{some_names}

-- ---- outputs whose blobs are concerned

pub valid_tree : {S : List ℕ → Type 0} (apart : NoClash S) (v : OutputValue) → HoldsOutput S apart v → IsValidTree v
valid_tree apart (outputs.File d executable) k = tt
valid_tree apart (outputs.Link target) k = tt
valid_tree apart (outputs.Tree u) k = k.valid

pub tree_blobs : {S : List ℕ → Type 0} (apart : NoClash S) (v : OutputValue) → HoldsOutput S apart v → (b : List ℕ) → IsBlobIn (within_output v) b → S b
tree_blobs apart (outputs.File d executable) k b q = absurd q
tree_blobs apart (outputs.Link target) k b q = absurd q
tree_blobs {S} apart (outputs.Tree u) k b q = let m = mapped_from directory_bytes (u.root ∷ u.children) b q in subst S m.2 (k.held m.0 m.1)

module _ (S : List ℕ → Type 0) where
  -- what is below a node is read where it is held, among the blobs concerned
  pub record IsRead (x : NodeWithin) : Type 0 where
    pub held : IsHeldIn x.within x.node
    pub blobs : (b : List ℕ) → IsBlobIn x.within b → S b

  module _ (t : Tree Leaf) (s : State) where
    -- what stands at the origins of lines is what was looked up there
    pub record LinesTell (ls : List LineValue) (xs : MergeLines) : Type 0 where
      pub entries : TreeLines
      pub are : origins t s ls ≡ Some entries
      pub stand : GiveNodesOf xs entries
      pub held : AreHeld xs
      pub trees : (b : List ℕ) → IsBlobOfTrees xs b → S b
      pub blobs : (b : List ℕ) → IsBlobOfEntries entries b → S b
      pub mergeable : AreMergeable entries

    pub no_lines : LinesTell [] []
    no_lines = record { entries = []; are = refl; stand = tt; held = tt; trees = λ b q. absurd q; blobs = λ b q. absurd q; mergeable = tt }

    pub one_more : (l : LineValue) (x : NodeWithin) (ls : List LineValue) (xs : MergeLines) → IsPath l.target → option_map entry_node (origin_at t s l.origin) ≡ Some x.node → IsOrderedAt (origin_at t s l.origin) → IsRead x
        → ((y : Entry Leaf) → origin_at t s l.origin ≡ Some y → (b : List ℕ) → IsBlobOfOne y b → S b) → LinesTell ls xs → LinesTell (l ∷ ls) ((l.target, x) ∷ xs)
    one_more l x ls xs path told in_order read blobs rest = by (origin_at t s l.origin) refl told in_order
      where
        by : (o : Option (Entry Leaf)) → origin_at t s l.origin ≡ o → option_map entry_node o ≡ Some x.node → IsOrderedAt o → LinesTell (l ∷ ls) ((l.target, x) ∷ xs)
        by None is node ordered = absurd (let none : ◌≡◌ {A = Option NodeValue} None (Some x.node) = node in cc)
        by (Some y) is node ordered =
            let both : ◌≡◌ {A = Option NodeValue} (Some (entry_node y)) (Some x.node) = node in
            let same : entry_node y ≡ x.node = cc in
            let some : l.target ≢ [] = some_names l.target path.some in
            record {
              entries = (l.target, y) ∷ rest.entries;
              are = ap (λ o. option_and_then (λ e. option_map (λ es. (l.target, e) ∷ es) (origins t s ls)) o) is ∙ ap (option_map (λ es. (l.target, y) ∷ es)) rest.are;
              stand = (record { target = refl; node = sym same; ordered = ordered; some = some; few = path.few }, rest.stand);
              held = (read.held, rest.held);
              trees = λ b q. elim q [ inl h ↦ read.blobs b h | inr h ↦ rest.trees b h ];
              blobs = λ b q. elim q [ inl h ↦ blobs y is b h | inr h ↦ rest.blobs b h ];
              mergeable = ((some, ordered), rest.mergeable);
            }

    -- the tree that they put together is there, with the digest of that by digests; and where they conflict there is none
    module _ (apart : NoClash S) (B : Blobs) (values : (b : List ℕ) → IsValue B b → S b) {ls : List LineValue} {xs : MergeLines} (x : LinesTell ls xs) where
      of_lines : NoClash (IsOfMerge B xs x.entries)
      of_lines = λ a b p q is. apart a b (inside a p) (inside b q) is
        where
          inside : (b : List ℕ) → IsOfMerge B xs x.entries b → S b
          inside b (inl v) = values b v
          inside b (inr (inl u)) = x.trees b u
          inside b (inr (inr y)) = x.blobs b y

      pub told_graft : (made : Tree NodeValue) → (merged B xs).passes made → (g : Tree Leaf) × (merge_of t s ls ≡ Some g) × (root (form g) ≡ root made) × IsOrdered g
      told_graft made merges =
          let g = (merges_tell B xs).trees x.entries x.held x.stand of_lines made merges in
          (g.0, ap (option_and_then merge) x.are ∙ (tells_merge x.entries).complete x.mergeable g.0 g.1, g.2, g.1.ordered)

      pub no_graft_told : (p : List Name) → (merged B xs).fails (conflict p) → merge_of t s ls ≡ None
      no_graft_told p fails = ap (option_and_then merge) x.are ∙ by (merge x.entries) refl
        where
          by : (q : Option (Tree Leaf)) → merge x.entries ≡ q → q ≡ None
          by None is = refl
          by (Some g) is = absurd ((merges_tell B xs).conflicts x.entries x.held x.stand of_lines p fails g ((tells_merge x.entries).sound x.mergeable g is))
