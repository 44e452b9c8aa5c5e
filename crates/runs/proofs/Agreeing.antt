-- A look-up in an outcome by digests tells what stands in each outcome that it is the form of.
use Rattle.std.proofs.Common.{◌≡◌, ℕ, List, [], ◌∷◌, ◌++◌, Option, Some, None, refl, ap, sym, ◌∙◌, subst, arith, inl, inr}
use Rattle.std.specs.Prelude.{option_map, Contains}
use Rattle.blob_digest.specs.Digest.{digest_of, NoClash}
use Rattle.messages.specs.declared.node.Node.TheVariants.{File, Link, Dir}
use Rattle.messages.specs.Directory.{directory_bytes}
use Rattle.messages.specs.Node.{child}
use Rattle.actions.specs.declared.outcome.Output.TheVariants as outputs
use Rattle.actions.specs.Outcome.{OutputValue, OutcomeValue, output_node}
use Rattle.actions.specs.OutcomeLookup.{IsFirstChild, NoFault, LooksBelow, LooksIn, StandsOver}
use Rattle.actions.proofs.TreeLookups.{holds_mapped, all_at}
use Rattle.tree.specs.Tree.{Name, Leaf, file, link, Entry, single, whole, entry_of, below_entry, IsOrderedEntry}
use Rattle.tree.specs.Form.{NodeValue, entry_node, form, top, root}
use Rattle.tree.specs.Lookup.{Looked, found, LooksFrom, AgreesWith}
use Rattle.tree.proofs.Children.{child-directory_of}
use Rattle.tree.proofs.OrderLemmas.{entry_ordered}
use Rattle.tree.proofs.LookupLemmas.{looks_from, entry_blobs}
use Rattle.verifier.specs.Build.{Outcome, IsTreeOutcome, output_at}
use Rattle.verifier.specs.Headline.{IsBlobOfEntry, IsBlobOfOutcome}
use Rattle.verifier.proofs.OutputLookups.{HoldsOutput, mapped_from, directory_is, reads_tree, output_below, output_found}
use Rattle.runs.specs.Mirrors.{IsFormOf}

agrees : (o : Option NodeValue) (x : NodeValue) (r : Looked) → o ≡ Some x → r ≡ found x → AgreesWith o r
agrees o x r is look = subst (AgreesWith o) (sym look) is

module _ (S : List ℕ → Type 0) (apart : NoClash S) where
  -- what stands below an output stands below each entry with its node
  below_agrees : (x : OutputValue) (e : Entry Leaf) (q : List Name) (r : Looked) → IsOrderedEntry e → ((b : List ℕ) → IsBlobOfEntry e b → S b) → HoldsOutput S apart x
      → entry_node e ≡ output_node x → LooksBelow x q r → AgreesWith (option_map entry_node (below_entry q (Some e))) r
  below_agrees (outputs.File d executable) e [] r ordered own h is look = agrees (Some (entry_node e)) (File d executable) r (ap Some is) look
  below_agrees (outputs.File d executable) (single x) (n ∷ q) r ordered own h is look = subst (AgreesWith None) (sym look) refl
  below_agrees (outputs.File d executable) (whole u) (n ∷ q) r ordered own h is look = absurd cc
  below_agrees (outputs.Link target) e [] r ordered own h is look = agrees (Some (entry_node e)) (Link target) r (ap Some is) look
  below_agrees (outputs.Link target) (single x) (n ∷ q) r ordered own h is look = subst (AgreesWith None) (sym look) refl
  below_agrees (outputs.Link target) (whole u) (n ∷ q) r ordered own h is look = absurd cc
  below_agrees (outputs.Tree t) e [] r ordered own h is look = agrees (Some (entry_node e)) (Dir (digest_of (directory_bytes t.root))) r (ap Some is) look
  below_agrees (outputs.Tree t) (single (file c executable)) (n ∷ q) r ordered own h is look = absurd cc
  below_agrees (outputs.Tree t) (single (link target)) (n ∷ q) r ordered own h is look = absurd cc
  below_agrees (outputs.Tree t) (whole u) (n ∷ q) r ordered own h is look =
      let digests : root (form u) ≡ digest_of (directory_bytes t.root) = cc in
      let same = directory_is S apart u t.root h.valid.root (h.held t.root (0, omega arith, refl)) (own (top (form u)) (inl refl)) (sym digests) in
      let rest : LooksFrom (IsFirstChild t) NoFault q (option_map entry_node (entry_of n u)) r = subst (λ o. LooksFrom (IsFirstChild t) NoFault q o r) (ap (child n) same ∙ child-directory_of n u ordered) look in
      looks_from (IsFirstChild t) NoFault S (reads_tree S apart t h) q (entry_of n u) r (entry_ordered n u ordered) (λ b k. own b (inr (entry_blobs n u b k))) rest

  pub outputs_agree : (o : Outcome) (v : OutcomeValue) → IsTreeOutcome o → ((b : List ℕ) → IsBlobOfOutcome o b → S b) → ((e : List Name × OutputValue) → Contains v.outputs e → HoldsOutput S apart e.1)
      → IsFormOf v o → (p : List Name) (r : Looked) → LooksIn v p r → AgreesWith (option_map entry_node (output_at o.outputs p)) r
  outputs_agree o v valid own held same p r (inl (e, inside, q, path, look)) =
      let there = mapped_from (λ (d : List Name × Entry Leaf). (d.0, entry_node d.1)) o.outputs (e.0, output_node e.1) ((same.outputs e.0 (output_node e.1)).0 (holds_mapped (λ (d : List Name × OutputValue). (d.0, output_node d.1)) v.outputs e inside)) in
      let paths : there.0.0 ≡ e.0 = ap (λ (d : List Name × NodeValue). d.0) there.2 in
      let nodes : entry_node there.0.1 ≡ output_node e.1 = ap (λ (d : List Name × NodeValue). d.1) there.2 in
      let at : output_at o.outputs p ≡ below_entry q (Some there.0.1) = ap (output_at o.outputs) (path ∙ ap (λ r. r ++ q) (sym paths)) ∙ output_below o.outputs there.0 q valid.apart there.1 in
      subst (λ z. AgreesWith (option_map entry_node z) r) (sym at)
      (below_agrees e.1 there.0.1 q r (all_at (λ (d : List Name × Entry Leaf). IsOrderedEntry d.1) o.outputs there.0 valid.outputs there.1) (λ b k. own b (there.0, there.1, k)) (held e inside) nodes look)
  outputs_agree o v valid own held same p r (inr (none, look)) = by (output_at o.outputs p) refl
    where
      by : (z : Option (Entry Leaf)) → output_at o.outputs p ≡ z → AgreesWith (option_map entry_node z) r
      by None is = subst (AgreesWith None) (sym look) refl
      by (Some e) is =
          let x = output_found o.outputs p e is in
          let there = mapped_from (λ (d : List Name × OutputValue). (d.0, output_node d.1)) v.outputs (x.0.0, entry_node x.0.1) ((same.outputs x.0.0 (entry_node x.0.1)).1 (holds_mapped (λ (d : List Name × Entry Leaf). (d.0, entry_node d.1)) o.outputs x.0 x.1)) in
          let paths : there.0.0 ≡ x.0.0 = ap (λ (d : List Name × NodeValue). d.0) there.2 in
          absurd (all_at (λ (d : List Name × OutputValue). ¬ StandsOver d.0 p) v.outputs there.0 none there.1 (x.2, x.3 ∙ ap (λ r. r ++ x.2) (sym paths)))
