-- What a look-up in a recorded outcome comes to is what stands there in each outcome that was so recorded.
use Rattle.std.proofs.Common.{◌≡◌, ℕ, zero, suc, Bool, true, false, cond, List, [], ◌∷◌, ◌++◌, map, Option, Some, None, refl, ap, sym, ◌∙◌, subst, arith, inl, inr}
use Rattle.std.specs.Prelude.{◌↔◌, option_map, Contains, bytes_eq}
use Rattle.std.proofs.lemmas.Slice.Eq.{bytes_eq-Decides}
use Rattle.std.proofs.lemmas.List.Elements.{Contains-append_right}
use Rattle.blob_digest.specs.Digest.{digest_of, NoClash}
use Rattle.messages.specs.DirectoryRules.{DirectoryValue, IsDirectory}
use Rattle.messages.specs.Directory.{directory_bytes}
use Rattle.messages.specs.Node.{child}
use Rattle.messages.specs.Path.{Overlap, IsApart}
use Rattle.messages.specs.Tree.{TreeValue, IsTree}
use Rattle.actions.specs.declared.outcome.Output.TheVariants as outputs
use Rattle.actions.specs.Outcome as recorded
use Rattle.actions.specs.Outcome.{OutputValue, OutcomeValue, output_node}
use Rattle.actions.specs.OutcomeLookup.{IsFirstChild, NoFault, LooksBelow, StandsOver, LooksIn}
use Rattle.actions.proofs.TreeLookups.{behind, holds_mapped, all_at}
use Rattle.tree.specs.Tree.{Name, Tree, Leaf, file, link, Entry, single, whole, entry_of, below_entry, IsOrderedEntry}
use Rattle.tree.specs.Form.{NodeValue, entry_node, form, directory_of, top, root}
use Rattle.tree.specs.Graft.{HaveApartTargets}
use Rattle.tree.specs.Lookup.{Looked, LooksFrom, AgreesWith}
use Rattle.tree.proofs.Children.{child-directory_of}
use Rattle.tree.proofs.DirectoryBytes.{directory_bytes_injective}
use Rattle.tree.proofs.TreeDigests.{valid_digests, tree_digests}
use Rattle.tree.proofs.OrderLemmas.{entry_ordered}
use Rattle.tree.proofs.LookupLemmas.{ReadsTrees, looks_from, entry_blobs}
use Rattle.verifier.specs.Build.{Outcome, IsTreeOutcome, below_path, output_from, output_at}
use Rattle.verifier.specs.Headline.{IsBlobOfEntry, IsBlobOfOutcome}
use Rattle.verifier.specs.Recorded.{entries_form}

-- ---- what an outcome has below one of its paths

below_own : (p q : List Name) → below_path p (p ++ q) ≡ Some q
below_own [] q = refl
below_own (n ∷ p) q = ap (λ b. cond b (below_path p (p ++ q)) None) ((bytes_eq-Decides n n).1 refl) ∙ below_own p q

-- what is left of a path below another is what the path has behind the other
below_rest : (p r q : List Name) → below_path p r ≡ Some q → r ≡ p ++ q
below_rest [] r q h = cc
below_rest (n ∷ p) [] q h = cc
below_rest (n ∷ p) (m ∷ r) q h = by (bytes_eq n m) refl h (below_rest p r q)
  where
    by : (b : Bool) → bytes_eq n m ≡ b → cond b (below_path p r) None ≡ Some q → (below_path p r ≡ Some q → r ≡ p ++ q) → m ∷ r ≡ n ∷ p ++ q
    by true is h rest = let name = (bytes_eq-Decides n m).0 is in let tail = rest h in λ i. sym name i ∷ tail i
    by false is h rest = cc

-- two beginnings of one path overlap
overlap : (p q r s : List Name) → p ++ q ≡ r ++ s → Overlap p r
overlap [] q [] s e = inl refl
overlap [] q (m ∷ r) s e = inr (inr (m, r, refl))
overlap (n ∷ p) q [] s e = inr (inl (n, p, refl))
overlap (n ∷ p) q (m ∷ r) s e =
    let names : n ≡ m = cc in
    let tails : p ++ q ≡ r ++ s = cc in
    longer names (overlap p q r s tails)
  where
    longer : n ≡ m → Overlap p r → Overlap (n ∷ p) (m ∷ r)
    longer name (inl e) = inl (λ i. name i ∷ e i)
    longer name (inr (inl (k, rest, e))) = inr (inl (k, rest, λ i. name i ∷ e i))
    longer name (inr (inr (k, rest, e))) = inr (inr (k, rest, λ i. sym name i ∷ e i))

none_below : (p r q : List Name) → IsApart p r → below_path p (r ++ q) ≡ None
none_below p r q apart = by (below_path p (r ++ q)) refl
  where
    by : (o : Option (List Name)) → below_path p (r ++ q) ≡ o → below_path p (r ++ q) ≡ None
    by None is = is
    by (Some s) is = absurd (apart (overlap p s r q (sym (below_rest p (r ++ q) s is))))

-- at an output's path followed by more names stands what the output has there
pub output_below : (os : List (List Name × Entry Leaf)) (e : List Name × Entry Leaf) (q : List Name) → HaveApartTargets os → Contains os e → output_at os (e.0 ++ q) ≡ below_entry q (Some e.1)
output_below [] e q apart (k, lt, is) = absurd (omega arith)
output_below (o ∷ os) e q apart (zero, lt, is) =
    ap (λ (x : List Name × Entry Leaf). output_from (below_path x.0 (e.0 ++ q)) x.1 (output_at os (e.0 ++ q))) is ∙ ap (λ r. output_from r e.1 (output_at os (e.0 ++ q))) (below_own e.0 q)
output_below (o ∷ os) e q apart (suc k, lt, is) =
    let inside : Contains os e = (k, omega (arith, lt), is) in
    ap (λ r. output_from r o.1 (output_at os (e.0 ++ q))) (none_below o.0 e.0 q (all_at (λ (x : List Name × Entry Leaf). IsApart o.0 x.0) os e apart.1 inside)) ∙ output_below os e q apart.2 inside

-- and what an outcome has at a path is that
pub output_found : (os : List (List Name × Entry Leaf)) (p : List Name) (e : Entry Leaf) → output_at os p ≡ Some e
    → (x : List Name × Entry Leaf) × Contains os x × (q : List Name) × (p ≡ x.0 ++ q) × (below_entry q (Some x.1) ≡ Some e)
output_found [] p e is = absurd cc
output_found (o ∷ os) p e is = by (below_path o.0 p) refl is (output_found os p e)
  where
    by : (r : Option (List Name)) → below_path o.0 p ≡ r → output_from r o.1 (output_at os p) ≡ Some e
        → (output_at os p ≡ Some e → (x : List Name × Entry Leaf) × Contains os x × (q : List Name) × (p ≡ x.0 ++ q) × (below_entry q (Some x.1) ≡ Some e))
        → (x : List Name × Entry Leaf) × Contains (o ∷ os) x × (q : List Name) × (p ≡ x.0 ++ q) × (below_entry q (Some x.1) ≡ Some e)
    by None at is rest = let h = rest is in (h.0, behind o os h.0 h.1, h.2, h.3, h.4)
    by (Some q) at is rest = (o, (0, omega arith, refl), q, below_rest o.0 p q at, is)

-- ---- the Trees that a source has

-- what a mapped list holds comes from the list
pub mapped_from : {X Y : Type 0} (f : X → Y) (xs : List X) (y : Y) → Contains (map f xs) y → (x : X) × Contains xs x × (f x ≡ y)
mapped_from f [] y (k, lt, e) = absurd (omega arith)
mapped_from f (x ∷ xs) y (zero, lt, e) = (x, (0, omega arith, refl), e)
mapped_from f (x ∷ xs) y (suc k, lt, e) = let h = mapped_from f xs y (k, omega (arith, lt), e) in (h.0, behind x xs h.0 h.1, h.2)

module _ (S : List ℕ → Type 0) (apart : NoClash S) where
  -- a Directory with a tree's digest is the tree's
  pub directory_is : (u : Tree Leaf) (m : DirectoryValue) → IsDirectory m → S (directory_bytes m) → S (top (form u)) → digest_of (directory_bytes m) ≡ root (form u) → m ≡ directory_of (form u)
  directory_is u m valid held own is = directory_bytes_injective m (directory_of (form u)) (valid_digests m valid) (tree_digests u) (apart (directory_bytes m) (top (form u)) held own is)

  -- the Directories of a Tree are among the blobs
  pub record HoldsTree (t : TreeValue) : Type 0 where
    pub valid : IsTree t
    pub held : (m : DirectoryValue) → Contains (t.root ∷ t.children) m → S (directory_bytes m)

  abbrev pub HoldsOutput : OutputValue → Type 0
  HoldsOutput (outputs.File d executable) = Unit {0}
  HoldsOutput (outputs.Link target) = Unit {0}
  HoldsOutput (outputs.Tree t) = HoldsTree t

  pub reads_tree : (t : TreeValue) → HoldsTree t → ReadsTrees S (IsFirstChild t)
  reads_tree t h u m own c =
      let inside : Contains t.children m = subst (λ l. Contains l m) (sym c.stands) (Contains-append_right c.before (m ∷ c.behind) m (0, omega arith, refl)) in
      directory_is u m (all_at IsDirectory t.children m h.valid.children inside) (h.held m (behind t.root t.children m inside)) own c.right

  -- what a look-up below a recorded output comes to is so below each output with its node
  below_tells : (x : OutputValue) (e : Entry Leaf) (q : List Name) (r : Looked) → IsOrderedEntry e → ((b : List ℕ) → IsBlobOfEntry e b → S b) → HoldsOutput x
      → entry_node e ≡ output_node x → LooksBelow x q r → AgreesWith (option_map entry_node (below_entry q (Some e))) r
  below_tells (outputs.File d executable) e [] r ordered own h is look = subst (AgreesWith (Some (entry_node e))) (sym look) (ap (λ z. Some z) is)
  below_tells (outputs.File d executable) (single x) (n ∷ q) r ordered own h is look = subst (AgreesWith None) (sym look) refl
  below_tells (outputs.File d executable) (whole u) (n ∷ q) r ordered own h is look = absurd cc
  below_tells (outputs.Link target) e [] r ordered own h is look = subst (AgreesWith (Some (entry_node e))) (sym look) (ap (λ z. Some z) is)
  below_tells (outputs.Link target) (single x) (n ∷ q) r ordered own h is look = subst (AgreesWith None) (sym look) refl
  below_tells (outputs.Link target) (whole u) (n ∷ q) r ordered own h is look = absurd cc
  below_tells (outputs.Tree t) e [] r ordered own h is look = subst (AgreesWith (Some (entry_node e))) (sym look) (ap (λ z. Some z) is)
  below_tells (outputs.Tree t) (single (file c executable)) (n ∷ q) r ordered own h is look = absurd cc
  below_tells (outputs.Tree t) (single (link target)) (n ∷ q) r ordered own h is look = absurd cc
  below_tells (outputs.Tree t) (whole u) (n ∷ q) r ordered own h is look =
      let digests : root (form u) ≡ digest_of (directory_bytes t.root) = cc in
      let same = directory_is u t.root h.valid.root (h.held t.root (0, omega arith, refl)) (own (top (form u)) (inl refl)) (sym digests) in
      let rest : LooksFrom (IsFirstChild t) NoFault q (option_map entry_node (entry_of n u)) r = subst (λ o. LooksFrom (IsFirstChild t) NoFault q o r) (ap (child n) same ∙ child-directory_of n u ordered) look in
      looks_from (IsFirstChild t) NoFault S (reads_tree t h) q (entry_of n u) r (entry_ordered n u ordered) (λ b k. own b (inr (entry_blobs n u b k))) rest

  -- what a look-up in a recorded outcome comes to is so in each outcome with its nodes
  pub outputs_tell : (o : Outcome) (v : OutcomeValue) → IsTreeOutcome o → ((b : List ℕ) → IsBlobOfOutcome o b → S b) → ((e : List Name × OutputValue) → Contains v.outputs e → HoldsOutput e.1)
      → ((p : List Name) (x : NodeValue) → Contains (recorded.outputs_form v.outputs) (p, x) ↔ Contains (entries_form o.outputs) (p, x))
      → (p : List Name) (r : Looked) → LooksIn v p r → AgreesWith (option_map entry_node (output_at o.outputs p)) r
  outputs_tell o v valid own held same p r (inr (all, none)) = subst (AgreesWith (option_map entry_node (output_at o.outputs p))) (sym none) (by (output_at o.outputs p) refl)
    where
      by : (q : Option (Entry Leaf)) → output_at o.outputs p ≡ q → option_map entry_node (output_at o.outputs p) ≡ None
      by None is = ap (option_map entry_node) is
      by (Some e) is =
          let there = output_found o.outputs p e is in
          let kept = (same there.0.0 (entry_node there.0.1)).1 (holds_mapped (λ (d : List Name × Entry Leaf). (d.0, entry_node d.1)) o.outputs there.0 there.1) in
          let own = mapped_from (λ (d : List Name × OutputValue). (d.0, output_node d.1)) v.outputs (there.0.0, entry_node there.0.1) kept in
          let paths : own.0.0 ≡ there.0.0 = ap (λ (d : List Name × NodeValue). d.0) own.2 in
          absurd (all_at (λ (d : List Name × OutputValue). StandsOver d.0 p → ⊥) v.outputs own.0 all own.1 (there.2, there.3 ∙ ap (λ k. k ++ there.2) (sym paths)))
  outputs_tell o v valid own held same p r (inl (e, inside, q, path, look)) =
      let there = mapped_from (λ (d : List Name × Entry Leaf). (d.0, entry_node d.1)) o.outputs (e.0, output_node e.1) ((same e.0 (output_node e.1)).0 (holds_mapped (λ (d : List Name × OutputValue). (d.0, output_node d.1)) v.outputs e inside)) in
      let paths : there.0.0 ≡ e.0 = ap (λ (d : List Name × NodeValue). d.0) there.2 in
      let nodes : entry_node there.0.1 ≡ output_node e.1 = ap (λ (d : List Name × NodeValue). d.1) there.2 in
      let at : output_at o.outputs p ≡ below_entry q (Some there.0.1) = ap (output_at o.outputs) (path ∙ ap (λ k. k ++ q) (sym paths)) ∙ output_below o.outputs there.0 q valid.apart there.1 in
      subst (λ z. AgreesWith (option_map entry_node z) r) (sym at)
      (below_tells e.1 there.0.1 q r (all_at (λ (d : List Name × Entry Leaf). IsOrderedEntry d.1) o.outputs there.0 valid.outputs there.1) (λ b k. own b (there.0, there.1, k)) (held e inside) nodes look)
