-- What stands at an origin in an outcome is held where it is read: a directory is one of the Tree that it lies in.
use Rattle.std.proofs.Common.{◌≡◌, ℕ, List, [], ◌∷◌, ◌++◌, map, Option, Some, None, refl, sym, ◌∙◌, subst, arith, inl, inr}
use Rattle.std.specs.Prelude.{slice_get, Contains}
use Rattle.blob_digest.specs.Digest.{DigestValue, digest_of}
use Rattle.messages.specs.declared.node.Node.TheVariants as nodes
use Rattle.messages.specs.DirectoryRules.{DirectoryValue}
use Rattle.messages.specs.Directory.{directory_bytes}
use Rattle.messages.specs.Node.{child}
use Rattle.messages.specs.Tree.{TreeValue, IsTree, digests_of, child_digests}
use Rattle.actions.specs.declared.outcome.Output.TheVariants.{File, Link, Tree}
use Rattle.actions.specs.Outcome.{OutputValue, OutcomeValue, IsOutcome}
use Rattle.actions.specs.OutcomeLookup.{IsFirstChild, NoFault, LooksBelow, LooksIn, within_output, LiesWithin}
use Rattle.actions.proofs.Once.{within_once}
use Rattle.actions.proofs.TreeLookups.{behind, root_there, first_there, child_named}
use Rattle.plan.specs.Values.{OriginValue, source, output, LineValue}
use Rattle.tree.specs.Tree.{Name}
use Rattle.tree.specs.Form.{NodeValue}
use Rattle.tree.specs.Lookup.{found, LooksFrom}
use Rattle.tree.specs.Merging.{in_source, in_tree, NodeWithin, MergeLines, IsHeldIn, AreHeld}
use Rattle.blob_source.specs.Source.{Blobs}
use Rattle.verifier.specs.Together.{StandsAtOrigin, Resolves}

-- a Tree that is an output is valid
abbrev pub IsValidTree : OutputValue → Type 0
IsValidTree (File digest executable) = Unit {0}
IsValidTree (Link target) = Unit {0}
IsValidTree (Tree t) = IsTree t

pub source_held : (x : NodeValue) → IsHeldIn in_source x
source_held (nodes.File d e) = tt
source_held (nodes.Link l) = tt
source_held (nodes.Dir d) = tt

pub held_push : (xs : MergeLines) (x : List Name × NodeWithin) → AreHeld xs → IsHeldIn x.1.within x.1.node → AreHeld (xs ++ x ∷ [])
held_push [] x h k = (k, tt)
held_push (y ∷ xs) x h k = (h.0, held_push xs x h.1 k)

-- ---- directories of a Tree

module _ (t : TreeValue) (valid : IsTree t) where
  abbrev IsOwn : NodeValue → Type 0
  IsOwn x = (d : DigestValue) → x ≡ nodes.Dir d → Contains (digests_of (map directory_bytes (t.root ∷ t.children))) d

  own_held : (x : NodeValue) → IsOwn x → IsHeldIn (in_tree t) x
  own_held (nodes.File d e) own = tt
  own_held (nodes.Link l) own = tt
  own_held (nodes.Dir d) own = (valid, own d refl)

  own_child : (m : DirectoryValue) → Contains (t.root ∷ t.children) m → (n : Name) (x : NodeValue) → child n m ≡ Some x → IsOwn x
  own_child m here n x is = λ d e. behind (digest_of (directory_bytes t.root)) (child_digests t) d (child_named {A = Unit {0}} t m n x valid here (sym is) d e)

  found_is : {x y : NodeValue} → found x ≡ found y → x ≡ y
  found_is e = cc

  looks_own : (p : List Name) (o : Option NodeValue) (x : NodeValue) → ((y : NodeValue) → o ≡ Some y → IsOwn y) → LooksFrom (IsFirstChild t) NoFault p o (found x) → IsOwn x
  looks_own p None x own h = absurd cc
  looks_own [] (Some y) x own h = subst IsOwn (sym (found_is h)) (own y refl)
  looks_own (n ∷ p) (Some (nodes.File d e)) x own h = absurd cc
  looks_own (n ∷ p) (Some (nodes.Link l)) x own h = absurd cc
  looks_own (n ∷ p) (Some (nodes.Dir d)) x own (inl h) = looks_own p (child n h.0) x (own_child h.0 (first_there t d h.0 h.1) n) h.2
  looks_own (n ∷ p) (Some (nodes.Dir d)) x own (inr h) = elim h.1 [ ]

  pub tree_held : (names : List Name) (x : NodeValue) → LooksBelow (Tree t) names (found x) → IsHeldIn (in_tree t) x
  tree_held [] x h = subst (IsHeldIn (in_tree t)) (sym (found_is h)) (valid, (0, omega arith, refl))
  tree_held (n ∷ names) x h = own_held x (looks_own names (child n t.root) x (own_child t.root (root_there t) n) h)

below_held : (v : OutputValue) → IsValidTree v → (names : List Name) (x : NodeValue) → LooksBelow v names (found x) → IsHeldIn (within_output v) x
below_held (File d e) valid names x h = source_held x
below_held (Link l) valid names x h = source_held x
below_held (Tree t) valid names x h = tree_held t valid names x h

-- ---- origins

pub outcome_held : (o : OutcomeValue) → IsOutcome o → ((e : List Name × OutputValue) → Contains o.outputs e → IsValidTree e.1) → (p : List Name) (x : NodeWithin) → LooksIn o p (found x.node) → LiesWithin o p x.within → IsHeldIn x.within x.node
outcome_held o valid trees p x (inr h) within = absurd (let e = h.1 in cc)
outcome_held o valid trees p x (inl (e, here, names, path, look)) within =
    let same = within_once o p (within_output e.1) x.within valid (e, here, (names, path), refl) within in
    subst (λ w. IsHeldIn w x.node) same (below_held e.1 (trees e here) names x.node look)

-- outcomes whose Trees are valid
pub record AreWithTrees (os : List OutcomeValue) : Type 0 where
  pub valid : (i : ℕ) (o : OutcomeValue) → slice_get os i ≡ Some o → IsOutcome o
  pub trees : (i : ℕ) (o : OutcomeValue) → slice_get os i ≡ Some o → (e : List Name × OutputValue) → Contains o.outputs e → IsValidTree e.1

module _ (B : Blobs) (sources : DigestValue) (os : List OutcomeValue) (all : AreWithTrees os) where
  one_there : (i : ℕ) (o v : OutcomeValue) → slice_get os i ≡ Some o → slice_get os i ≡ Some v → o ≡ v
  one_there i o v h k = let both : ◌≡◌ {A = Option OutcomeValue} (Some o) (Some v) = sym h ∙ k in cc

  pub origin_held : (o : OriginValue) (x : NodeWithin) → StandsAtOrigin B sources (slice_get os) o x → IsHeldIn x.within x.node
  origin_held (source p) x h = subst (λ w. IsHeldIn w x.node) (sym h.within) (source_held x.node)
  origin_held (output i p) x h =
      let v = h.node.0 in
      outcome_held v (all.valid i v h.node.1) (all.trees i v h.node.1) p x h.node.2 (subst (λ o. LiesWithin o p x.within) (one_there i h.within.0 v h.within.1 h.node.1) h.within.2)

  pub resolves_held : (ls : List LineValue) (xs : MergeLines) → Resolves B sources (slice_get os) ls xs → AreHeld xs
  resolves_held [] xs h = subst AreHeld (sym h) tt
  resolves_held (l ∷ ls) xs h = subst AreHeld (sym h.4) (origin_held l.origin h.0 h.1, resolves_held ls h.2 h.3)
