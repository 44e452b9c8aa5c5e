-- A set of nodes in an order, seen as the list of its nodes.
use Rattle.std.proofs.Common.{◌≡◌, Bool, true, false, not, ◌&&◌, ◌||◌, List, [], ◌∷◌, map, refl, ap, ◌∙◌, ℕ}
use Rattle.std.specs.declared.cmp.Ordering.{Ordering}
use Rattle.std.specs.declared.cmp.Ordering.TheVariants.{Less, Equal, Greater}
use Rattle.std.specs.Ordering.{nat_cmp, bool_cmp, is_eq, ordering_then, match_ordering}
use Rattle.std.specs.Cmp.Lexicographic.{slice_cmp}
use Rattle.std.specs.Bool.{OnTrue}
use Rattle.std.specs.List.{list_any}
use Rattle.std.specs.BTreeMap.{is_at}
use Rattle.std.specs.BTreeSet.{insert_key}
use Rattle.std.proofs.lemmas.Map.Text.{is_eq-slice_cmp}
use Rattle.std.specs.declared.alloc.Allocator.{Ghosts}
use Rattle.std.specs.declared.vec.Vec.{Vec}
use denote.RattleType.{RattleType}
use mir.Syntax.{Dict}
use Rattle.blob_digest.specs.Digest.{DigestValue, digest_cmp}
use Rattle.messages.specs.Tree.{same_digest}
use Rattle.messages.proofs.DigestSets.{is_eq-digest_cmp}
use Rattle.tree.specs.declared.given.NodeKey.{NodeKey}
use Rattle.tree.specs.declared.given.NodeKey.TheVariants.{File, Link, Dir}
use Rattle.tree.specs.contracts.given.NodeKeyOrd.TheImpl as key_ord
use Rattle.tree.specs.Form.{NodeValue}
use Rattle.tree.specs.Given.{key_value}
use Rattle.tree.specs.Merge.{same_bit}
use Rattle.tree.specs.Merging.{same_node}

-- ---- keys that are equal in their order are the same node

both_equal : (o p : Ordering) → is_eq (ordering_then o p) ≡ (is_eq o && is_eq p)
both_equal Less p = refl
both_equal Equal p = refl
both_equal Greater p = refl

equal_bits : (b c : Bool) → is_eq (bool_cmp b c) ≡ same_bit b c
equal_bits true true = refl
equal_bits true false = refl
equal_bits false true = refl
equal_bits false false = refl

module _ (A' : RattleType) (a : Ghosts A'.Denot) (p q : Dict) where
  of_files : (d e : DigestValue) (b c : Bool) → (key_ord.ghosts A' a p q).cmp (File d b) (File e c) ≡ ordering_then (digest_cmp d e) (bool_cmp b c)
  of_files d e b c = refl

  of_links : (s t : Vec ℕ A'.Denot) → (key_ord.ghosts A' a p q).cmp (Link s) (Link t) ≡ slice_cmp nat_cmp s.items t.items
  of_links s t = refl

  of_directories : (d e : DigestValue) → (key_ord.ghosts A' a p q).cmp (Dir d) (Dir e) ≡ digest_cmp d e
  of_directories d e = refl

  pub equal_keys : (x y : NodeKey A'.Denot) → is_eq ((key_ord.ghosts A' a p q).cmp x y) ≡ same_node (key_value x) (key_value y)
  equal_keys (File d b) (File e c) = ap is_eq (of_files d e b c) ∙ both_equal (digest_cmp d e) (bool_cmp b c) ∙ ap (λ t. t && is_eq (bool_cmp b c)) (is_eq-digest_cmp d e) ∙ ap (λ t. same_digest d e && t) (equal_bits b c)
  equal_keys (File d b) (Link t) = refl
  equal_keys (File d b) (Dir e) = refl
  equal_keys (Link s) (File e c) = refl
  equal_keys (Link s) (Link t) = ap is_eq (of_links s t) ∙ is_eq-slice_cmp s.items t.items
  equal_keys (Link s) (Dir e) = refl
  equal_keys (Dir d) (File e c) = refl
  equal_keys (Dir d) (Link t) = refl
  equal_keys (Dir d) (Dir e) = ap is_eq (of_directories d e) ∙ is_eq-digest_cmp d e

-- ---- a set of keys

or_later : (a b c : Bool) → (a || (b || c)) ≡ ((a || b) || c)
or_later true b c = refl
or_later false b c = refl

or_right : (a b : Bool) → (a || b) ≡ (b || a)
or_right true true = refl
or_right true false = refl
or_right false true = refl
or_right false false = refl

not_there : (b : Bool) → true ≡ not b → b ≡ false
not_there true e = absurd (cc)
not_there false e = refl

module _ {A : Type 0} (cmp : NodeKey A → NodeKey A → Ordering) (ties : (x y : NodeKey A) → is_eq (cmp x y) ≡ same_node (key_value x) (key_value y)) where
  -- it has a key where it has its node
  pub has_key : (k : NodeKey A) (ks : List (NodeKey A)) → list_any (is_at (cmp k)) ks ≡ list_any (same_node (key_value k)) (map key_value ks)
  has_key k [] = refl
  has_key k (x ∷ ks) = ap (λ b. b || list_any (is_at (cmp k)) ks) (ties k x) ∙ ap (λ b. same_node (key_value k) (key_value x) || b) (has_key k ks)

  -- with one more key it has one more node
  more_keys : (k : NodeKey A) (ks : List (NodeKey A)) (y : NodeValue) → list_any (is_at (cmp k)) ks ≡ false
      → list_any (same_node y) (map key_value (insert_key cmp ks k)) ≡ (list_any (same_node y) (map key_value ks) || same_node y (key_value k))
  more_keys k [] y absent = or_right (same_node y (key_value k)) false
  more_keys k (x ∷ ks) y absent = by (cmp k x) absent (more_keys k ks y)
    where
      by : (o : Ordering) → (is_eq o || list_any (is_at (cmp k)) ks) ≡ false
          → (list_any (is_at (cmp k)) ks ≡ false → list_any (same_node y) (map key_value (insert_key cmp ks k)) ≡ (list_any (same_node y) (map key_value ks) || same_node y (key_value k)))
          → list_any (same_node y) (map key_value (match_ordering o (k ∷ x ∷ ks) (x ∷ ks) (x ∷ insert_key cmp ks k))) ≡ ((same_node y (key_value x) || list_any (same_node y) (map key_value ks)) || same_node y (key_value k))
      by Less none ih = or_right (same_node y (key_value k)) (same_node y (key_value x) || list_any (same_node y) (map key_value ks))
      by Equal none ih = absurd (cc)
      by Greater none ih = ap (λ b. same_node y (key_value x) || b) (ih none) ∙ or_later (same_node y (key_value x)) (list_any (same_node y) (map key_value ks)) (same_node y (key_value k))

  pub there : (k : NodeKey A) (ks new : List (NodeKey A)) (nodes : List NodeValue) (node : NodeValue) (taken : Bool) → map key_value ks ≡ nodes → key_value k ≡ node
      → taken ≡ not (list_any (is_at (cmp k)) ks) → new ≡ insert_key cmp ks k
      → OnTrue taken ((y : NodeValue) → list_any (same_node y) (map key_value new) ≡ (list_any (same_node y) nodes || same_node y node))
  there k ks new nodes node false view is absent keys = tt
  there k ks new nodes node true view is absent keys = λ y.
      ap (λ l. list_any (same_node y) (map key_value l)) keys
      ∙ more_keys k ks y (not_there (list_any (is_at (cmp k)) ks) absent)
      ∙ ap (λ l. list_any (same_node y) l || same_node y (key_value k)) view
      ∙ ap (λ n. list_any (same_node y) nodes || same_node y n) is
