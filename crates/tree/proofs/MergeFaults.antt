-- A Directory that can't be read where lines meet has its fault under a digest that a source is asked for.
use Rattle.std.proofs.Common.{◌≡◌, ℕ, zero, suc, List, [], ◌∷◌, ◌++◌, subst, inl, inr}
use Rattle.std.specs.Prelude.{Option, Some, None}
use Rattle.blob_digest.specs.Digest.{DigestValue}
use Rattle.messages.specs.declared.node.Node.TheVariants.{File, Link, Dir}
use Rattle.blob_source.specs.Source.{Blobs}
use Rattle.blob_source.specs.Told.{Fault, FailsDirectory}
use Rattle.tree.specs.Tree.{Name, Tree, Entry}
use Rattle.tree.specs.Form.{NodeValue}
use Rattle.tree.specs.Stage.{Stage, ◌and_then◌}
use Rattle.tree.specs.Merging.{WithinValue, in_source, in_tree, NodeWithin, MergeLines, MergeFault, conflict, unreadable, grouped, counted, lone, node_opened, line_opened, opened, met, stands_or, entry_merged, each_name, merged_in, merged}

module _ (B : Blobs) (f : Fault) where
  abbrev IsThere : Type 0
  IsThere = (d : DigestValue) × FailsDirectory B d f

  no_conflict : (path : List Name) → unreadable f ≡ conflict path → ⊥
  no_conflict path is = cc

  at_node : (x : NodeValue) (within : WithinValue) → (node_opened B x within).fails (unreadable f) → IsThere
  unfolding ◌and_then◌
  at_node (File d b) within h = absurd h
  at_node (Link t) within h = absurd h
  at_node (Dir d) in_source (inl (g, fails, is)) = let same : g ≡ f = cc in (d, subst (FailsDirectory B d) same fails)
  at_node (Dir d) (in_tree t) (inl (g, fails, is)) = absurd fails
  at_node (Dir d) within (inr h) = absurd h.2

  at_line : (p : List Name) (g : NodeWithin) → (line_opened B p g).fails (unreadable f) → IsThere
  at_line [] g h = at_node g.node g.within h
  at_line (n ∷ p) g h = absurd h

  at_lines : (ls : MergeLines) → (opened B ls).fails (unreadable f) → IsThere
  unfolding ◌and_then◌
  at_lines [] h = absurd h
  at_lines (l ∷ ls) (inl h) = at_line l.0 l.1 h
  at_lines (l ∷ ls) (inr (new, here, inl h)) = at_lines ls h
  at_lines (l ∷ ls) (inr (new, here, inr h)) = absurd h.2

  at_path : (below : MergeLines → Stage MergeFault (Tree NodeValue)) → ((ls : MergeLines) → (below ls).fails (unreadable f) → IsThere) → (k : ℕ) (path : List Name) (ls : MergeLines) → (met B below k path ls).fails (unreadable f) → IsThere
  unfolding ◌and_then◌
  at_path below known k path ls (inl (cannot, is)) = absurd (no_conflict path is)
  at_path below known k path ls (inr (u, can, inl h)) = at_lines ls h
  at_path below known k path ls (inr (u, can, inr (new, read, inl h))) = known new h
  at_path below known k path ls (inr (u, can, inr (new, read, inr h))) = absurd h.2

  at_entry : (below : MergeLines → Stage MergeFault (Tree NodeValue)) → ((ls : MergeLines) → (below ls).fails (unreadable f) → IsThere) → (k : ℕ) (path : List Name) (ls : MergeLines) → (entry_merged B below k path ls).fails (unreadable f) → IsThere
  at_entry below known k path ls h = by (lone ls) h
    where
      by : (o : Option NodeValue) → (stands_or o (met B below k path ls)).fails (unreadable f) → IsThere
      by (Some x) h = absurd h
      by None h = at_path below known k path ls h

  at_names : {X : Type 0} (at : Name → X → Stage MergeFault (Entry NodeValue)) → ((n : Name) (x : X) → (at n x).fails (unreadable f) → IsThere) → (gs : List (Name × X)) → (each_name at gs).fails (unreadable f) → IsThere
  unfolding ◌and_then◌
  at_names at known [] h = absurd h
  at_names at known (g ∷ gs) (inl h) = known g.0 g.1 h
  at_names at known (g ∷ gs) (inr (E, here, inl h)) = at_names at known gs h
  at_names at known (g ∷ gs) (inr (E, here, inr h)) = absurd h.2

  in_merge : (k : ℕ) (path : List Name) (ls : MergeLines) → (merged_in B k path ls).fails (unreadable f) → IsThere
  in_merge zero path ls h = absurd h
  in_merge (suc k) path ls h =
      at_names (λ n given. entry_merged B (merged_in B k (path ++ n ∷ [])) k (path ++ n ∷ []) (counted [] given))
      (λ n given. at_entry (merged_in B k (path ++ n ∷ [])) (in_merge k (path ++ n ∷ [])) k (path ++ n ∷ []) (counted [] given)) (grouped ls) h

pub unread_in_merge : (B : Blobs) (ls : MergeLines) (f : Fault) → (merged B ls).fails (unreadable f) → (d : DigestValue) × FailsDirectory B d f
unfolding merged
unread_in_merge B ls f h = in_merge B f 64 [] ls h
