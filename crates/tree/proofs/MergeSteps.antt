-- Merging lines name by name, while the source tells more and more.
use Rattle.std.proofs.Common.{◌≡◌, ℕ, List, [], ◌∷◌, ◌++◌, refl, ap, sym, ◌∙◌, subst, append_assoc, inl, inr}
use Rattle.std.specs.Prelude.{Some, None}
use Rattle.blob_digest.specs.Digest.{DigestValue}
use Rattle.messages.specs.declared.node.Node.TheVariants.{Dir}
use Rattle.messages.specs.DirectoryRules.{DirectoryValue}
use Rattle.blob_source.specs.Source.{Blobs, Grows}
use Rattle.tree.specs.Tree.{Name, Tree, empty, leaf, folder, Entry, single, whole}
use Rattle.tree.specs.Form.{NodeValue, no_children, with_child, directory_of, root}
use Rattle.tree.specs.Folded.{tops_below, visited}
use Rattle.tree.specs.Visiting.{with_children}
use Rattle.tree.specs.Stage.{Stage, ◌and_then◌}
use Rattle.tree.specs.Merging.{NodeWithin, MergeLines, MergeFault, conflict, line_opened, opened, CanMeet, met, lone, stands_or, entry_merged, each_name}
use Rattle.tree.proofs.VisitSteps.{none_after, joined_assoc, joined_none, child_joined}

-- ---- names that are left

module _ (at : Blobs → Name → MergeLines → Stage MergeFault (Entry NodeValue)) where
  -- whatever is told later, what the names that are left come to ends what all come to
  pub record MergesOn (B : Blobs) (made : DirectoryValue) (tops : List (List ℕ)) (rest all : List (Name × MergeLines)) : Type 0 where
    pub passes : (later : Blobs) → Grows B later → (t : Tree NodeValue) → (each_name (at later) rest).passes t
        → (u : Tree NodeValue) × (each_name (at later) all).passes u × (with_children made (directory_of t) ≡ directory_of u) × (tops ++ tops_below t ≡ tops_below u)
    pub fails : (later : Blobs) → Grows B later → (f : MergeFault) → (each_name (at later) rest).fails f → (each_name (at later) all).fails f

  pub merges_first : (B : Blobs) (all : List (Name × MergeLines)) → MergesOn B no_children [] all all
  merges_first B all = record { passes = λ later g t h. (t, h, refl, refl); fails = λ later g f h. h }

  module _ {B C : Blobs} (n : Name) (given : MergeLines) (rest all : List (Name × MergeLines)) (made : DirectoryValue) (tops : List (List ℕ)) (grows : Grows B C) (old : MergesOn B made tops ((n, given) ∷ rest) all) where
    later_too : (later : Blobs) → Grows C later → Grows B later
    later_too later g = λ e b h. g e b (grows e b h)

    pub merges_leaf : (x : NodeValue) → ((later : Blobs) → Grows C later → (at later n given).passes (single x)) → MergesOn C (with_children made (with_child n x no_children)) tops rest all
    unfolding ◌and_then◌
    merges_leaf x here = record {
      passes = λ later g t h.
          let r = old.passes later (later_too later g) (leaf n x t) (single x, here later g, (t, h, refl)) in
          (r.0, r.1, joined_assoc made (with_child n x no_children) (directory_of t) ∙ ap (with_children made) (child_joined n x (directory_of t)) ∙ r.2, r.3);
      fails = λ later g f h. old.fails later (later_too later g) f (inr (single x, here later g, inl h));
    }

    pub merges_folder : (u : Tree NodeValue) (d : DigestValue) (below : List (List ℕ)) → d ≡ root u → below ≡ visited u → ((later : Blobs) → Grows C later → (at later n given).passes (whole u))
        → MergesOn C (with_children made (with_child n (Dir d) no_children)) (tops ++ below) rest all
    unfolding ◌and_then◌
    merges_folder u d below digest visits here = record {
      passes = λ later g t h.
          let r = old.passes later (later_too later g) (folder n u t) (whole u, here later g, (t, h, refl)) in (
            r.0,
            r.1,
            joined_assoc made (with_child n (Dir d) no_children) (directory_of t) ∙ ap (with_children made) (child_joined n (Dir d) (directory_of t)) ∙ ap (λ e. with_children made (with_child n (Dir e) (directory_of t))) digest ∙ r.2,
            append_assoc tops below (tops_below t) ∙ ap (λ b. tops ++ (b ++ tops_below t)) visits ∙ r.3,
          );
      fails = λ later g f h. old.fails later (later_too later g) f (inr (whole u, here later g, inl h));
    }

    pub merges_fault : (f : MergeFault) → (at C n given).fails f → (each_name (at C) all).fails f
    unfolding ◌and_then◌
    merges_fault f h = old.fails C grows f (inl h)

  pub merges_end : (B : Blobs) (made : DirectoryValue) (tops : List (List ℕ)) (all : List (Name × MergeLines)) → MergesOn B made tops [] all
      → (u : Tree NodeValue) × (each_name (at B) all).passes u × (made ≡ directory_of u) × (tops ≡ tops_below u)
  merges_end B made tops all h =
      let r = h.passes B (λ e b q. q) empty refl in
      (r.0, r.1, sym (joined_none made) ∙ r.2, sym (none_after tops) ∙ r.3)

-- ---- what the lines of one name come to

module _ (B : Blobs) (below : MergeLines → Stage MergeFault (Tree NodeValue)) (deeper : ℕ) (path : List Name) (ls : MergeLines) where
  pub lone_stands : (x : NodeValue) → lone ls ≡ Some x → (entry_merged B below deeper path ls).passes (single x)
  lone_stands x is = subst (λ o. (stands_or o (met B below deeper path ls)).passes (single x)) (sym is) refl

  pub comes_below : (new : MergeLines) (t : Tree NodeValue) → CanMeet deeper ls → (opened B ls).passes new → (below new).passes t → (met B below deeper path ls).passes (whole t)
  unfolding ◌and_then◌
  comes_below new t can read rest = (tt, can, (new, read, (t, rest, refl)))

  pub meets : lone ls ≡ None → (new : MergeLines) (t : Tree NodeValue) → CanMeet deeper ls → (opened B ls).passes new → (below new).passes t → (entry_merged B below deeper path ls).passes (whole t)
  meets none new t can read rest = subst (λ o. (stands_or o (met B below deeper path ls)).passes (whole t)) (sym none) (comes_below new t can read rest)

  pub conflicts : (CanMeet deeper ls → ⊥) → (met B below deeper path ls).fails (conflict path)
  unfolding ◌and_then◌
  conflicts cannot = inl (cannot, refl)

  pub fails_opening : (f : MergeFault) → CanMeet deeper ls → (opened B ls).fails f → (met B below deeper path ls).fails f
  unfolding ◌and_then◌
  fails_opening f can h = inr (tt, can, inl h)

  pub fails_below : (f : MergeFault) (new : MergeLines) → CanMeet deeper ls → (opened B ls).passes new → (below new).fails f → (met B below deeper path ls).fails f
  unfolding ◌and_then◌
  fails_below f new can read h = inr (tt, can, inr (new, read, inl h))

-- ---- lines that are opened, one after another

pub record OpensOn (B : Blobs) (made rest all : MergeLines) : Type 0 where
  pub passes : (later : Blobs) → Grows B later → (new : MergeLines) → (opened later rest).passes new → (opened later all).passes (made ++ new)
  pub fails : (later : Blobs) → Grows B later → (f : MergeFault) → (opened later rest).fails f → (opened later all).fails f

pub opens_first : (B : Blobs) (all : MergeLines) → OpensOn B [] all all
opens_first B all = record { passes = λ later g new h. h; fails = λ later g f h. h }

module _ {B C : Blobs} (l : List Name × NodeWithin) (rest all made : MergeLines) (grows : Grows B C) (old : OpensOn B made (l ∷ rest) all) where
  pub opens_line : (new : MergeLines) → ((later : Blobs) → Grows C later → (line_opened later l.0 l.1).passes new) → OpensOn C (made ++ new) rest all
  unfolding ◌and_then◌
  opens_line new here = record {
    passes = λ later g r h.
        subst (opened later all).passes (sym (append_assoc made new r)) (old.passes later (λ e b q. g e b (grows e b q)) (new ++ r) (new, here later g, (r, h, refl)));
    fails = λ later g f h. old.fails later (λ e b q. g e b (grows e b q)) f (inr (new, here later g, inl h));
  }

  pub opens_fault : (f : MergeFault) → (line_opened C l.0 l.1).fails f → (opened C all).fails f
  unfolding ◌and_then◌
  opens_fault f h = old.fails C grows f (inl h)

pub opens_end : (B : Blobs) (made all : MergeLines) → OpensOn B made [] all → (opened B all).passes made
opens_end B made all h = subst (opened B all).passes (none_after made) (h.passes B (λ e b q. q) [] refl)
