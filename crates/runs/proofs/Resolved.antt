-- What the lines of an engine resolve to is what stands at their origins behind each run that the engine mirrors.
use Rattle.std.proofs.Common.{◌≡◌, ℕ, ◌<◌, List, [], ◌∷◌, Option, Some, None, refl, sym, ◌∙◌, subst, inl, inr}
use Rattle.std.specs.Prelude.{option_map, option_and_then, Contains}
use Rattle.std.specs.List.{AllByRecursion}
use Rattle.messages.specs.declared.node.Node.TheVariants.{Dir}
use Rattle.actions.specs.declared.outcome.Output.TheVariants as outputs
use Rattle.actions.specs.Outcome.{OutputValue}
use Rattle.actions.specs.OutcomeLookup.{LooksIn, LiesWithin}
use Rattle.actions.proofs.TreeLookups.{all_at}
use Rattle.plan.specs.Values.{OriginValue, source, output, LineValue}
use Rattle.tree.specs.Tree.{Name, Tree, Leaf, Entry, whole}
use Rattle.tree.specs.Form.{NodeValue, entry_node, form, root}
use Rattle.tree.specs.MergeAgrees.{IsBlobIn, IsBlobOfOne}
use Rattle.tree.specs.Merging.{NodeWithin, MergeLines, conflict, IsHeldIn, merged}
use Rattle.blob_source.specs.Source.{Blobs}
use Rattle.blob_source.specs.Told.{TellsDirectory, FailsDirectory}
use Rattle.tree.specs.Lookup.{Looked, found, LooksFrom, AgreesWith, IsValue}
use Rattle.tree.proofs.LookupLemmas.{looks_from, told_reads}
use Rattle.tree.proofs.OrderLemmas.{IsOrderedAt, ordered_at}
use Rattle.verifier.specs.Build.{Meaning, ActionMeaning, Outcome, output_at, Event, State, outcome_of, origin_at, merge_of}
use Rattle.verifier.proofs.HeldOrigins.{source_held, outcome_held}
use Rattle.verifier.proofs.LinesTold.{valid_tree, tree_blobs, IsRead, LinesTell, no_lines, one_more, told_graft, no_graft_told}
use Rattle.verifier.proofs.OutputLookups.{HoldsOutput, output_found}
use Rattle.verifier.proofs.Targets.{ArePaths, output_ordered}
use Rattle.runs.specs.Engine.{FinishedValue, EngineValue, IsValidOutput, IsEngine, finished_in}
use Rattle.verifier.specs.Together.{LooksUpOrigin, StandsAtOrigin, Resolves}
use Rattle.tree.specs.Stage.{◌and_then◌}
use Rattle.runs.specs.Looking.{outcomes_in, together_in}
use Rattle.runs.specs.Mirrors.{IsConcernedIn, IsMirrored}
use Rattle.runs.proofs.Places.{has_one, taken_within, finished_of}
use Rattle.runs.proofs.Steady.{Steady}
use Rattle.runs.proofs.Lost.{steady_of}
use Rattle.runs.proofs.Noted.{outcome_there}
use Rattle.verifier.proofs.FreshRuns.{one_answer, blobs_below, blob_of_entry}
use Rattle.runs.proofs.Agreeing.{outputs_agree}

module _ (B : Blobs) (e : EngineValue) (t : Tree Leaf) (meaning : Meaning) (X : List (ActionMeaning × Outcome)) (es : List Event) (s : State) (engine : IsEngine e) (k : IsMirrored B e (record { tree = t; meaning = meaning; table = X; events = es; now = s })) where
  abbrev S : List ℕ → Type 0
  S = IsConcernedIn B e meaning t es

  steady : Steady e.plan meaning t X k.table S s
  steady = steady_of e t meaning X s B es k

  -- the Trees that the engine has
  pub holds_output : (i : ℕ) (f : FinishedValue) → finished_in i e ≡ Some f → (x : List Name × OutputValue) → Contains f.outcome.outputs x → HoldsOutput S k.apart x.1
  holds_output i f is (p, outputs.File d executable) inside = tt
  holds_output i f is (p, outputs.Link target) inside = tt
  holds_output i f is (p, outputs.Tree u) inside = record {
    valid = all_at (λ (x : List Name × OutputValue). IsValidOutput x.1) f.outcome.outputs (p, outputs.Tree u) taken inside;
    held = λ m c. inr (inr (i, f, is, p, u, inside, m, c, refl));
  }
    where
      taken : AllByRecursion (λ (x : List Name × OutputValue). IsValidOutput x.1) f.outcome.outputs
      taken =
          let c = has_one e.commands i (subst (λ n. i < n) (engine.count ∙ sym engine.stand.commands_count) (taken_within e.finished i f is)) in
          (engine.taken i f c.0 is c.1).outputs

  pub origin_agrees : (o : OriginValue) (r : Looked) → LooksUpOrigin B e.sources (outcomes_in e.finished) o r → AgreesWith (option_map entry_node (origin_at t s o)) r
  origin_agrees (source p) r look =
      looks_from (TellsDirectory B) (FailsDirectory B) S (told_reads B S (λ b q. inl (inl (inl q))) k.apart) p (Some (whole t)) r k.ordered (λ b q. inl (inr (inl q)))
      (subst (λ d. LooksFrom (TellsDirectory B) (FailsDirectory B) p (Some (Dir d)) r) (sym k.mirrors.sources) look)
  origin_agrees (output j p) r look =
      let f = finished_of e.finished j look.0 look.1 in
      let o = outcome_there e t meaning s k.mirrors j f.0 f.1 in
      let settled = steady.done j o.0 o.1 in
      let valid = (k.table.actions settled.action o.0 settled.in_table).1 in
      subst (λ q. AgreesWith (option_map entry_node (option_and_then (λ (o : Outcome). output_at o.outputs p) q)) r) (sym o.1)
      (outputs_agree S k.apart o.0 f.0.outcome valid settled.own (holds_output j f.0 f.1) o.2 p r (subst (λ v. LooksIn v p r) (sym f.2) look.2))

  origin_ordered : (o : OriginValue) → IsOrderedAt (origin_at t s o)
  origin_ordered (source p) = ordered_at p (Some (whole t)) k.ordered
  origin_ordered (output j p) = by (outcome_of j s) refl
    where
      by : (q : Option Outcome) → outcome_of j s ≡ q → IsOrderedAt (option_and_then (λ (o : Outcome). output_at o.outputs p) q)
      by None is = tt
      by (Some o) is =
          let settled = steady.done j o is in
          output_ordered o.outputs p (k.table.actions settled.action o settled.in_table).1.outputs

  -- the blobs of what stands at an origin
  origin_blobs : (o : OriginValue) (y : Entry Leaf) → origin_at t s o ≡ Some y → (b : List ℕ) → IsBlobOfOne y b → S b
  origin_blobs (source p) y is b q = inl (inr (inl (blobs_below p (Some (whole t)) y b is q)))
  origin_blobs (output j p) y is b q = by (outcome_of j s) refl is
    where
      by : (q : Option Outcome) → outcome_of j s ≡ q → option_and_then (λ (o : Outcome). output_at o.outputs p) q ≡ Some y → S b
      by None at is = absurd cc
      by (Some o) at is =
          let there = output_found o.outputs p y is in
          (steady.done j o at).own b (there.0, there.1, blob_of_entry there.0.1 b (blobs_below there.2 (Some there.0.1) y b there.4 q))

  -- where what is below an origin is read
  origin_read : (o : OriginValue) (x : NodeWithin) → StandsAtOrigin B e.sources (outcomes_in e.finished) o x → IsRead S x
  origin_read (source p) x h = record {
    held = subst (λ w. IsHeldIn w x.node) (sym h.within) (source_held x.node);
    blobs = λ b q. absurd (subst (λ w. IsBlobIn w b) h.within q);
  }
  origin_read (output j p) x h =
      let f = finished_of e.finished j h.node.0 h.node.1 in
      let other = one_answer (outcomes_in e.finished j) h.within.0 h.node.0 h.within.1 h.node.1 ∙ sym f.2 in
      let lies = subst (λ v. LiesWithin v p x.within) other h.within.2 in
      let look = subst (λ v. LooksIn v p (found x.node)) (sym f.2) h.node.2 in
      let c = has_one e.commands j (subst (λ n. j < n) (engine.count ∙ sym engine.stand.commands_count) (taken_within e.finished j f.0 f.1)) in
      let taken = engine.taken j f.0 c.0 f.1 c.1 in
      record {
        held = outcome_held f.0.outcome taken.valid (λ o here. valid_tree k.apart o.1 (holds_output j f.0 f.1 o here)) p x look lies;
        blobs = λ b q. tree_blobs k.apart lies.0.1 (holds_output j f.0 f.1 lies.0 lies.1) b (subst (λ w. IsBlobIn w b) lies.3 q);
      }

  -- what stands at the origins of lines is what was looked up there
  lines_tell : (ls : List LineValue) → ArePaths ls → (xs : MergeLines) → Resolves B e.sources (outcomes_in e.finished) ls xs → LinesTell S t s ls xs
  lines_tell [] paths xs r = subst (LinesTell S t s []) (sym r) (no_lines S t s)
  lines_tell (l ∷ ls) paths xs r =
      subst (LinesTell S t s (l ∷ ls)) (sym r.4)
      (one_more S t s l r.0 ls r.2 paths.0 (origin_agrees l.origin (found r.0.node) r.1.node) (origin_ordered l.origin) (origin_read l.origin r.0 r.1) (origin_blobs l.origin) (lines_tell ls paths.1 r.2 r.3))

  values : (b : List ℕ) → IsValue B b → S b
  values b v = inl (inl (inl v))

  -- the tree that they put together is there, with the digest of that by digests
  pub grafted : (ls : List LineValue) → ArePaths ls → (made : Tree NodeValue) → (together_in B e ls).passes made → (g : Tree Leaf) × (merge_of t s ls ≡ Some g) × (root (form g) ≡ root made)
  unfolding ◌and_then◌
  grafted ls paths made h = let g = told_graft S t s k.apart B values (lines_tell ls paths h.0 h.1) made h.2 in (g.0, g.1, g.2)

  -- and where they conflict there is none
  pub no_graft : (ls : List LineValue) → ArePaths ls → (xs : MergeLines) → Resolves B e.sources (outcomes_in e.finished) ls xs → (p : List Name) → (merged B xs).fails (conflict p) → merge_of t s ls ≡ None
  no_graft ls paths xs r p fails = no_graft_told S t s k.apart B values (lines_tell ls paths xs r) p fails
