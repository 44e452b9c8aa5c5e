-- What lines put together stays so where right bytes stay told, and as more steps finish.
use Rattle.std.proofs.Common.{◌≡◌, ℕ, zero, suc, ◌<◌, List, [], ◌∷◌, ◌++◌, Option, Some, None, ap, sym, ◌∙◌, subst, inl, inr}
use Rattle.messages.specs.declared.node.Node.TheVariants.{File, Link, Dir}
use Rattle.messages.specs.Node.{child}
use Rattle.blob_digest.specs.Digest.{DigestValue}
use Rattle.blob_source.specs.Source.{Blobs}
use Rattle.blob_source.specs.Sink.{KeepsRight}
use Rattle.blob_source.specs.Told.{TellsDirectory, FailsDirectory}
use Rattle.actions.specs.Outcome.{OutcomeValue, IsOutcome}
use Rattle.plan.specs.Values.{OriginValue, source, output, LineValue}
use Rattle.tree.specs.Tree.{Name, Tree, Entry}
use Rattle.tree.specs.Form.{NodeValue}
use Rattle.tree.specs.Lookup.{found, LooksFrom}
use Rattle.tree.specs.Stage.{Stage, ◌and_then◌}
use Rattle.tree.specs.Merging.{WithinValue, in_source, in_tree, NodeWithin, MergeLines, MergeFault, grouped, counted, directory_read, node_opened, line_opened, opened, met, lone, stands_or, entry_merged, each_name, merged_in, merged}
use Rattle.runs.specs.Engine.{FinishedValue, EngineValue, IsEngine, finished_in}
use Rattle.verifier.specs.Together.{StandsAtOrigin, Resolves}
use Rattle.verifier.proofs.VerdictOnceLines.{AreValidIn}
use Rattle.runs.specs.Looking.{outcomes_in, together_in}
use Rattle.runs.proofs.Places.{has_one, taken_within, outcome_is, finished_of}
use Rattle.worker.proofs.Telling.{told_still}

-- ---- what passes one check passes the other

record Stays {E V : Type 0} (old new : Stage E V) : Type 0 where
  still : (v : V) → old.passes v → new.passes v

stays : {E V : Type 0} {stage : Stage E V} → Stays stage stage
stays = record { still = λ v h. h }

stays_then : {E V W : Type 0} {old new : Stage E V} {before later : V → Stage E W} → Stays old new → ((v : V) → Stays (before v) (later v)) → Stays (old and_then before) (new and_then later)
unfolding ◌and_then◌
stays_then h k = record { still = λ w p. (p.0, h.still p.0 p.1, (k p.0).still w p.2) }

each_stays : {X E L : Type 0} (old new : Name → X → Stage E (Entry L)) (gs : List (Name × X)) → ((n : Name) (x : X) → Stays (old n x) (new n x)) → Stays (each_name old gs) (each_name new gs)
each_stays old new [] h = stays
each_stays old new (g ∷ gs) h = stays_then (h g.0 g.1) (λ e. stays_then (each_stays old new gs h) (λ rest. stays))

stands_stays : (o : Option NodeValue) (old new : Stage MergeFault (Entry NodeValue)) → Stays old new → Stays (stands_or o old) (stands_or o new)
stands_stays (Some x) old new h = stays
stands_stays None old new h = h

module _ {B C : Blobs} (keeps : KeepsRight B C) where
  read_stays : (within : WithinValue) (d : DigestValue) → Stays (directory_read B within d) (directory_read C within d)
  read_stays in_source d = record { still = λ m h. told_still keeps h }
  read_stays (in_tree t) d = record { still = λ m h. h }

  node_stays : (x : NodeValue) (within : WithinValue) → Stays (node_opened B x within) (node_opened C x within)
  node_stays (File d e) within = stays
  node_stays (Link t) within = stays
  node_stays (Dir d) within = stays_then (read_stays within d) (λ m. stays)

  line_stays : (p : List Name) (g : NodeWithin) → Stays (line_opened B p g) (line_opened C p g)
  line_stays [] g = node_stays g.node g.within
  line_stays (n ∷ p) g = stays

  opened_stays : (ls : MergeLines) → Stays (opened B ls) (opened C ls)
  opened_stays [] = stays
  opened_stays (l ∷ ls) = stays_then (line_stays l.0 l.1) (λ new. stays_then (opened_stays ls) (λ rest. stays))

  entry_stays : (deeper : ℕ) (path : List Name) (ls : MergeLines) → ((new : MergeLines) → Stays (merged_in B deeper path new) (merged_in C deeper path new))
      → Stays (entry_merged B (merged_in B deeper path) deeper path ls) (entry_merged C (merged_in C deeper path) deeper path ls)
  entry_stays deeper path ls h =
      stands_stays (lone ls) (met B (merged_in B deeper path) deeper path ls) (met C (merged_in C deeper path) deeper path ls)
      (stays_then stays (λ _. stays_then (opened_stays ls) (λ new. stays_then (h new) (λ t. stays))))

  merged_in_stays : (deeper : ℕ) (path : List Name) (ls : MergeLines) → Stays (merged_in B deeper path ls) (merged_in C deeper path ls)
  merged_in_stays zero path ls = stays
  merged_in_stays (suc deeper) path ls =
      each_stays (λ n given. entry_merged B (merged_in B deeper (path ++ n ∷ [])) deeper (path ++ n ∷ []) (counted [] given)) (λ n given. entry_merged C (merged_in C deeper (path ++ n ∷ [])) deeper (path ++ n ∷ []) (counted [] given)) (grouped ls) (λ n given.
      entry_stays deeper (path ++ n ∷ []) (counted [] given) (λ new. merged_in_stays deeper (path ++ n ∷ []) new))

  merged_stays : (ls : MergeLines) → Stays (merged B ls) (merged C ls)
  unfolding merged
  merged_stays ls = merged_in_stays 64 [] ls

  looks_still : (p : List Name) (o : Option NodeValue) (x : NodeValue) → LooksFrom (TellsDirectory B) (FailsDirectory B) p o (found x) → LooksFrom (TellsDirectory C) (FailsDirectory C) p o (found x)
  looks_still p None x h = h
  looks_still [] (Some n) x h = h
  looks_still (n ∷ p) (Some (File d e)) x h = h
  looks_still (n ∷ p) (Some (Link t)) x h = h
  looks_still (n ∷ p) (Some (Dir d)) x (inl (m, told, rest)) = inl (m, told_still keeps told, looks_still p (child n m) x rest)
  looks_still (n ∷ p) (Some (Dir d)) x (inr (f, fails, is)) = absurd (let e = is in cc)

-- ---- an engine of the same sources, where what had finished stays

pub record GoesOn (old new : EngineValue) : Type 0 where
  pub sources : new.sources ≡ old.sources
  pub finished : (i : ℕ) (f : FinishedValue) → finished_in i old ≡ Some f → finished_in i new ≡ Some f

module _ {B C : Blobs} (keeps : KeepsRight B C) {old new : EngineValue} (more : GoesOn old new) where
  outcome_stays : (j : ℕ) (o : OutcomeValue) → outcomes_in old.finished j ≡ Some o → outcomes_in new.finished j ≡ Some o
  outcome_stays j o at = let f = finished_of old.finished j o at in outcome_is new.finished j f.0 (more.finished j f.0 f.1) ∙ ap Some f.2

  origin_stays : (o : OriginValue) (x : NodeWithin) → StandsAtOrigin B old.sources (outcomes_in old.finished) o x → StandsAtOrigin C new.sources (outcomes_in new.finished) o x
  origin_stays (source p) x h = record {
    node = subst (λ d. LooksFrom (TellsDirectory C) (FailsDirectory C) p (Some (Dir d)) (found x.node)) (sym more.sources) (looks_still keeps p (Some (Dir old.sources)) x.node h.node);
    within = h.within;
  }
  origin_stays (output j p) x h = record {
    node = (h.node.0, outcome_stays j h.node.0 h.node.1, h.node.2);
    within = (h.within.0, outcome_stays j h.within.0 h.within.1, h.within.2);
  }

  resolves_stay : (ls : List LineValue) (xs : MergeLines) → Resolves B old.sources (outcomes_in old.finished) ls xs → Resolves C new.sources (outcomes_in new.finished) ls xs
  resolves_stay [] xs h = h
  resolves_stay (l ∷ ls) xs h = (h.0, origin_stays l.origin h.0 h.1, h.2, resolves_stay ls h.2 h.3, h.4)

  pub together_stays : (ls : List LineValue) (t : Tree NodeValue) → (together_in B old ls).passes t → (together_in C new ls).passes t
  unfolding ◌and_then◌
  together_stays ls t h = (h.0, resolves_stay ls h.0 h.1, (merged_stays keeps h.0).still t h.2)

-- ---- lines resolve to one thing

pub valid_outcomes : (e : EngineValue) → IsEngine e → AreValidIn (outcomes_in e.finished)
valid_outcomes e engine j o at =
    let f = finished_of e.finished j o at in
    let c = has_one e.commands j (subst (λ n. j < n) (engine.count ∙ sym engine.stand.commands_count) (taken_within e.finished j f.0 f.1)) in
    subst IsOutcome f.2 (engine.taken j f.0 c.0 f.1 c.1).valid
