-- What is known of a store stays known, whatever is put.
use Rattle.std.proofs.Common.{◌≡◌, ℕ, zero, suc, List, [], ◌∷◌, ◌++◌, Option, Some, None, sym, ◌∙◌, inl, inr}
use Rattle.blob_digest.specs.Digest.{DigestValue, digest_of}
use Rattle.messages.specs.declared.node.Node.TheVariants.{File, Link, Dir}
use Rattle.messages.specs.Node.{child}
use Rattle.blob_source.specs.Source.{Blobs, Telling, IsUnder}
use Rattle.blob_source.specs.Sink.{KeepsRight}
use Rattle.plan.specs.Values.{OriginValue, source, output, LineValue}
use Rattle.tree.specs.Tree.{Name}
use Rattle.tree.specs.Form.{NodeValue}
use Rattle.tree.specs.LooksAt.{OnWayFrom}
use Rattle.tree.specs.Memo.{Asked, blob, result, Known, IsKnownOf, KnowsNothing, Learns}
use Rattle.tree.specs.Tree.{Entry}
use Rattle.tree.specs.Stage.{Stage}
use Rattle.tree.specs.Merging.{WithinValue, in_source, in_tree, NodeWithin, MergeLines, grouped, counted, line_opened, opened, lone, entry_merged, merged_in}
use Rattle.tree.specs.MergeLooks.{looks, NodeLooksAt, LineLooksAt, OpenedLooksAt, StandsOrLooksAt, EachLooksAt, MetLooksAt, MergeLooksIn, MergeLooksAt}
use Rattle.verifier.specs.Together.{Earlier, OriginLooksAt, LinesLookAt, TogetherLooksAt}
use Rattle.runs.specs.Engine.{EngineValue}
use Rattle.runs.specs.Looking.{outcomes_in}
use Rattle.runs.specs.LooksAt.{StartNeeds}
use Rattle.worker.specs.Storing.{KnowsBlobs}

never : {o : Option (List ℕ)} {b : List ℕ} → o ≡ None → o ≡ Some b → ⊥
never e f = cc

pub knows_nothing : {known : Known} {B : Blobs} → KnowsNothing known → KnowsBlobs known B
knows_nothing h = record { blobs = λ d b is. absurd (never (h (blob d)) is); results = λ d. h (result d) }

pub known_of : {known : Known} {t : Telling} → KnowsBlobs known t.blobs → IsKnownOf known t
known_of h = record { blobs = h.blobs; results = λ d b is. absurd (never (h.results d) is) }

pub knows_still : {known : Known} {B C : Blobs} → KeepsRight B C → KnowsBlobs known B → KnowsBlobs known C
knows_still {known} {B} {C} keeps h = record {
  blobs = λ d b is. let was = h.blobs d b is in record { held = under d b was.right was.held; right = was.right };
  results = h.results;
}
  where
    under : (d : DigestValue) (b : List ℕ) → digest_of b ≡ d → IsUnder B d (Some b) → IsUnder C d (Some b)
    under d b right (inl is) = inl is
    under d b right (inr is) = inr (is.0, sym (keeps d b (sym is.1) right))

-- ---- a start looks at no result

other_kind : {d e : DigestValue} → ◌≡◌ {A = Asked} (result d) (blob e) → ⊥
other_kind is = cc

way_to_blobs : (B : Blobs) (p : List Name) (o : Option NodeValue) (d : DigestValue) → OnWayFrom B p o (result d) → ⊥
way_to_blobs B p None d h = h
way_to_blobs B [] (Some x) d h = h
way_to_blobs B (n ∷ p) (Some (File e executable)) d h = h
way_to_blobs B (n ∷ p) (Some (Link target)) d h = h
way_to_blobs B (n ∷ p) (Some (Dir e)) d (inl h) = other_kind h.0
way_to_blobs B (n ∷ p) (Some (Dir e)) d (inr h) = way_to_blobs B p (child n h.0) d h.2

origin_of_blobs : (B : Blobs) (sources : DigestValue) (o : OriginValue) (d : DigestValue) → OriginLooksAt B sources o (result d) → ⊥
origin_of_blobs B sources (source p) d h = way_to_blobs B p (Some (Dir sources)) d h
origin_of_blobs B sources (output j p) d h = h

looks_of_blobs : {E V : Type 0} (check : Stage E V) (Here : Asked → Type 0) (next : V → Asked → Type 0) (d : DigestValue) → (Here (result d) → ⊥) → ((v : V) → next v (result d) → ⊥) → looks check Here next (result d) → ⊥
unfolding looks
looks_of_blobs check Here next d here rest (inl h) = here h
looks_of_blobs check Here next d here rest (inr h) = rest h.0 h.2

node_of_blobs : (within : WithinValue) (x : NodeValue) (d : DigestValue) → NodeLooksAt within x (result d) → ⊥
node_of_blobs in_source (File e executable) d h = h
node_of_blobs in_source (Link target) d h = h
node_of_blobs in_source (Dir e) d h = other_kind h.0
node_of_blobs (in_tree t) x d h = h

line_of_blobs : (p : List Name) (g : NodeWithin) (d : DigestValue) → LineLooksAt p g (result d) → ⊥
line_of_blobs [] g d h = node_of_blobs g.within g.node d h
line_of_blobs (n ∷ p) g d h = h

opened_of_blobs : (B : Blobs) (ls : MergeLines) (d : DigestValue) → OpenedLooksAt B ls (result d) → ⊥
opened_of_blobs B [] d h = h
opened_of_blobs B (l ∷ ls) d h = looks_of_blobs (line_opened B l.0 l.1) (LineLooksAt l.0 l.1) (λ _. OpenedLooksAt B ls) d (line_of_blobs l.0 l.1 d) (λ v. opened_of_blobs B ls d) h

stands_of_blobs : (o : Option NodeValue) (Others : Type 0) → (Others → ⊥) → StandsOrLooksAt o Others → ⊥
stands_of_blobs (Some x) Others none h = h
stands_of_blobs None Others none h = none h

each_of_blobs : {X E L : Type 0} (at : Name → X → Stage E (Entry L)) (Looks : Name → X → Asked → Type 0) (gs : List (Name × X)) (d : DigestValue) → ((n : Name) (x : X) → Looks n x (result d) → ⊥) → EachLooksAt at Looks gs (result d) → ⊥
each_of_blobs at Looks [] d none h = h
each_of_blobs at Looks (g ∷ gs) d none h = looks_of_blobs (at g.0 g.1) (Looks g.0 g.1) (λ _. EachLooksAt at Looks gs) d (none g.0 g.1) (λ v. each_of_blobs at Looks gs d none) h

merge_of_blobs : (B : Blobs) (deeper : ℕ) (path : List Name) (ls : MergeLines) (d : DigestValue) → MergeLooksIn B deeper path ls (result d) → ⊥
merge_of_blobs B zero path ls d h = h
merge_of_blobs B (suc deeper) path ls d h =
    each_of_blobs (λ n given. entry_merged B (merged_in B deeper (path ++ n ∷ [])) deeper (path ++ n ∷ []) (counted [] given))
    (λ n given b. StandsOrLooksAt (lone (counted [] given)) (MetLooksAt B (MergeLooksIn B deeper (path ++ n ∷ [])) deeper (counted [] given) b)) (grouped ls) d
    (λ n given. stands_of_blobs (lone (counted [] given)) (MetLooksAt B (MergeLooksIn B deeper (path ++ n ∷ [])) deeper (counted [] given) (result d)) (λ m.
    looks_of_blobs (opened B (counted [] given)) (OpenedLooksAt B (counted [] given)) (MergeLooksIn B deeper (path ++ n ∷ [])) d (opened_of_blobs B (counted [] given) d) (λ new. merge_of_blobs B deeper (path ++ n ∷ []) new d) m.1)) h

merging_of_blobs : (B : Blobs) (ls : MergeLines) (d : DigestValue) → MergeLooksAt B ls (result d) → ⊥
unfolding MergeLooksAt
merging_of_blobs B ls d h = merge_of_blobs B 64 [] ls d h

lines_of_blobs : (B : Blobs) (sources : DigestValue) (os : Earlier) (ls : List LineValue) (d : DigestValue) → LinesLookAt B sources os ls (result d) → ⊥
lines_of_blobs B sources os [] d h = h
lines_of_blobs B sources os (l ∷ ls) d (inl h) = origin_of_blobs B sources l.origin d h
lines_of_blobs B sources os (l ∷ ls) d (inr h) = lines_of_blobs B sources os ls d h.2

together_of_blobs : (B : Blobs) (sources : DigestValue) (os : Earlier) (ls : List LineValue) (d : DigestValue) → TogetherLooksAt B sources os ls (result d) → ⊥
unfolding looks
together_of_blobs B sources os ls d (inl h) = lines_of_blobs B sources os ls d h
together_of_blobs B sources os ls d (inr h) = merging_of_blobs B h.0 d h.2

start_of_blobs : (B : Blobs) (e : EngineValue) (i : ℕ) (d : DigestValue) → StartNeeds B e i (result d) → ⊥
start_of_blobs B e i d (step, at, ready, room, h) = together_of_blobs B e.sources (outcomes_in e.finished) step.lines d h

pub knows_started : {old new : Known} {t u : Telling} {refused : Type 0} (e : EngineValue) (i : ℕ) → KnowsBlobs old t.blobs → Learns (StartNeeds u.blobs e i) refused old new t u → KnowsBlobs new u.blobs
knows_started {old} {new} {t} {u} e i h learned = record {
  blobs = learned.known.blobs;
  results = λ d. learned.others (result d) (start_of_blobs u.blobs e i d) other_kind ∙ h.results d;
}
