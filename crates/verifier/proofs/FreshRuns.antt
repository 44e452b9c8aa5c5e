-- What a run of a plan whose first steps are as recorded finds: at each origin what was looked up, and so of lines what they put together.
use Rattle.std.proofs.Common.{◌≡◌, ℕ, zero, suc, Bool, true, false, cond, List, [], ◌∷◌, Option, Some, None, length, refl, ap, sym, ◌∙◌, subst, arith, inl, inr}
use Rattle.std.specs.Prelude.{◌==◌, ◌≢◌, pos, option_map, option_and_then, slice_get, Contains}
use Rattle.std.specs.List.{AllByRecursion}
use Rattle.std.specs.Map.{lookup, remove_entry}
use Rattle.std.proofs.lemmas.Bool.Decides.{Decides-eqb}
use Rattle.blob_digest.specs.Digest.{DigestValue, digest_of, NoClash}
use Rattle.messages.specs.Directory.{directory_bytes}
use Rattle.messages.specs.declared.node.Node.TheVariants.{Dir}
use Rattle.messages.specs.Tree.{TreeValue, IsTree, tree_bytes}
use Rattle.action_messages.specs.ActionResult.{ActionResultValue}
use Rattle.actions.specs.Outcome.{OutputValue, OutcomeValue, IsOutcome}
use Rattle.actions.specs.OutcomeLookup.{LooksIn, LiesWithin}
use Rattle.action_messages.specs.Outputs.{RecordedValue, file, directory, link}
use Rattle.actions.specs.Recorded.{StandForAll}
use Rattle.action_messages.specs.Reads.{Reads}
use Rattle.action_messages.proofs.ReadOnce.{reads_once}
use Rattle.actions.proofs.RecordedAt.{recorded_at}
use Rattle.actions.proofs.TreeBytes.{tree_bytes_some}
use Rattle.actions.proofs.Rooms.{holds_at}
use Rattle.plan.specs.Plan.{IsPlan}
use Rattle.plan.specs.Values.{OriginValue, source, output, LineValue, StepValue, PlanValue}
use Rattle.tree.specs.Tree.{Name, Tree, Leaf, Entry, single, whole, entry_of, below_entry, IsOrdered}
use Rattle.tree.specs.Form.{NodeValue, entry_node, form, root, IsBlobOf}
use Rattle.tree.specs.Merge.{merge}
use Rattle.tree.specs.MergeAgrees.{IsBlobIn, IsBlobOfOne}
use Rattle.tree.specs.Merging.{NodeWithin, MergeLines, conflict, unreadable, IsHeldIn, merged}
use Rattle.tree.specs.Stage.{◌and_then◌}
use Rattle.blob_source.specs.Source.{Blobs, IsUnder, IsBlobUnder}
use Rattle.blob_source.specs.Told.{Fault, IsTold, TellsDirectory, FailsDirectory}
use Rattle.tree.specs.Lookup.{Looked, fault, nothing, found, LooksFrom, IsValue, AgreesWith}
use Rattle.tree.proofs.LookupLemmas.{looks_from, told_reads, entry_blobs}
use Rattle.tree.proofs.LookupLemmas as lookups
use Rattle.tree.proofs.OrderLemmas.{IsOrderedAt, ordered_at}
use Rattle.tree.proofs.TreeDigests.{only_empty}
use Rattle.verifier.specs.Together.{LooksUpOrigin, StandsAtOrigin, Resolves, LinesFault, not_read, IsFaultOfLook, FirstFault, put_together}
use Rattle.verifier.specs.AsRecorded.{AreAsRecorded}
use Rattle.verifier.specs.Holding.{HoldsResult}
use Rattle.verifier.specs.Build.{ActionMeaning, action_digest, Outcome, output_at, State, outcome_of, origin_at, origins, merge_of}
use Rattle.verifier.specs.Headline.{PlanRun, IsConcerned, IsRunOf, IsBlobOfEntry, IsBlobOfOutcome, IsBlobOfChosen, HasFinished}
use Rattle.verifier.specs.Recorded.{IsRecordedAs, RecordsAt}
use Rattle.verifier.proofs.HeldOrigins.{source_held, outcome_held}
use Rattle.verifier.proofs.LinesTold.{valid_tree, tree_blobs, IsRead, LinesTell, no_lines, one_more, told_graft, no_graft_told}
use Rattle.verifier.proofs.OutputLookups.{HoldsTree, HoldsOutput, output_found, outputs_tell}
use Rattle.verifier.proofs.RecordedSteps.{get_other, as_many, IsRecordedStep, step_at}
use Rattle.verifier.proofs.Targets.{ArePaths, output_ordered}

-- ---- lists and options

-- two answers of one look-up are one
pub one_answer : {X : Type 0} (o : Option X) (x y : X) → o ≡ Some x → o ≡ Some y → x ≡ y
one_answer o x y e f = let both : ◌≡◌ {A = Option _} (Some x) (Some y) = sym e ∙ f in cc

-- what a look-up finds is one of the entries
pub found_one : {A : Type 0} (P : ℕ × A → Type 0) (j : ℕ) (es : List (ℕ × A)) (x : A) → AllByRecursion P es → lookup (λ k. k == j) es ≡ Some x → P (j, x)
found_one P j [] x h e = cc
found_one {A} P j (y ∷ es) x h e = at (y.0 == j) refl e (found_one P j es x h.1)
  where
    at : (q : Bool) → (y.0 == j) ≡ q → cond q (Some y.1) (lookup (λ k. k == j) es) ≡ Some x → (lookup (λ k. k == j) es ≡ Some x → P (j, x)) → P (j, x)
    at true p e rest = let key : y.0 ≡ j = (Decides-eqb y.0 j).0 p in let value : y.1 ≡ x = cc in subst P (λ i. (key i, value i)) h.0
    at false p e rest = rest e

pub kept_rest : {A : Type 0} (P : ℕ × A → Type 0) (j : ℕ) (es : List (ℕ × A)) → AllByRecursion P es → AllByRecursion P (remove_entry (λ k. k == j) es)
kept_rest P j [] h = tt
kept_rest P j (y ∷ es) h = elim (y.0 == j) as (λ q. AllByRecursion P (cond q es (y ∷ remove_entry (λ k. k == j) es))) [ true ↦ h.1 | false ↦ (h.0, kept_rest P j es h.1) ]

-- the result that is held under a digest is one
pub one_result : (C : Blobs) (d : DigestValue) (r q : ActionResultValue) → HoldsResult C d r → HoldsResult C d q → r ≡ q
one_result C d r q h k = reads_once r q h.0 h.2 (subst (Reads q) (one_answer (C d) k.0 h.0 k.1 h.1) k.2)

-- ---- blobs of what stands below

pub blobs_below : (q : List Name) (o : Option (Entry Leaf)) (e : Entry Leaf) (b : List ℕ) → below_entry q o ≡ Some e → IsBlobOfOne e b → lookups.IsBlobOfEntry o b
blobs_below [] o e b is h = subst (λ p. lookups.IsBlobOfEntry p b) (sym is) (by e h)
  where
    by : (e : Entry Leaf) → IsBlobOfOne e b → lookups.IsBlobOfEntry (Some e) b
    by (single x) h = h
    by (whole t) h = h
blobs_below (n ∷ q) None e b is h = absurd cc
blobs_below (n ∷ q) (Some (single x)) e b is h = absurd cc
blobs_below (n ∷ q) (Some (whole t)) e b is h = inr (entry_blobs n t b (blobs_below q (entry_of n t) e b is h))

pub blob_of_entry : (e : Entry Leaf) (b : List ℕ) → lookups.IsBlobOfEntry (Some e) b → IsBlobOfEntry e b
blob_of_entry (single x) b h = h
blob_of_entry (whole t) b h = h

-- ---- steps that are as recorded

-- the first steps of a plan
pub record FirstAsRecorded (B C : Blobs) (src : DigestValue) (plan : PlanValue) (ds : List DigestValue) : Type 0 where
  pub first : List StepValue
  pub outcomes : List OutcomeValue
  pub planned : (i : ℕ) (s : StepValue) → slice_get first i ≡ Some s → slice_get plan.steps i ≡ Some s
  pub steps : AreAsRecorded B C src [] first ds outcomes

-- ---- what is given of a run

-- It keeps the premises of a yes, the first steps of the plan are as recorded, and no two different blobs of a set that has all those concerned share a digest.
pub record IsGiven (S : List ℕ → Type 0) (B C : Blobs) (src : DigestValue) (plan : PlanValue) (ds : List DigestValue) (run : PlanRun) : Type 0 where
  pub apart : NoClash S
  pub within : (b : List ℕ) → IsConcerned B plan run.meaning run.tree run.chosen run.events b → S b
  pub ordered : IsOrdered run.tree
  pub sources : root (form run.tree) ≡ src
  pub runs : IsRunOf B C plan ds run
  pub rules : IsPlan plan
  pub recorded : FirstAsRecorded B C src plan ds

-- ---- lines

-- the steps that lines read have finished
abbrev pub HaveFinished : State → List LineValue → Type 0
HaveFinished s ls = AllByRecursion (λ (l : LineValue). HasFinished s l.origin) ls

-- lines have a fault that is no Directory that isn't told
pub record IsLinesFault (B : Blobs) (sources : DigestValue) (os : List OutcomeValue) (ls : List LineValue) : Type 0 where
  pub why : LinesFault
  pub told : (f : Fault) → why ≢ not_read f
  pub fails : (put_together B sources (slice_get os) ls).fails why

module _ (S : List ℕ → Type 0) (apart : NoClash S) where
  -- what a source tells under a digest is each blob of the set with that digest
  pub told_bytes : (B : Blobs) (d : DigestValue) (bytes other : List ℕ) → ((b : List ℕ) → IsValue B b → S b) → IsBlobUnder B d bytes → S other → digest_of other ≡ d → bytes ≡ other
  told_bytes B d bytes other values told within is = by told.held
    where
      by : IsUnder B d (Some bytes) → bytes ≡ other
      by (inl h) = let none : bytes ≡ [] = (let both : ◌≡◌ {A = Option (List ℕ)} (Some bytes) (Some []) = h.1 in cc) in none ∙ sym (only_empty other (is ∙ h.0))
      by (inr h) = apart bytes other (values bytes (d, sym h.1)) within (told.right ∙ sym is)

module _ {S : List ℕ → Type 0} {B C : Blobs} {src : DigestValue} {plan : PlanValue} {ds : List DigestValue} {run : PlanRun} (given : IsGiven S B C src plan ds run) where
  -- ---- blobs concerned

  pub values : (b : List ℕ) → IsValue B b → S b
  values b q = given.within b (inl (inl q))

  pub picked : (b : List ℕ) → IsBlobOfChosen run.chosen b → S b
  picked b q = given.within b (inr (inr (inl q)))

  own : (b : List ℕ) → IsBlobOf run.tree b → S b
  own b q = given.within b (inr (inl q))

  -- the Trees of a recorded outcome
  holds_told : (d : DigestValue) (u : TreeValue) → IsTold IsTree tree_bytes B d u → HoldsTree S given.apart u
  holds_told d u told = record { valid = told.valid; held = λ m inside. given.within (directory_bytes m) (inl (inr (u, told.valid, by told.blob.held, m, inside, refl))) }
    where
      by : IsUnder B d (Some (tree_bytes u)) → IsValue B (tree_bytes u)
      by (inl h) = absurd (tree_bytes_some u (let both : ◌≡◌ {A = Option (List ℕ)} (Some (tree_bytes u)) (Some []) = h.1 in cc))
      by (inr h) = (d, sym h.1)

  holds_outputs : (xs : List RecordedValue) (es : List (List Name × OutputValue)) → StandForAll B xs es → (e : List Name × OutputValue) → Contains es e → HoldsOutput S given.apart e.1
  holds_outputs [] es h e (k, lt, is) = let none : length es ≡ 0 = ap length h in absurd (omega (arith, none))
  holds_outputs (x ∷ xs) [] h e c = elim h [ ]
  holds_outputs (file f ∷ xs) (y ∷ es) h e (zero, lt, is) = subst (λ (z : List Name × OutputValue). HoldsOutput S given.apart z.1) is (subst (HoldsOutput S given.apart) (sym h.1) tt)
  holds_outputs (link l ∷ xs) (y ∷ es) h e (zero, lt, is) = subst (λ (z : List Name × OutputValue). HoldsOutput S given.apart z.1) is (subst (HoldsOutput S given.apart) (sym h.1) tt)
  holds_outputs (directory d ∷ xs) (y ∷ es) h e (zero, lt, is) = subst (λ (z : List Name × OutputValue). HoldsOutput S given.apart z.1) is (subst (HoldsOutput S given.apart) (sym h.1.2) (holds_told d.tree h.1.0 h.1.1))
  holds_outputs (x ∷ xs) (y ∷ es) h e (suc k, lt, is) = holds_outputs xs es h.2 e (k, omega (arith, lt), is)

  -- ---- the steps, each with its chosen pair

  -- what was recorded of a step, and what was chosen for it
  pub record Chosen (i : ℕ) (s : StepValue) : Type 0 where
    pub kept : IsRecordedStep B C src ds given.recorded.outcomes i i s
    pub pair : ActionMeaning × Outcome
    pub pair_at : slice_get run.chosen i ≡ Some pair
    pub in_table : Contains run.table pair
    pub digest : action_digest pair.0 ≡ kept.digest
    pub recorded_as : IsRecordedAs B C kept.digest pair.1

  pub chosen_at : (i : ℕ) (s : StepValue) → slice_get given.recorded.first i ≡ Some s → Chosen i s
  chosen_at i s at =
      let step = step_at B C src given.recorded.first ds given.recorded.outcomes given.recorded.steps i s at in
      let pair = get_other ds run.chosen i step.digest (sym given.runs.agrees.each) step.digest_at in
      let facts = given.runs.agrees.pairs i step.digest pair.0 step.digest_at pair.1 in
      record { kept = step; pair = pair.0; pair_at = pair.1; in_table = facts.0; digest = facts.1; recorded_as = facts.2 }

  -- each chosen pair is in the table
  pub pair_in_table : (i : ℕ) (pair : ActionMeaning × Outcome) → slice_get run.chosen i ≡ Some pair → Contains run.table pair
  pair_in_table i pair at = let d = get_other run.chosen ds i pair given.runs.agrees.each at in (given.runs.agrees.pairs i d.0 pair d.1 at).0

  -- the result that was recorded is one
  same_result : (i : ℕ) (s : StepValue) (c : Chosen i s) → c.kept.step.result ≡ c.recorded_as.result
  same_result i s c = one_result C c.kept.digest c.kept.step.result c.recorded_as.result c.kept.step.held c.recorded_as.held

  -- the chosen outcome has exit code 0
  pub succeeds : (i : ℕ) (s : StepValue) (c : Chosen i s) → c.pair.1.exit_code ≡ pos 0
  succeeds i s c = c.recorded_as.exit_code ∙ ap (λ (r : ActionResultValue). r.exit_code) (sym (same_result i s c)) ∙ c.kept.step.exit_code

  -- at each path it has what was recorded there
  chosen_tells : (i : ℕ) (s : StepValue) (c : Chosen i s) (p : List Name) (r : Looked) → LooksIn c.kept.outcome p r → AgreesWith (option_map entry_node (output_at c.pair.1.outputs p)) r
  chosen_tells i s c p r look =
      let v = c.kept.outcome in
      let told = c.kept.step.recorded in
      outputs_tell S given.apart c.pair.1 v (given.runs.table.actions c.pair.0 c.pair.1 c.in_table).1 (λ b k. picked b (c.pair, holds_at run.chosen i c.pair c.pair_at, inr k)) (holds_outputs told.recorded v.outputs told.outputs)
      (λ q y. (
        (λ inside. (c.recorded_as.outputs q y).1 (subst (λ r. RecordsAt B r q y) (same_result i s c) ((recorded_at B c.kept.step.result v q y told).0 inside))),
        (λ there. (recorded_at B c.kept.step.result v q y told).1 (subst (λ r. RecordsAt B r q y) (sym (same_result i s c)) ((c.recorded_as.outputs q y).0 there))),
      )) p r look

  -- ---- what a run keeps: each published outcome of one of the first steps is the chosen one, and each job of one runs the chosen action

  abbrev pub IsPublished : ℕ × Outcome → Type 0
  IsPublished e = (s : StepValue) × (slice_get plan.steps e.0 ≡ Some s) × (slice_get given.recorded.first e.0 ≡ Some s → (pair : ActionMeaning × Outcome) × (slice_get run.chosen e.0 ≡ Some pair) × (e.1 ≡ pair.1))

  abbrev pub IsJob : ℕ × (ℕ × ActionMeaning) → Type 0
  IsJob j = (s : StepValue) × (slice_get plan.steps j.1.0 ≡ Some s) × (slice_get given.recorded.first j.1.0 ≡ Some s → (pair : ActionMeaning × Outcome) × (slice_get run.chosen j.1.0 ≡ Some pair) × (j.1.1 ≡ pair.0))

  pub record Keeps (s : State) : Type 0 where
    pub done : AllByRecursion IsPublished s.done
    pub jobs : AllByRecursion IsJob s.jobs

  -- the outcome of a step that has finished
  published : (s : State) → Keeps s → (i : ℕ) (step : StepValue) → slice_get given.recorded.first i ≡ Some step → (c : Chosen i step) (o : Outcome) → outcome_of i s ≡ Some o → o ≡ c.pair.1
  published s keeps i step at c o is =
      let e = found_one IsPublished i s.done o keeps.done is in
      let same = one_answer (slice_get plan.steps i) step e.0 (given.recorded.planned i step at) e.1 in
      let k = e.2 (subst (λ z. slice_get given.recorded.first i ≡ Some z) same at) in
      k.2 ∙ ap (λ (z : ActionMeaning × Outcome). z.1) (one_answer (slice_get run.chosen i) k.0 c.pair k.1 c.pair_at)

  -- an outcome that is looked into is that of a step
  pub origin_step : (j : ℕ) (v : OutcomeValue) → slice_get given.recorded.outcomes j ≡ Some v → (s : StepValue) × (slice_get given.recorded.first j ≡ Some s)
  origin_step j v e = get_other given.recorded.outcomes given.recorded.first j v (as_many B C src given.recorded.first ds given.recorded.outcomes given.recorded.steps) e

  -- an origin has what was looked up
  origin_tells : (s : State) → Keeps s → (o : OriginValue) (r : Looked) → LooksUpOrigin B src (slice_get given.recorded.outcomes) o r → HasFinished s o → AgreesWith (option_map entry_node (origin_at run.tree s o)) r
  origin_tells s keeps (source p) r look done =
      looks_from (TellsDirectory B) (FailsDirectory B) S (told_reads B S values given.apart) p (Some (whole run.tree)) r given.ordered own
      (subst (λ d. LooksFrom (TellsDirectory B) (FailsDirectory B) p (Some (Dir d)) r) (sym given.sources) look)
  origin_tells s keeps (output j p) r look done =
      let step = origin_step j look.0 look.1 in
      let c = chosen_at j step.0 step.1 in
      let outcome = one_answer (slice_get given.recorded.outcomes j) look.0 c.kept.outcome look.1 c.kept.outcome_at in
      let is = published s keeps j step.0 step.1 c done.0 done.1 in
      let at : origin_at run.tree s (output j p) ≡ output_at c.pair.1.outputs p =
      ap (option_and_then (λ (o : Outcome). output_at o.outputs p)) done.1 ∙ ap (λ (o : Outcome). output_at o.outputs p) is in
      subst (λ z. AgreesWith (option_map entry_node z) r) (sym at) (chosen_tells j step.0 c p r (subst (λ v. LooksIn v p r) outcome look.2))

  origin_ordered : (s : State) → Keeps s → (o : OriginValue) (x : NodeValue) → LooksUpOrigin B src (slice_get given.recorded.outcomes) o (found x) → IsOrderedAt (origin_at run.tree s o)
  origin_ordered s keeps (source p) x look = ordered_at p (Some (whole run.tree)) given.ordered
  origin_ordered s keeps (output j p) x look = by (outcome_of j s) refl
    where
      by : (q : Option Outcome) → outcome_of j s ≡ q → IsOrderedAt (option_and_then (λ (o : Outcome). output_at o.outputs p) q)
      by None is = tt
      by (Some o) is =
          let step = origin_step j look.0 look.1 in
          let c = chosen_at j step.0 step.1 in
          let valid = (given.runs.table.actions c.pair.0 c.pair.1 c.in_table).1 in
          subst (λ (z : Outcome). IsOrderedAt (output_at z.outputs p)) (sym (published s keeps j step.0 step.1 c o is)) (output_ordered c.pair.1.outputs p valid.outputs)

  -- ---- lines and their grafts

  -- the blobs of what stands at an origin
  origin_blobs : (s : State) → Keeps s → (o : OriginValue) (x : NodeValue) → LooksUpOrigin B src (slice_get given.recorded.outcomes) o (found x) → (e : Entry Leaf) → origin_at run.tree s o ≡ Some e → (b : List ℕ) → IsBlobOfOne e b → S b
  origin_blobs s keeps (source p) x look e is b q = own b (blobs_below p (Some (whole run.tree)) e b is q)
  origin_blobs s keeps (output j p) x look e is b q = by (outcome_of j s) refl is
    where
      by : (q : Option Outcome) → outcome_of j s ≡ q → option_and_then (λ (o : Outcome). output_at o.outputs p) q ≡ Some e → S b
      by None at is = absurd cc
      by (Some o) at is =
          let step = origin_step j look.0 look.1 in
          let c = chosen_at j step.0 step.1 in
          let there = output_found o.outputs p e is in
          let own = blob_of_entry there.0.1 b (blobs_below there.2 (Some there.0.1) e b there.4 q) in
          picked b (c.pair, holds_at run.chosen j c.pair c.pair_at, inr (subst (λ (z : Outcome). IsBlobOfOutcome z b) (published s keeps j step.0 step.1 c o at) (there.0, there.1, own)))

  -- where what is below an origin is read
  origin_read : (o : OriginValue) (x : NodeWithin) → StandsAtOrigin B src (slice_get given.recorded.outcomes) o x → IsRead S x
  origin_read (source p) x k = record {
    held = subst (λ w. IsHeldIn w x.node) (sym k.within) (source_held x.node);
    blobs = λ b q. absurd (subst (λ w. IsBlobIn w b) k.within q);
  }
  origin_read (output j p) x k =
      let step = origin_step j k.node.0 k.node.1 in
      let c = chosen_at j step.0 step.1 in
      let told = c.kept.step.recorded in
      let v = k.node.0 in
      let same : c.kept.outcome ≡ v = one_answer (slice_get given.recorded.outcomes j) c.kept.outcome v c.kept.outcome_at k.node.1 in
      let other : k.within.0 ≡ v = one_answer (slice_get given.recorded.outcomes j) k.within.0 v k.within.1 k.node.1 in
      let lies = subst (λ o. LiesWithin o p x.within) other k.within.2 in
      let holds : (e : List Name × OutputValue) → Contains v.outputs e → HoldsOutput S given.apart e.1 =
      subst (λ (o : OutcomeValue). (e : List Name × OutputValue) → Contains o.outputs e → HoldsOutput S given.apart e.1) same (holds_outputs told.recorded c.kept.outcome.outputs told.outputs) in
      record {
        held = outcome_held v (subst IsOutcome same told.valid) (λ e here. valid_tree given.apart e.1 (holds e here)) p x k.node.2 lies;
        blobs = λ b q. tree_blobs given.apart lies.0.1 (holds lies.0 lies.1) b (subst (λ w. IsBlobIn w b) lies.3 q);
      }

  -- what stands at the origins of lines is what was looked up there
  lines_tell : (s : State) → Keeps s → (ls : List LineValue) → ArePaths ls → (xs : MergeLines) → Resolves B src (slice_get given.recorded.outcomes) ls xs → HaveFinished s ls → LinesTell S run.tree s ls xs
  lines_tell s keeps [] paths xs r done = subst (LinesTell S run.tree s []) (sym r) (no_lines S run.tree s)
  lines_tell s keeps (l ∷ ls) paths xs r done =
      subst (LinesTell S run.tree s (l ∷ ls)) (sym r.4)
      (one_more S run.tree s l r.0 ls r.2 paths.0 (origin_tells s keeps l.origin (found r.0.node) r.1.node done.0) (origin_ordered s keeps l.origin r.0.node r.1.node) (origin_read l.origin r.0 r.1)
      (origin_blobs s keeps l.origin r.0.node r.1.node)
      (lines_tell s keeps ls paths.1 r.2 r.3 done.1))

  -- what lines whose steps have finished put together is there, with the digest that was found
  pub grafts : (s : State) → Keeps s → (ls : List LineValue) → ArePaths ls → (xs : MergeLines) → Resolves B src (slice_get given.recorded.outcomes) ls xs → (made : Tree NodeValue) → (merged B xs).passes made → HaveFinished s ls
      → (g : Tree Leaf) × (merge_of run.tree s ls ≡ Some g) × (root (form g) ≡ root made) × IsOrdered g
  grafts s keeps ls paths xs r made merges done = told_graft S run.tree s given.apart B values (lines_tell s keeps ls paths xs r done) made merges

  -- where a graft is there, the steps that its lines read have finished
  origin_finished : (s : State) (o : OriginValue) (e : Entry Leaf) → origin_at run.tree s o ≡ Some e → HasFinished s o
  origin_finished s (source p) e is = tt
  origin_finished s (output j p) e is = by (outcome_of j s) refl is
    where
      by : (q : Option Outcome) → outcome_of j s ≡ q → option_and_then (λ (o : Outcome). output_at o.outputs p) q ≡ Some e → (o : Outcome) × (outcome_of j s ≡ Some o)
      by None at is = absurd cc
      by (Some o) at is = (o, at)

  origins_finished : (s : State) (ls : List LineValue) (es : List (List Name × Entry Leaf)) → origins run.tree s ls ≡ Some es → HaveFinished s ls
  origins_finished s [] es is = tt
  origins_finished s (l ∷ ls) es is = by (origin_at run.tree s l.origin) (origins run.tree s ls) refl refl is (origins_finished s ls)
    where
      by : (o : Option (Entry Leaf)) (q : Option (List (List Name × Entry Leaf))) → origin_at run.tree s l.origin ≡ o → origins run.tree s ls ≡ q → option_and_then (λ e. option_map (λ es. (l.target, e) ∷ es) q) o ≡ Some es
          → ((es : List (List Name × Entry Leaf)) → origins run.tree s ls ≡ Some es → HaveFinished s ls) → HasFinished s l.origin × HaveFinished s ls
      by None q at those is rest = absurd cc
      by (Some e) None at those is rest = absurd cc
      by (Some e) (Some others) at those is rest = (origin_finished s l.origin e at, rest others those)

  pub graft_finished : (s : State) (ls : List LineValue) (g : Tree Leaf) → merge_of run.tree s ls ≡ Some g → HaveFinished s ls
  graft_finished s ls g is = by (origins run.tree s ls) refl is
    where
      by : (q : Option (List (List Name × Entry Leaf))) → origins run.tree s ls ≡ q → option_and_then merge q ≡ Some g → HaveFinished s ls
      by None those is = absurd cc
      by (Some es) those is = origins_finished s ls es those

  -- where lines have a fault, other than a Directory that isn't told, they put nothing together
  missing : (s : State) → Keeps s → (why : LinesFault) → ((f : Fault) → why ≢ not_read f) → (o : OriginValue) (r : Looked) → LooksUpOrigin B src (slice_get given.recorded.outcomes) o r → IsFaultOfLook o r why → origin_at run.tree s o ≡ None
  missing s keeps why told o (fault f) look is = absurd (told f is)
  missing s keeps why told o (found x) look is = absurd is
  missing s keeps why told o nothing look is = by (origin_at run.tree s o) refl
    where
      by : (q : Option (Entry Leaf)) → origin_at run.tree s o ≡ q → origin_at run.tree s o ≡ None
      by None at = at
      by (Some e) at =
          let none : option_map entry_node (origin_at run.tree s o) ≡ None = origin_tells s keeps o nothing look (origin_finished s o e at) in
          let clash : ◌≡◌ {A = Option NodeValue} (Some (entry_node e)) None = sym (ap (option_map entry_node) at) ∙ none in
          absurd cc

  first_missing : (s : State) → Keeps s → (why : LinesFault) → ((f : Fault) → why ≢ not_read f) → (ls : List LineValue) → FirstFault B src (slice_get given.recorded.outcomes) ls why → origins run.tree s ls ≡ None
  first_missing s keeps why told [] k = absurd k
  first_missing s keeps why told (l ∷ ls) (inl (r, look, is)) =
      ap (option_and_then (λ e. option_map (λ es. (l.target, e) ∷ es) (origins run.tree s ls))) (missing s keeps why told l.origin r look is)
  first_missing s keeps why told (l ∷ ls) (inr (x, look, rest)) =
      ap (λ q. option_and_then (λ e. option_map (λ es. (l.target, e) ∷ es) q) (origin_at run.tree s l.origin)) (first_missing s keeps why told ls rest) ∙ none (origin_at run.tree s l.origin)
    where
      none : (q : Option (Entry Leaf)) → option_and_then {U = List (List Name × Entry Leaf)} (λ (e : Entry Leaf). option_map (λ (es : List (List Name × Entry Leaf)). (l.target, e) ∷ es) None) q ≡ None
      none None = refl
      none (Some e) = refl

  pub put_nothing : (s : State) → Keeps s → (ls : List LineValue) → ArePaths ls → IsLinesFault B src given.recorded.outcomes ls → merge_of run.tree s ls ≡ None
  unfolding ◌and_then◌
  put_nothing s keeps ls paths lacks = by lacks.fails
    where
      none : (p : List Name) (xs : MergeLines) → Resolves B src (slice_get given.recorded.outcomes) ls xs → (merged B xs).fails (conflict p) → (q : Option (Tree Leaf)) → merge_of run.tree s ls ≡ q → merge_of run.tree s ls ≡ None
      none p xs r fails None at = at
      none p xs r fails (Some g) at = no_graft_told S run.tree s given.apart B values (lines_tell s keeps ls paths xs r (graft_finished s ls g at)) p fails

      by : (put_together B src (slice_get given.recorded.outcomes) ls).fails lacks.why → merge_of run.tree s ls ≡ None
      by (inl k) = ap (option_and_then merge) (first_missing s keeps lacks.why lacks.told ls k)
      by (inr (xs, r, (unreadable f, fails, is))) = absurd (lacks.told f is)
      by (inr (xs, r, (conflict p, fails, is))) = none p xs r fails (merge_of run.tree s ls) refl
