-- A complete run that an engine mirrors is answered yes, where blobs and results serve it: each step is as recorded, and the
-- root is accepted.
use Rattle.std.proofs.Common.{◌≡◌, ℕ, zero, suc, ◌+◌, ◌<◌, List, [], ◌∷◌, ◌++◌, map, length, Option, Some, None, refl, ap, sym, ◌∙◌, subst, arith, inl, inr}
use Rattle.std.specs.Prelude.{◌⊎◌, option_map, option_and_then, slice_get, Contains, IsSomeAnd}
use Rattle.std.specs.List.{AllByRecursion}
use Rattle.std.proofs.lemmas.Option.{slice_get_within}
use Rattle.blob_digest.specs.Digest.{DigestValue, NoClash}
use Rattle.messages.specs.declared.node.Node.TheVariants.{File, Link, Dir}
use Rattle.messages.specs.Tree.{TreeValue, IsTree, tree_bytes}
use Rattle.action_messages.specs.Action.{with_input, action_bytes}
use Rattle.action_messages.specs.ActionResult.{ActionResultValue}
use Rattle.actions.specs.declared.outcome.Output.TheVariants as outputs
use Rattle.actions.specs.Outcome.{OutputValue, OutcomeValue, outputs_form, paths_of_outputs}
use Rattle.actions.specs.OutcomeLookup.{LooksBelow, LooksIn, within_output, LiesWithin}
use Rattle.action_messages.specs.OutputDirectory.{OutputDirectoryValue}
use Rattle.action_messages.specs.Outputs.{RecordedValue, file, directory, link, directories_among}
use Rattle.actions.specs.Recorded.{StandForAll, IsRecorded}
use Rattle.actions.proofs.RecordedAt.{recorded_at}
use Rattle.actions.proofs.TreeLookups.{behind}
use Rattle.actions.proofs.TreeBytes.{tree_bytes_some}
use Rattle.plan.specs.Plan.{IsPlan, AreSteps}
use Rattle.plan.specs.Values.{OriginValue, source, output, LineValue, StepValue, IsLine, IsOrigin}
use Rattle.tree.specs.Tree.{Name, Tree, Leaf, Entry, whole}
use Rattle.tree.specs.Form.{NodeValue, entry_node, form, top, root}
use Rattle.tree.specs.Merge.{merge}
use Rattle.tree.specs.MergeAgrees.{IsBlobIn}
use Rattle.tree.specs.Merging.{WithinValue, in_source, MergeLines, IsHeldIn, AreHeld, merged}
use Rattle.tree.specs.Merging.{NamesDirectory}
use Rattle.tree.proofs.MergeAlike.{Twin, Twins, first_of, second_of, firsts, seconds, IsTwin, AreTwins, merge_alike}
use Rattle.blob_source.specs.Source.{Blobs, Grows, IsUnder, IsBlobUnder}
use Rattle.blob_source.specs.Told.{IsTold, TellsDirectory, FailsDirectory}
use Rattle.tree.specs.Lookup.{found, LooksFrom, IsValue}
use Rattle.tree.proofs.TreeDigests.{IsDigest-digest_of}
use Rattle.verifier.specs.Together.{StandsAtOrigin, Resolves}
use Rattle.verifier.specs.AsRecorded.{IsAsRecorded, AreAsRecorded, IsPlanAsRecorded}
use Rattle.verifier.specs.Build.{Meaning, ActionMeaning, action_digest, Outcome, output_at, Event, State, origin_at, origins, merge_of, action_of, AreLinesOf}
use Rattle.verifier.specs.Headline.{IsBlobOfAction, IsBlobOfOutcome, IsConcerned}
use Rattle.verifier.specs.Holding.{HoldsResult}
use Rattle.verifier.specs.Recorded.{IsRecordedAs, Agrees, HaveOneForm}
use Rattle.verifier.proofs.HeldOrigins.{source_held, outcome_held}
use Rattle.verifier.proofs.OutputLookups.{HoldsTree, HoldsOutput}
use Rattle.verifier.proofs.RecordedSteps.{pushed_at}
use Rattle.verifier.proofs.Targets.{ArePaths, paths_of}
use Rattle.verifier.proofs.Looking.{passes_together}
use Rattle.verifier.proofs.Passing.{recorded_verdict}
use Rattle.runs.specs.Engine.{FinishedValue, EngineValue, IsEngine, finished_in}
use Rattle.runs.specs.Calls.{kept_digests}
use Rattle.runs.specs.Mirrors.{IsFormOf, IsConcernedIn, IsMirrored}
use Rattle.runs.specs.Looking.{outcomes_in}
use Rattle.runs.specs.Served.{TellsWay, Serves, IsServedYes}
use Rattle.runs.specs.Ties.{IsRootOf}
use Rattle.verifier.proofs.FreshRuns.{one_answer}
use Rattle.runs.proofs.Places.{has_one, taken_within, outcome_is}
use Rattle.runs.proofs.Steady.{Steady, made_of}
use Rattle.runs.proofs.Lost.{steady_of}
use Rattle.runs.proofs.Noted.{outcome_there, kept_count, kept_each}
use Rattle.runs.proofs.Resolved.{holds_output, grafted}
use Rattle.verifier.proofs.LinesTold.{valid_tree, tree_blobs}
use Rattle.runs.proofs.Found.{way_found, outputs_found}

-- ---- lists

pushed_length : {X : Type 0} (xs : List X) (x : X) → length (xs ++ x ∷ []) ≡ suc (length xs)
pushed_length [] x = refl
pushed_length (z ∷ xs) x = ap suc (pushed_length xs x)

-- a partner for each element
pub record Partners {Y Z : Type 0} (P : Y → Z → Type 0) (ys : List Y) : Type 0 where
  pub zs : List Z
  pub count : length zs ≡ length ys
  pub each : (i : ℕ) (y : Y) (z : Z) → slice_get ys i ≡ Some y → slice_get zs i ≡ Some z → P y z
  pub from : (z : Z) → Contains zs z → (y : Y) × P y z

partners : {Y Z : Type 0} (P : Y → Z → Type 0) (ys : List Y) → ((i : ℕ) (y : Y) → slice_get ys i ≡ Some y → (z : Z) × P y z) → Partners P ys
partners P [] h = record { zs = []; count = refl; each = λ i y z at to. absurd (none i y at); from = λ z c. absurd (let lt = c.1 in omega (arith, lt)) }
  where
    none : {Y : Type 0} (i : ℕ) (y : Y) → slice_get [] i ≡ Some y → ⊥
    none i y h = cc
partners {Y} {Z} P (y ∷ ys) h =
    let z = h 0 y refl in
    let rest = partners P ys (λ i x at. h (suc i) x at) in
    record { zs = z.0 ∷ rest.zs; count = ap suc rest.count; each = λ i x w at to. each i x w z.0 z.1 rest.zs rest.each at to; from = λ w c. from w z.0 z.1 rest.zs rest.from c }
  where
    each : (i : ℕ) (x : Y) (w z : Z) → P y z → (zs : List Z) → ((i : ℕ) (x : Y) (w : Z) → slice_get ys i ≡ Some x → slice_get zs i ≡ Some w → P x w) → slice_get (y ∷ ys) i ≡ Some x → slice_get (z ∷ zs) i ≡ Some w → P x w
    each zero x w z p zs rest at to = let one : y ≡ x = cc in let two : z ≡ w = cc in subst (λ v. P v w) one (subst (P y) two p)
    each (suc i) x w z p zs rest at to = rest i x w at to

    from : (w z : Z) → P y z → (zs : List Z) → ((w : Z) → Contains zs w → (x : Y) × P x w) → Contains (z ∷ zs) w → (x : Y) × P x w
    from w z p zs rest (zero, lt, is) = (y, subst (P y) is p)
    from w z p zs rest (suc k, lt, is) = rest w (k, omega (arith, lt), is)

-- ---- forms

form_through : (v w : OutcomeValue) (o : Outcome) → HaveOneForm v w → IsFormOf w o → IsFormOf v o
form_through v w o h k = record {
  exit_code = h.exit_code ∙ k.exit_code;
  outputs = λ p x. (λ c. (k.outputs p x).0 (subst (λ os. Contains os (p, x)) h.outputs c), λ c. subst (λ os. Contains os (p, x)) (sym h.outputs) ((k.outputs p x).1 c));
}

form_paths : (es : List (List Name × OutputValue)) → map (λ (e : List Name × NodeValue). e.0) (outputs_form es) ≡ paths_of_outputs es
form_paths [] = refl
form_paths (e ∷ es) = ap (λ ps. e.0 ∷ ps) (form_paths es)

-- where what is below a path is read
lies_in : (o : OutcomeValue) (p : List Name) (x : NodeValue) → LooksIn o p (found x) → (w : WithinValue) × LiesWithin o p w × (NamesDirectory x → w ≡ in_source → ⊥)
lies_in o p x (inl (e, here, names, path, look)) = (within_output e.1, (e, here, (names, path), refl), by e.1 names look)
  where
    by : (v : OutputValue) (names : List Name) → LooksBelow v names (found x) → NamesDirectory x → within_output v ≡ in_source → ⊥
    by (outputs.File d b) [] look dir is = let same : x ≡ File d b = cc in subst NamesDirectory same dir
    by (outputs.File d b) (n ∷ names) look dir is = cc
    by (outputs.Link t) [] look dir is = let same : x ≡ Link t = cc in subst NamesDirectory same dir
    by (outputs.Link t) (n ∷ names) look dir is = cc
    by (outputs.Tree t) names look dir is = cc
lies_in o p x (inr (none, is)) = absurd (let e = is in cc)

there_and : {X : Type 0} (P : X → Type 0) (o : Option X) → IsSomeAnd o P → (x : X) × (o ≡ Some x) × P x
there_and P None h = elim h [ ]
there_and P (Some x) h = (x, refl, h)

-- ---- the steps

module _ (B C : Blobs) (e : EngineValue) (t : Tree Leaf) (meaning : Meaning) (X : List (ActionMeaning × Outcome)) (es : List Event) (s : State) (engine : IsEngine e) (k : IsMirrored B e (record { tree = t; meaning = meaning; table = X; events = es; now = s })) (serves : Serves B C e t meaning s) where
  abbrev S : List ℕ → Type 0
  S = IsConcernedIn B e meaning t es

  steady : Steady e.plan meaning t X k.table S s
  steady = steady_of e t meaning X s B es k

  -- the Trees of a recorded outcome
  holds_told : (d : DigestValue) (u : TreeValue) → IsTold IsTree tree_bytes B d u → HoldsTree S k.apart u
  holds_told d u told = record { valid = told.valid; held = λ m inside. inl (inl (inr (u, told.valid, by told.blob.held, m, inside, refl))) }
    where
      by : IsUnder B d (Some (tree_bytes u)) → IsValue B (tree_bytes u)
      by (inl h) = absurd (tree_bytes_some u (let both : ◌≡◌ {A = Option (List ℕ)} (Some (tree_bytes u)) (Some []) = h.1 in cc))
      by (inr h) = (d, sym h.1)

  holds_outputs : (xs : List RecordedValue) (ys : List (List Name × OutputValue)) → StandForAll B xs ys → (y : List Name × OutputValue) → Contains ys y → HoldsOutput S k.apart y.1
  holds_outputs [] ys h y (j, lt, is) = let none : length ys ≡ 0 = ap length h in absurd (omega (arith, none))
  holds_outputs (x ∷ xs) [] h y c = elim h [ ]
  holds_outputs (file f ∷ xs) (z ∷ ys) h y (zero, lt, is) = subst (λ (z : List Name × OutputValue). HoldsOutput S k.apart z.1) is (subst (HoldsOutput S k.apart) (sym h.1) tt)
  holds_outputs (link l ∷ xs) (z ∷ ys) h y (zero, lt, is) = subst (λ (z : List Name × OutputValue). HoldsOutput S k.apart z.1) is (subst (HoldsOutput S k.apart) (sym h.1) tt)
  holds_outputs (directory d ∷ xs) (z ∷ ys) h y (zero, lt, is) = subst (λ (z : List Name × OutputValue). HoldsOutput S k.apart z.1) is (subst (HoldsOutput S k.apart) (sym h.1.2) (holds_told d.tree h.1.0 h.1.1))
  holds_outputs (x ∷ xs) (z ∷ ys) h y (suc j, lt, is) = holds_outputs xs ys h.2 y (j, omega (arith, lt), is)

  -- an outcome that was recorded of a step that has finished
  record IsServed (i : ℕ) (v : OutcomeValue) : Type 0 where
    finished : FinishedValue
    is : finished_in i e ≡ Some finished
    result : ActionResultValue
    held : HoldsResult C finished.action result
    stands : IsRecorded B result v
    form : HaveOneForm v finished.outcome

  abbrev AreServed : List OutcomeValue → Type 0
  AreServed before = (j : ℕ) (v : OutcomeValue) → slice_get before j ≡ Some v → IsServed j v

  served_next : (before : List OutcomeValue) (v : OutcomeValue) → AreServed before → IsServed (length before) v → AreServed (before ++ v ∷ [])
  served_next before v all one j w at = by (pushed_at before v w j at)
    where
      by : (slice_get before j ≡ Some w) ⊎ ((j ≡ length before) × (v ≡ w)) → IsServed j w
      by (inl h) = all j w h
      by (inr h) = subst (IsServed j) h.1 (subst (λ n. IsServed n v) (sym h.0) one)

  -- what stands at an origin is found by a verifier and in the engine
  record OriginFound (before : List OutcomeValue) (o : OriginValue) (y : Entry Leaf) : Type 0 where
    twin : Twin
    node : twin.node ≡ entry_node y
    by_engine : StandsAtOrigin B e.sources (outcomes_in e.finished) o (first_of twin)
    recorded : StandsAtOrigin B e.sources (slice_get before) o (second_of twin)
    is : IsTwin S twin
    one : IsHeldIn twin.one twin.node
    other : IsHeldIn twin.other twin.node

  origin_found : (before : List OutcomeValue) → AreServed before → (o : OriginValue) (y : Entry Leaf) → IsOrigin (length before) o → ((p : List Name) → o ≡ source p → TellsWay B t p)
      → origin_at t s o ≡ Some y → OriginFound before o y
  origin_found before all (source p) y valid tells is =
      let look = subst (λ d. LooksFrom (TellsDirectory B) (FailsDirectory B) p (Some (Dir d)) (found (entry_node y))) k.mirrors.sources (way_found B p (Some (whole t)) y k.ordered (tells p refl) is) in
      record {
        twin = record { node = entry_node y; one = in_source; other = in_source };
        node = refl;
        by_engine = record { node = look; within = refl };
        recorded = record { node = look; within = refl };
        is = record { alike = λ dir e. e; first = λ b q. absurd q; second = λ b q. absurd q };
        one = source_held (entry_node y);
        other = source_held (entry_node y);
      }
  origin_found before all (output j p) y valid tells is =
      let v = has_one before j valid.0 in
      let served = all j v.0 v.1 in
      let f = served.finished in
      let o = outcome_there e t meaning s k.mirrors j f served.is in
      let at : output_at o.0.outputs p ≡ Some y = sym (ap (option_and_then (λ (o : Outcome). output_at o.outputs p)) o.1) ∙ is in
      let settled = steady.done j o.0 o.1 in
      let ruled = (k.table.actions settled.action o.0 settled.in_table).1 in
      let holds_v = holds_outputs served.stands.recorded v.0.outputs served.stands.outputs in
      let holds_f = holds_output B e t meaning X es s engine k j f served.is in
      let there = outcome_is e.finished j f served.is in
      let look_v = outputs_found S k.apart o.0 v.0 ruled settled.own holds_v (form_through v.0 f.outcome o.0 served.form o.2) p y at in
      let look_f = outputs_found S k.apart o.0 f.outcome ruled settled.own holds_f o.2 p y at in
      let lies_v = lies_in v.0 p (entry_node y) look_v in
      let lies_f = lies_in f.outcome p (entry_node y) look_f in
      let c = has_one e.commands j (subst (λ n. j < n) (engine.count ∙ sym engine.stand.commands_count) (taken_within e.finished j f served.is)) in
      record {
        twin = record { node = entry_node y; one = lies_f.0; other = lies_v.0 };
        node = refl;
        by_engine = record { node = (f.outcome, there, look_f); within = (f.outcome, there, lies_f.1) };
        recorded = record { node = (v.0, v.1, look_v); within = (v.0, v.1, lies_v.1) };
        is = record {
          alike = λ dir e. absurd (lies_v.2 dir e);
          first = λ b q. tree_blobs k.apart lies_f.1.0.1 (holds_f lies_f.1.0 lies_f.1.1) b (subst (λ w. IsBlobIn w b) lies_f.1.3 q);
          second = λ b q. tree_blobs k.apart lies_v.1.0.1 (holds_v lies_v.1.0 lies_v.1.1) b (subst (λ w. IsBlobIn w b) lies_v.1.3 q);
        };
        one = outcome_held f.outcome (engine.taken j f c.0 served.is c.1).valid (λ x here. valid_tree k.apart x.1 (holds_f x here)) p (record { node = entry_node y; within = lies_f.0 }) look_f lies_f.1;
        other = outcome_held v.0 served.stands.valid (λ x here. valid_tree k.apart x.1 (holds_v x here)) p (record { node = entry_node y; within = lies_v.0 }) look_v lies_v.1;
      }

  -- lines
  record LinesFound (before : List OutcomeValue) (ls : List LineValue) : Type 0 where
    twins : Twins
    by_engine : Resolves B e.sources (outcomes_in e.finished) ls (firsts twins)
    recorded : Resolves B e.sources (slice_get before) ls (seconds twins)
    are : AreTwins S twins
    one : AreHeld (firsts twins)
    other : AreHeld (seconds twins)

  lines_found : (before : List OutcomeValue) → AreServed before → (ls : List LineValue) (os : List (List Name × Entry Leaf)) → AllByRecursion (IsLine (length before)) ls
      → ((l : LineValue) → Contains ls l → (p : List Name) → l.origin ≡ source p → TellsWay B t p) → origins t s ls ≡ Some os → LinesFound before ls
  lines_found before all [] os valid tells is = record { twins = []; by_engine = refl; recorded = refl; are = tt; one = tt; other = tt }
  lines_found before all (l ∷ ls) os valid tells is =
      by (origin_at t s l.origin) (origins t s ls) refl refl is (lines_found before all ls)
    where
      by : (o : Option (Entry Leaf)) (q : Option (List (List Name × Entry Leaf))) → origin_at t s l.origin ≡ o → origins t s ls ≡ q
          → option_and_then (λ e. option_map (λ es. (l.target, e) ∷ es) q) o ≡ Some os
          → ((os : List (List Name × Entry Leaf)) → AllByRecursion (IsLine (length before)) ls → ((l : LineValue) → Contains ls l → (p : List Name) → l.origin ≡ source p → TellsWay B t p) → origins t s ls ≡ Some os → LinesFound before ls)
          → LinesFound before (l ∷ ls)
      by None q at those is rest = absurd cc
      by (Some y) None at those is rest = absurd cc
      by (Some y) (Some others) at those is rest =
          let one = origin_found before all l.origin y valid.0.origin (tells l (0, omega arith, refl)) at in
          let more = rest others valid.1 (λ m c. tells m (behind l ls m c)) those in
          record {
            twins = (l.target, one.twin) ∷ more.twins;
            by_engine = (first_of one.twin, one.by_engine, firsts more.twins, more.by_engine, refl);
            recorded = (second_of one.twin, one.recorded, seconds more.twins, more.recorded, refl);
            are = (one.is, more.are);
            one = (one.one, more.one);
            other = (one.other, more.other);
          }

  -- what they put together
  record LinesMerge (before : List OutcomeValue) (ls : List LineValue) (g : Tree Leaf) : Type 0 where
    nodes : MergeLines
    tree : Tree NodeValue
    resolved : Resolves B e.sources (slice_get before) ls nodes
    put_together : (merged B nodes).passes tree
    same : root tree ≡ root (form g)

  lines_merge : (before : List OutcomeValue) → AreServed before → (ls : List LineValue) → AreLinesOf e.plan ls → ArePaths ls → AllByRecursion (IsLine (length before)) ls
      → ((l : LineValue) → Contains ls l → (p : List Name) → l.origin ≡ source p → TellsWay B t p) → (g : Tree Leaf) → merge_of t s ls ≡ Some g → LinesMerge before ls g
  lines_merge before all ls of_plan paths valid tells g is = by (origins t s ls) refl is
    where
      by : (q : Option (List (List Name × Entry Leaf))) → origins t s ls ≡ q → option_and_then merge q ≡ Some g → LinesMerge before ls g
      by None at is = absurd cc
      by (Some os) at merges =
          let found = lines_found before all ls os valid tells at in
          let made = serves.merges ls of_plan (firsts found.twins) found.by_engine in
          let known = grafted B e t meaning X es s engine k ls paths made.0 (passes_together B e.sources (outcomes_in e.finished) ls (firsts found.twins) made.0 found.by_engine made.1) in
          record {
            nodes = seconds found.twins;
            tree = made.0;
            resolved = found.recorded;
            put_together = merge_alike B S k.apart (λ b q. inl (inl (inl q))) found.twins found.are found.one found.other made.0 made.1;
            same = sym known.2 ∙ ap (λ u. root (form u)) (one_answer (merge_of t s ls) known.0 g known.1 is);
          }

  -- a step
  served_in : (i : ℕ) (f : FinishedValue) → finished_in i e ≡ Some f → (v : OutcomeValue) × IsServed i v
  served_in i f is = let r = serves.results i f is in (r.2, record { finished = f; is = is; result = r.0; held = r.1; stands = r.3; form = r.4 })

  step_recorded : (before : List OutcomeValue) → AreServed before → (i : ℕ) (step : StepValue) → slice_get e.plan.steps i ≡ Some step → ArePaths step.lines → AllByRecursion (IsLine (length before)) step.lines
      → (v : OutcomeValue) (one : IsServed i v) → IsAsRecorded B C e.sources before step one.finished.action v
  step_recorded before all i step at paths_are valid v one =
      let kept = k.mirrors.actions i one.finished one.is in
      let a = kept.0 in
      let made = made_of e.plan meaning t s i a kept.1 in
      let same : made.step ≡ step = one_answer (slice_get e.plan.steps i) made.step step made.at at in
      let parts = lines_merge before all step.lines (inr (i, step, at, refl)) paths_are valid (λ l c p is. serves.sources l (inl (i, step, at, c)) p is) a.input (subst (λ (x : StepValue). merge_of t s x.lines ≡ Some a.input) same made.input) in
      let frame = k.mirrors.frames i step at ∙ made.frame in
      let command = k.mirrors.commands i step at ∙ made.command in
      let stands = engine.stand.each i step a.frame a.command at frame command in
      let told = serves.actions i a kept.1 in
      let taken = engine.taken i one.finished a.command one.is command in
      let paths : paths_of_outputs one.finished.outcome.outputs ≡ paths_of_outputs v.outputs =
      sym (form_paths one.finished.outcome.outputs) ∙ ap (map (λ (x : List Name × NodeValue). x.0)) (sym one.form.outputs) ∙ form_paths v.outputs in
      record {
        action = with_input a.frame (root (form a.input));
        command = a.command;
        nodes = parts.nodes;
        tree = parts.tree;
        result = one.result;
        action_told = record {
          valid = record { frame = stands.0.frame_valid; input = IsDigest-digest_of (top (form a.input)) };
          blob = subst (λ d. IsBlobUnder B d (action_bytes (with_input a.frame (root (form a.input))))) (sym kept.2) told.0;
        };
        may_be_cached = stands.1;
        frame = stands.0.frame_digest;
        command_told = record { valid = stands.0.command_valid; blob = told.1 };
        resolved = parts.resolved;
        put_together = parts.put_together;
        input = parts.same;
        held = one.held;
        exit_code = sym one.stands.exit_code ∙ one.form.exit_code ∙ taken.exit_code;
        recorded = one.stands;
        listed = subst (AllByRecursion (Contains a.command.output_paths)) paths taken.listed;
      }

  -- the steps that are left, behind those before them
  record Rest (n : ℕ) (ss : List StepValue) (ds : List DigestValue) : Type 0 where
    steps : (j : ℕ) (step : StepValue) → slice_get ss j ≡ Some step → slice_get e.plan.steps (n + j) ≡ Some step
    digests : (j : ℕ) (step : StepValue) → slice_get ss j ≡ Some step → (f : FinishedValue) × (finished_in (n + j) e ≡ Some f) × (slice_get ds j ≡ Some f.action)

  rest_next : (n : ℕ) (x : StepValue) (ss : List StepValue) (d : DigestValue) (ds : List DigestValue) → Rest n (x ∷ ss) (d ∷ ds) → Rest (suc n) ss ds
  rest_next n x ss d ds h = record {
    steps = λ j step at. subst (λ m. slice_get e.plan.steps m ≡ Some step) (next j) (h.steps (suc j) step at);
    digests = λ j step at. let f = h.digests (suc j) step at in (f.0, subst (λ m. finished_in m e ≡ Some f.0) (next j) f.1, f.2);
  }
    where
      next : (j : ℕ) → n + suc j ≡ suc n + j
      next j = omega arith

  abbrev Ended : List OutcomeValue → List StepValue → List DigestValue → Type 0
  Ended before ss ds = (outcomes : List OutcomeValue) × AreAsRecorded B C e.sources before ss ds outcomes × AreServed outcomes × (length outcomes ≡ length before + length ss)

  steps_recorded : (earlier ss : List StepValue) (before : List OutcomeValue) (ds : List DigestValue) → AreSteps earlier ss → length earlier ≡ length before → AreServed before → Rest (length before) ss ds → Ended before ss ds
  unfolding served_in
  steps_recorded earlier [] before ds valid count all rest = (before, refl, all, omega arith)
  steps_recorded earlier (x ∷ ss) before [] valid count all rest = let f = rest.digests 0 x refl in absurd (none f.0.action f.2)
    where
      none : (d : DigestValue) → slice_get [] 0 ≡ Some d → ⊥
      none d h = cc
  steps_recorded earlier (x ∷ ss) before (d ∷ ds) valid count all rest =
      let f = rest.digests 0 x refl in
      let here : length before + 0 ≡ length before = omega arith in
      let v = served_in (length before) f.0 (subst (λ m. finished_in m e ≡ Some f.0) here f.1) in
      let at : slice_get e.plan.steps (length before) ≡ Some x = subst (λ m. slice_get e.plan.steps m ≡ Some x) here (rest.steps 0 x refl) in
      let digest : f.0.action ≡ d = (let both : ◌≡◌ {A = Option DigestValue} (Some d) (Some f.0.action) = f.2 in cc) in
      let lines = subst (λ m. AllByRecursion (IsLine m) x.lines) count valid.0.lines.each in
      let one = step_recorded before all (length before) x at (paths_of (length before) x.lines lines) lines v.0 v.1 in
      let grown = pushed_length before v.0 in
      let more = steps_recorded (earlier ++ x ∷ []) ss (before ++ v.0 ∷ []) ds valid.1 (pushed_length earlier x ∙ ap suc count ∙ sym grown) (served_next before v.0 all v.1)
      (subst (λ m. Rest m ss ds) (sym grown) (rest_next (length before) x ss d ds rest)) in
      (more.0, (v.0, subst (λ q. IsAsRecorded B C e.sources before x q v.0) digest one, more.1), more.2, more.3 ∙ counted (length before) (length ss) grown)
    where
      counted : {m : ℕ} (n r : ℕ) → m ≡ suc n → m + r ≡ n + suc r
      counted h = omega (arith, h)

  -- the whole plan
  pub plan_recorded : (ds : List DigestValue) (d : DigestValue) → IsPlan e.plan → kept_digests e.finished ≡ Some ds → IsSomeAnd (merge_of t s e.plan.root_lines) (λ g. root (form g) ≡ d) → IsPlanAsRecorded B C e.sources e.plan ds d
  plan_recorded ds d plan kept ends =
      let all = steps_recorded [] e.plan.steps [] ds plan.steps refl (λ j v at. absurd cc) (record {
        steps = λ j step at. subst (λ m. slice_get e.plan.steps m ≡ Some step) (first j) at;
        digests = λ j step at. let f = kept_each e.finished ds j kept (subst (λ m. j < m) (sym engine.count) (slice_get_within e.plan.steps j step at)) in (f.0, subst (λ m. finished_in m e ≡ Some f.0) (first j) f.1, f.2);
      }) in
      let g = there_and (λ g. root (form g) ≡ d) (merge_of t s e.plan.root_lines) ends in
      let lines = subst (λ m. AllByRecursion (IsLine m) e.plan.root_lines) (first (length e.plan.steps) ∙ sym all.3) plan.root_lines.each in
      let parts = lines_merge all.0 all.2 e.plan.root_lines (inl refl) (paths_of (length all.0) e.plan.root_lines lines) lines (λ l c p is. serves.sources l (inr c) p is) g.0 g.1 in
      record {
        outcomes = all.0;
        steps = all.1;
        root = record { nodes = parts.nodes; tree = parts.tree; resolved = parts.resolved; put_together = parts.put_together; same = parts.same ∙ g.2 };
      }
    where
      first : (j : ℕ) → j ≡ 0 + j
      first j = omega arith

  -- ---- the table agrees with the record

  trees_told : (xs : List RecordedValue) (ys : List (List Name × OutputValue)) → StandForAll B xs ys → AllByRecursion (λ (d : OutputDirectoryValue). (u : TreeValue) × IsTold IsTree tree_bytes B d.tree u) (directories_among xs)
  trees_told [] ys h = tt
  trees_told (x ∷ xs) [] h = elim h [ ]
  trees_told (file f ∷ xs) (y ∷ ys) h = trees_told xs ys h.2
  trees_told (link l ∷ xs) (y ∷ ys) h = trees_told xs ys h.2
  trees_told (directory d ∷ xs) (y ∷ ys) h = ((h.1.0, h.1.1), trees_told xs ys h.2)

  -- a chosen pair for a recorded digest, all of whose blobs are concerned
  record IsChosen (d : DigestValue) (pair : ActionMeaning × Outcome) : Type 0 where
    inside : Contains X pair
    digest : action_digest pair.0 ≡ d
    recorded : IsRecordedAs B C d pair.1
    blobs : (b : List ℕ) → IsBlobOfAction pair.0 b ⊎ IsBlobOfOutcome pair.1 b → S b

  chosen_for : (i : ℕ) (f : FinishedValue) → finished_in i e ≡ Some f → (pair : ActionMeaning × Outcome) × IsChosen f.action pair
  chosen_for i f is =
      let v = served_in i f is in
      let r = serves.results i f is in
      let o = outcome_there e t meaning s k.mirrors i f is in
      let settled = steady.done i o.0 o.1 in
      let kept = k.mirrors.actions i f is in
      let same : settled.action ≡ kept.0 = one_answer (action_of e.plan meaning t s i) settled.action kept.0 settled.is kept.1 in
      let form = form_through r.2 f.outcome o.0 r.4 o.2 in (
        (settled.action, o.0),
        record {
          inside = settled.in_table;
          digest = ap action_digest same ∙ sym kept.2;
          recorded = record {
            result = r.0;
            held = r.1;
            exit_code = sym form.exit_code ∙ r.3.exit_code;
            trees = subst (AllByRecursion (λ (d : OutputDirectoryValue). (u : TreeValue) × IsTold IsTree tree_bytes B d.tree u)) r.3.ordered.directories (trees_told r.3.recorded r.2.outputs r.3.outputs);
            outputs = λ p x. let among = recorded_at B r.0 r.2 p x r.3 in (λ c. among.0 ((form.outputs p x).1 c), λ c. (form.outputs p x).0 (among.1 c));
          };
          blobs = λ b h. both settled.blobs settled.own b h;
        },
      )
    where
      both : {P Q : List ℕ → Type 0} → ((b : List ℕ) → P b → S b) → ((b : List ℕ) → Q b → S b) → (b : List ℕ) → P b ⊎ Q b → S b
      both p q b (inl h) = p b h
      both p q b (inr h) = q b h

  chosen_at : (ds : List DigestValue) → kept_digests e.finished ≡ Some ds → (i : ℕ) (d : DigestValue) → slice_get ds i ≡ Some d → (pair : ActionMeaning × Outcome) × IsChosen d pair
  chosen_at ds kept i d at =
      let f = kept_each e.finished ds i kept (subst (λ n. i < n) (kept_count e.finished ds kept) (slice_get_within ds i d at)) in
      let c = chosen_for i f.0 f.1 in
      let digest : f.0.action ≡ d = one_answer (slice_get ds i) f.0.action d f.2 at in
      (c.0, subst (λ q. IsChosen q c.0) digest c.1)

  pub record_agrees : (ds : List DigestValue) → kept_digests e.finished ≡ Some ds → (chosen : List (ActionMeaning × Outcome)) × Agrees B C X chosen ds × NoClash (IsConcerned B e.plan meaning t chosen es)
  record_agrees ds kept =
      let all = partners IsChosen ds (chosen_at ds kept) in (
        all.zs,
        record { each = all.count; pairs = λ i d pair at to. let c = all.each i d pair at to in (c.inside, c.digest, c.recorded) },
        λ b c p q same. k.apart b c (within all b p) (within all c q) same,
      )
    where
      within : (all : Partners IsChosen ds) (b : List ℕ) → IsConcerned B e.plan meaning t all.zs es b → S b
      within all b (inl h) = inl (inl h)
      within all b (inr (inl h)) = inl (inr (inl h))
      within all b (inr (inr (inl h))) = (all.from h.0 h.1).1.blobs b h.2
      within all b (inr (inr (inr h))) = inl (inr (inr (inr h)))

-- a run that is mirrored with a source is mirrored with each that has less
mirrored_less : (B told : Blobs) (e : EngineValue) (t : Tree Leaf) (meaning : Meaning) (X : List (ActionMeaning × Outcome)) (es : List Event) (s : State) → Grows told B → IsMirrored B e (record { tree = t; meaning = meaning; table = X; events = es; now = s }) → IsMirrored told e (record { tree = t; meaning = meaning; table = X; events = es; now = s })
mirrored_less B told e t meaning X es s grows k = record {
  ordered = k.ordered;
  fits = k.fits;
  table = k.table;
  happened = k.happened;
  mirrors = k.mirrors;
  apart = λ b c p q same. k.apart b c (more b p) (more c q) same;
}
  where
    value : (b : List ℕ) → IsValue told b → IsValue B b
    value b h = (h.0, grows h.0 b h.1)

    more : (b : List ℕ) → IsConcernedIn told e meaning t es b → IsConcernedIn B e meaning t es b
    more b (inl (inl (inl h))) = inl (inl (inl (value b h)))
    more b (inl (inl (inr h))) = inl (inl (inr (h.0, h.1, value (tree_bytes h.0) h.2, h.3, h.4, h.5)))
    more b (inl (inr h)) = inl (inr h)
    more b (inr h) = inr h

pub served_yes : (A : Type 0) (told : Blobs) (e : EngineValue) (d : DigestValue) → IsPlan e.plan → IsEngine e → IsRootOf told e d → IsServedYes A told e d
served_yes A told e d plan engine ends = record {
  of_run = λ tells run ds before k kept serves.
      let t = run.tree in let meaning = run.meaning in let X = run.table in let es = run.events in let s = run.now in
      recorded_verdict A tells e.sources e.plan ds d (plan_recorded tells.blobs tells.results e t meaning X es s engine k serves ds d plan kept (ends.of_run run before));
  of_grown = λ tells run ds grows k kept serves.
      let t = run.tree in let meaning = run.meaning in let X = run.table in let es = run.events in let s = run.now in
      recorded_verdict A tells e.sources e.plan ds d (plan_recorded tells.blobs tells.results e t meaning X es s engine k serves ds d plan kept (ends.of_run run (mirrored_less tells.blobs told e t meaning X es s grows k)));
  agrees = λ B C run ds k kept serves. record_agrees B C e run.tree run.meaning run.table run.events run.now engine k serves ds kept;
}
