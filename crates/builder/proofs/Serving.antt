-- After a build its store serves it, so that its record is answered yes.
use Rattle.std.proofs.Common.{◌≡◌, ℕ, zero, suc, ◌<◌, List, [], ◌∷◌, ◌++◌, Option, Some, None, refl, ap, sym, ◌∙◌, subst, arith, inl, inr}
use Rattle.std.specs.Prelude.{◌⊎◌, slice_get, option_map, Contains}
use Rattle.std.specs.List.{AllByRecursion}
use Rattle.std.proofs.lemmas.Option.{slice_get_within}
use Rattle.blob_digest.specs.Digest.{DigestValue, digest_of, NoClash}
use Rattle.messages.specs.declared.node.Node.TheVariants.{Dir}
use Rattle.messages.specs.Node.{child}
use Rattle.action_messages.specs.Action.{with_input, action_bytes}
use Rattle.action_messages.specs.Command.{IsCommand, command_bytes}
use Rattle.blob_source.specs.Source.{Blobs, Telling, IsBlobUnder}
use Rattle.blob_source.specs.Sink.{HasRight, KeepsRight}
use Rattle.blob_source.specs.Told.{IsTold, TellsDirectory, FailsDirectory}
use Rattle.plan.specs.Record.{RecordValue, names_of}
use Rattle.plan.specs.Values.{source, LineValue, StepValue, PlanValue}
use Rattle.tree.specs.Tree.{Name, Tree, Leaf, Entry, single, whole, file, link, entry_of, below_entry}
use Rattle.tree.specs.Form.{NodeValue, form, directory_of, top, root, entry_node}
use Rattle.tree.specs.Lookup.{found, LooksFrom, Looks}
use Rattle.tree.specs.Merging.{MergeLines, merged}
use Rattle.tree.proofs.Children.{child-directory_of}
use Rattle.tree.proofs.LookupLemmas.{IsBlobOfEntry, entry_blobs, ReadsTrees, told_reads}
use Rattle.tree.proofs.OrderLemmas.{IsOrderedAt, entry_ordered}
use Rattle.verifier.specs.Build.{Meaning, ActionMeaning, action_digest, Outcome, Event, State, action_of, AreLinesOf}
use Rattle.verifier.proofs.FreshRuns.{one_answer}
use Rattle.runs.specs.Calls.{IsFinished, IsOpened, placed, kept_digests}
use Rattle.runs.specs.Engine.{FinishedValue, JobValue, EngineValue, IsEngine, at_number, finished_in, job_in}
use Rattle.tree.specs.Stage.{◌and_then◌}
use Rattle.verifier.specs.Together.{LooksUpOrigin, Resolves}
use Rattle.verifier.proofs.VerdictOnceLines.{resolves_once}
use Rattle.runs.specs.Looking.{outcomes_in, together_in}
use Rattle.runs.specs.Mirrors.{IsConcernedIn, IsMirrored}
use Rattle.runs.specs.Served.{IsLineOf, TellsWay, Serves}
use Rattle.runs.proofs.Lost.{steady_of}
use Rattle.runs.proofs.Noted.{outcome_there, kept_each}
use Rattle.runs.proofs.Places.{set_at}
use Rattle.runs.proofs.Steady.{IsMade, made_of}
use Rattle.worker.specs.Calls.{Call, started, launched, ran, taken, lost, WasStarted, Does, Leads, IsLed}
use Rattle.worker.specs.Outcomes.{Yields}
use Rattle.worker.specs.Stored.{IsToldOrTree, IsStored}
use Rattle.worker.proofs.Acts.{led_same}
use Rattle.worker.proofs.Started.{job_of, after}
use Rattle.worker.proofs.Storing.{which, grows, right_blob}
use Rattle.worker.proofs.Telling.{blob_still}
use Rattle.builder.specs.Built.{BuiltValue, IsEnd, IsAnsweredYes}
use Rattle.builder.proofs.Staying.{GoesOn, together_stays, valid_outcomes}

-- ---- look-ups

module _ (B : Blobs) (S : List ℕ → Type 0) (reads : ReadsTrees S (TellsDirectory B)) where
  abbrev IsWayTold : List Name → Option (Entry Leaf) → Type 0
  IsWayTold p o = (q : List Name) (n : Name) (r : List Name) → p ≡ q ++ n ∷ r → (u : Tree Leaf) → below_entry q o ≡ Some (whole u) → TellsDirectory B (root (form u)) (directory_of (form u))

  no_path : (q : List Name) (n : Name) (r : List Name) → [] ≡ q ++ n ∷ r → ⊥
  no_path [] n r is = cc
  no_path (m ∷ q) n r is = cc

  way_told : (p : List Name) (o : Option (Entry Leaf)) (x : NodeValue) → IsOrderedAt o → ((b : List ℕ) → IsBlobOfEntry o b → S b)
      → LooksFrom (TellsDirectory B) (FailsDirectory B) p (option_map entry_node o) (found x) → IsWayTold p o
  way_told p None x ordered own h = absurd (let e = h in cc)
  way_told [] (Some e) x ordered own h = λ q n r is u at. absurd (no_path q n r is)
  way_told (m ∷ p) (Some (single (file c b))) x ordered own h = absurd (let e = h in cc)
  way_told (m ∷ p) (Some (single (link t))) x ordered own h = absurd (let e = h in cc)
  way_told (m ∷ p) (Some (whole t)) x ordered own (inr (f, fails, is)) = absurd (let e = is in cc)
  way_told (m ∷ p) (Some (whole t)) x ordered own (inl (d, told, rest)) =
      by (subst (TellsDirectory B (root (form t))) same told)
      (way_told p (entry_of m t) x (entry_ordered m t ordered) (λ b z. own b (inr (entry_blobs m t b z)))
      (subst (λ o. LooksFrom (TellsDirectory B) (FailsDirectory B) p o (found x)) (ap (child m) same ∙ child-directory_of m t ordered) rest))
    where
      same : d ≡ directory_of (form t)
      same = reads t d (own (top (form t)) (inl refl)) told

      by : TellsDirectory B (root (form t)) (directory_of (form t)) → IsWayTold p (entry_of m t) → IsWayTold (m ∷ p) (Some (whole t))
      by here below [] n r is u at =
          let same_tree : t ≡ u = cc in
          subst (λ v. TellsDirectory B (root (form v)) (directory_of (form v))) same_tree here
      by here below (k ∷ q) n r is u at =
          let head : m ≡ k = cc in
          let tail : p ≡ q ++ n ∷ r = cc in
          below q n r tail u (subst (λ j. below_entry q (entry_of j t) ≡ Some (whole u)) (sym head) at)

-- ---- what lines of steps were put together

lines_looked : (B : Blobs) (e : EngineValue) (ls : List LineValue) (xs : MergeLines) → Resolves B e.sources (outcomes_in e.finished) ls xs
    → (l : LineValue) → Contains ls l → (p : List Name) → l.origin ≡ source p → (x : NodeValue) × Looks B e.sources p (found x)
lines_looked B e [] xs r l (k, lt, is) p from = absurd (omega (arith, lt))
lines_looked B e (m ∷ ls) xs r l (zero, lt, is) p from = (r.0.node, subst (λ o. LooksUpOrigin B e.sources (outcomes_in e.finished) o (found r.0.node)) (ap (λ (m : LineValue). m.origin) is ∙ from) r.1.node)
lines_looked B e (m ∷ ls) xs r l (suc k, lt, is) p from = lines_looked B e ls r.2 r.3 l (k, omega (arith, lt), is) p from

placed_which : (js : List (Option JobValue)) (w v : ℕ) (j k : JobValue) → at_number (placed js w j) v ≡ Some k → (at_number js v ≡ Some k) ⊎ (k ≡ j)
placed_which [] w zero j k at = inr cc
placed_which [] w (suc v) j k at = absurd cc
placed_which (o ∷ js) zero zero j k at = inr cc
placed_which (o ∷ js) zero (suc v) j k at = inl at
placed_which (o ∷ js) (suc w) zero j k at = inl at
placed_which (o ∷ js) (suc w) (suc v) j k at = placed_which js w v j k at

-- what had finished stays
goes_with : {old new : EngineValue} → new.sources ≡ old.sources → new.finished ≡ old.finished → GoesOn old new
goes_with sources finished = record { sources = sources; finished = λ i f at. ap (λ fs. at_number fs i) finished ∙ at }

goes_as_it_is : (e : EngineValue) → GoesOn e e
goes_as_it_is e = goes_with refl refl

module _ (A : Type 0) (y : Yields) (t : Telling) (plan : PlanValue) where
  -- what a step's lines put together
  abbrev IsTogether : EngineValue → ℕ → Type 0
  IsTogether e i = (step : StepValue) → slice_get plan.steps i ≡ Some step → (made : Tree NodeValue) × (together_in t.blobs e step.lines).passes made

  -- those of each step that runs or has finished
  record AreTogether (e : EngineValue) : Type 0 where
    plan_is : e.plan ≡ plan
    finished : (i : ℕ) (f : FinishedValue) → finished_in i e ≡ Some f → IsTogether e i
    runs : (w : ℕ) (j : JobValue) → job_in w e ≡ Some j → IsTogether e j.step

  step_stays : {old new : EngineValue} → GoesOn old new → (i : ℕ) → IsTogether old i → IsTogether new i
  step_stays more i h step at = let one = h step at in (one.0, together_stays (λ d b at right. at) more step.lines one.0 one.1)

  started_together : (i id : ℕ) (old new : EngineValue) → WasStarted A t.blobs i id old new → AreTogether old → AreTogether new
  started_together i id old new w h = record {
    plan_is = ap (λ (e : EngineValue). e.plan) (after w) ∙ h.plan_is;
    finished = λ k f at. step_stays more k (h.finished k f (sym (ap (λ (e : EngineValue). finished_in k e) (after w)) ∙ at));
    runs = λ v j at. step_stays more j.step (by v j (placed_which old.jobs id v (job_of w) j (sym (ap (λ (e : EngineValue). job_in v e) (after w)) ∙ at)));
  }
    where
      more : GoesOn old new
      more = goes_with (ap (λ (e : EngineValue). e.sources) (after w)) (ap (λ (e : EngineValue). e.finished) (after w))

      here : IsTogether old i
      here step at =
          let prepared = w.is.prepared in
          let same : prepared.planned ≡ step = one_answer (slice_get plan.steps i) prepared.planned step (sym (ap (λ (q : PlanValue). slice_get q.steps i) h.plan_is) ∙ prepared.at) at in
          (prepared.tree, subst (λ (s : StepValue). (together_in t.blobs old s.lines).passes prepared.tree) same (together_stays w.still (goes_as_it_is old) prepared.planned.lines prepared.tree prepared.together))

      by : (v : ℕ) (j : JobValue) → (at_number old.jobs v ≡ Some j) ⊎ (j ≡ job_of w) → IsTogether old j.step
      by v j (inl before) = h.runs v j before
      by v j (inr is) = subst (IsTogether old) (sym (ap (λ (k : JobValue). k.step) is)) here

  finished_together : (w : ℕ) (v : _) (old new : EngineValue) → IsFinished w v old new → AreTogether old → AreTogether new
  finished_together w v old new f h = record {
    plan_is = ap (λ (e : EngineValue). e.plan) f.after ∙ h.plan_is;
    finished = λ k g at. step_stays more k (by k g (which f k g at));
    runs = λ u j at. step_stays more j.step (h.runs u j (set_at old.jobs w u None j (sym (ap (λ (e : EngineValue). job_in u e) f.after) ∙ at) (λ e. cc)));
  }
    where
      more : GoesOn old new
      more = record { sources = ap (λ (e : EngineValue). e.sources) f.after; finished = grows f }

      by : (k : ℕ) (g : FinishedValue) → (finished_in k old ≡ Some g) ⊎ ((k ≡ f.job.step) × (g ≡ record { action = f.job.action; outcome = v })) → IsTogether old k
      by k g (inl before) = h.finished k g before
      by k g (inr is) = subst (IsTogether old) (sym is.0) (h.runs w f.job f.is)

  does_together : (later : List Call) (c : Call) (old new : EngineValue) → Does A y t later c old new → AreTogether old → AreTogether new
  does_together later (started i id) old new w h = started_together i id old new w h
  does_together later (launched id d x) old new w h = subst AreTogether (sym w.same) h
  does_together later (ran id d v) old new f h = finished_together id v old new f.finished h
  does_together later (taken id d v) old new f h = finished_together id v old new f.finished h
  does_together later (lost id) old new (j, at, gone) h = record {
    plan_is = ap (λ (e : EngineValue). e.plan) gone ∙ h.plan_is;
    finished = λ k f there. step_stays more k (h.finished k f (sym (ap (λ (e : EngineValue). finished_in k e) gone) ∙ there));
    runs = λ u k there. step_stays more k.step (h.runs u k (set_at old.jobs id u None k (sym (ap (λ (e : EngineValue). job_in u e) gone) ∙ there) (λ e. cc)));
  }
    where
      more : GoesOn old new
      more = goes_with (ap (λ (e : EngineValue). e.sources) gone) (ap (λ (e : EngineValue). e.finished) gone)

  leads_together : (most : ℕ) (cs : List Call) (old new : EngineValue) → Leads A y t most cs old new → AreTogether old → AreTogether new
  leads_together most [] old new same h = subst AreTogether (sym same) h
  leads_together most (c ∷ cs) old new (mid, does, few, rest) h = leads_together most cs mid new rest (does_together cs c old mid does h)

-- ---- an engine that was opened

none_at : (fs : List (Option FinishedValue)) (i : ℕ) → AllByRecursion (λ f. f ≡ None) fs → at_number fs i ≡ None
none_at [] i all = refl
none_at (o ∷ fs) zero all = all.0
none_at (o ∷ fs) (suc i) all = none_at fs i all.1

pub none_finished : (e : EngineValue) → AllByRecursion (λ f. f ≡ None) e.finished → (i : ℕ) → finished_in i e ≡ None
none_finished e all i = none_at e.finished i all

never : {X : Type 0} {o : Option X} {x : X} → o ≡ None → o ≡ Some x → ⊥
never e f = cc

recorded_of : (o : Option (List DigestValue)) (names : List (List ℕ)) (noted : RecordValue) → option_map {U = RecordValue} (λ ds. record { names = names; digests = ds }) o ≡ Some noted → o ≡ Some noted.digests
recorded_of None names noted is = absurd cc
recorded_of (Some ds) names noted is = let same : ◌≡◌ {A = RecordValue} (record { names = names; digests = ds }) noted = cc in ap (λ (r : RecordValue). Some r.digests) same

-- ---- the store serves the build

module _ (A : Type 0) (y : Yields) (most : ℕ) (plan : PlanValue) (sources : DigestValue) (opening ending told : Telling) (first last : EngineValue) (b : BuiltValue)
    (opened : IsOpened opening.blobs plan sources first) (still : KeepsRight opening.blobs ending.blobs) (led : IsLed A y ending most first last) (grown : KeepsRight ending.blobs told.blobs)
    (engine : IsEngine last) (stored : IsStored told last) (end : IsEnd A last told b) where
  together : AreTogether A y ending plan last
  together = leads_together A y ending plan most led.calls first last led.leads (record {
    plan_is = opened.plan;
    finished = λ i f at. absurd (never (none_finished first opened.none_finished i) at);
    runs = λ w j at. absurd (never (ap (λ js. at_number js w) opened.none_runs) at);
  })

  plan_is : last.plan ≡ plan
  plan_is = (led_same A y ending most led).plan ∙ opened.plan

  kept : kept_digests last.finished ≡ Some b.noted.digests
  kept = recorded_of (kept_digests last.finished) (names_of last.plan) b.noted end.noted

  -- each step has finished
  done : (i : ℕ) (step : StepValue) → slice_get last.plan.steps i ≡ Some step → (f : FinishedValue) × (finished_in i last ≡ Some f)
  done i step at =
      let lt = slice_get_within last.plan.steps i step at in
      let f = kept_each last.finished b.noted.digests i kept (subst (λ n. i < n) (sym engine.count) lt) in
      (f.0, f.1)

  -- what the lines of a step or of the root put together
  lines_together : (ls : List LineValue) → AreLinesOf last.plan ls → (made : Tree NodeValue) × (together_in told.blobs last ls).passes made
  lines_together ls (inl is) = (end.root.tree, subst (λ ls. (together_in told.blobs last ls).passes end.root.tree) (sym is) end.root.together)
  lines_together ls (inr (i, step, at, is)) =
      let f = done i step at in
      let one = together.finished i f.0 f.1 step (subst (λ (q : PlanValue). slice_get q.steps i ≡ Some step) plan_is at) in
      (one.0, subst (λ ls. (together_in told.blobs last ls).passes one.0) (sym is) (together_stays grown (goes_as_it_is last) step.lines one.0 one.1))

  merges : (ls : List LineValue) → AreLinesOf last.plan ls → (xs : MergeLines) → Resolves told.blobs last.sources (outcomes_in last.finished) ls xs → (u : Tree NodeValue) × (merged told.blobs xs).passes u
  unfolding ◌and_then◌
  merges ls of_plan xs r =
      let one = lines_together ls of_plan in
      (one.0, subst (λ xs. (merged told.blobs xs).passes one.0) (resolves_once told.blobs last.sources (outcomes_in last.finished) (valid_outcomes last engine) ls one.1.0 xs one.1.1 r) one.1.2)

  module _ (t : Tree Leaf) (meaning : Meaning) (X : List (ActionMeaning × Outcome)) (es : List Event) (s : State) (k : IsMirrored told.blobs last (record { tree = t; meaning = meaning; table = X; events = es; now = s })) where
    abbrev S : List ℕ → Type 0
    S = IsConcernedIn told.blobs last meaning t es

    way_from : (p : List Name) (x : NodeValue) → Looks told.blobs last.sources p (found x) → TellsWay told.blobs t p
    way_from p x look = way_told told.blobs S (told_reads told.blobs S (λ c q. inl (inl (inl q))) k.apart) p (Some (whole t)) x k.ordered (λ c q. inl (inr (inl q)))
        (subst (λ d. LooksFrom (TellsDirectory told.blobs) (FailsDirectory told.blobs) p (Some (Dir d)) (found x)) (sym k.mirrors.sources) look)

    ways_of : (ls : List LineValue) → AreLinesOf last.plan ls → (l : LineValue) → Contains ls l → (p : List Name) → l.origin ≡ source p → TellsWay told.blobs t p
    unfolding ◌and_then◌
    ways_of ls of_plan l inside p from =
        let one = (lines_together ls of_plan).1 in
        let look = lines_looked told.blobs last ls one.0 one.1 l inside p from in
        way_from p look.0 look.1

    ways : (l : LineValue) → IsLineOf last.plan l → (p : List Name) → l.origin ≡ source p → TellsWay told.blobs t p
    ways l (inl (i, step, at, inside)) p from = ways_of step.lines (inr (i, step, at, refl)) l inside p from
    ways l (inr inside) p from = ways_of last.plan.root_lines (inl refl) l inside p from

    actions : (i : ℕ) (a : ActionMeaning) → action_of last.plan meaning t s i ≡ Some a
        → IsBlobUnder told.blobs (action_digest a) (action_bytes (with_input a.frame (root (form a.input)))) × IsBlobUnder told.blobs a.frame.command (command_bytes a.command)
    actions i a is = (right_blob told.blobs text right same, blob_still (λ d c at right. grown d c (still d c at right) right) command.blob)
      where
        m : IsMade last.plan meaning t s i a
        m = made_of last.plan meaning t s i a is

        f : (f : FinishedValue) × (finished_in i last ≡ Some f)
        f = done i m.step m.at

        text : List ℕ
        text = action_bytes (with_input a.frame (root (form a.input)))

        digest : f.0.action ≡ digest_of text
        digest =
            let own = k.mirrors.actions i f.0 f.1 in
            own.2 ∙ ap action_digest (one_answer (action_of last.plan meaning t s i) own.0 a own.1 is)

        right : HasRight told.blobs (digest_of text)
        right = subst (HasRight told.blobs) digest (stored.actions i f.0 f.1)

        own_text : S text
        own_text =
            let o = outcome_there last t meaning s k.mirrors i f.0 f.1 in
            let settled = (steady_of last t meaning X s told.blobs es k).done i o.0 o.1 in
            subst (λ (c : ActionMeaning). S (action_bytes (with_input c.frame (root (form c.input))))) (one_answer (action_of last.plan meaning t s i) settled.action a settled.is is)
            (settled.blobs (action_bytes (with_input settled.action.frame (root (form settled.action.input)))) (inl (inl refl)))

        same : right.0 ≡ text
        same = k.apart right.0 text (inl (inl (inl (digest_of text, right.1)))) own_text right.2

        command : IsTold IsCommand command_bytes opening.blobs a.frame.command a.command
        command =
            (opened.told.each i m.step a.frame a.command (subst (λ (q : PlanValue). slice_get q.steps i ≡ Some m.step) plan_is m.at)
            (ap (λ fs. slice_get fs i) (sym (led_same A y ending most led).frames) ∙ k.mirrors.frames i m.step m.at ∙ m.frame)
            (ap (λ cs. slice_get cs i) (sym (led_same A y ending most led).commands) ∙ k.mirrors.commands i m.step m.at ∙ m.command)).0.command

    serves : NoClash (IsToldOrTree told.blobs last) → Serves told.blobs told.results last t meaning s
    serves apart = record { sources = ways; merges = merges; actions = actions; results = stored.results apart }

  pub answered : IsAnsweredYes A told last b
  answered = record {
    of_run = λ run k apart. end.served.of_run told run b.noted.digests k k kept (serves run.tree run.meaning run.table run.events run.now k apart);
  }
