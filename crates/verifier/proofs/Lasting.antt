-- What a verdict is by what was told it is by more, where what it says is missing is told nowhere; and by less it is that or a
-- no for something missing.
use Rattle.std.proofs.Common.{◌≡◌, ◌≢◌, ℕ, zero, suc, List, [], ◌∷◌, ◌++◌, Option, Some, None, inl, inr, refl, subst, sym}
use Rattle.std.specs.Prelude.{◌⊎◌, slice_get}
use Rattle.action_messages.specs.Action.{ActionValue, IsAction, action_bytes}
use Rattle.action_messages.specs.ActionResult.{ActionResultValue}
use Rattle.action_messages.specs.Command.{CommandValue, IsCommand, command_bytes}
use Rattle.action_messages.specs.Outputs.{RecordedValue, file, directory, link}
use Rattle.actions.proofs.Reading.{recorded_still, stands_still}
use Rattle.actions.specs.Outcome.{OutcomeValue}
use Rattle.actions.specs.Recorded.{IsOutputFault}
use Rattle.blob_digest.specs.Digest.{DigestValue}
use Rattle.blob_source.specs.Source.{Blobs, Grows, IsMissing, Telling}
use Rattle.blob_source.specs.Told.{FailsDirectory, Fault, IsFault, TellsDirectory, malformed, missing, wrong}
use Rattle.messages.specs.Directory.{directory_bytes}
use Rattle.messages.specs.DirectoryRules.{IsDirectory}
use Rattle.messages.specs.Node.{child}
use Rattle.messages.specs.Tree.{IsTree, tree_bytes}
use Rattle.messages.specs.declared.node.Node.TheVariants.{Dir, File, Link}
use Rattle.plan.specs.Values.{LineValue, OriginValue, PlanValue, StepValue, output, source}
use Rattle.tree.proofs.Descent.{told_still, under_still}
use Rattle.tree.proofs.DifferenceSteps.{reads_still}
use Rattle.tree.specs.Difference.{Differing, Finds, FindsAt, absent, differs, unexplained, unread}
use Rattle.tree.specs.Folded.{first_visits}
use Rattle.tree.specs.Form.{NodeValue, root}
use Rattle.tree.specs.Lookup.{Looked, LooksFrom, fault, found, nothing}
use Rattle.tree.specs.Merging.{MergeFault, MergeLines, NodeWithin, WithinValue, conflict, counted, directory_read, each_name, entry_merged, grouped, in_source, in_tree, line_opened, lone, merged, merged_in, met, node_opened, opened, stands_or, unreadable}
use Rattle.tree.specs.Stage.{Stage, ◌and_then◌}
use Rattle.tree.specs.Tree.{Entry, Name, Tree}
use Rattle.verifier.proofs.Checking.{resolves_still}
use Rattle.verifier.proofs.VerdictOnce.{verdict_once}
use Rattle.verifier.specs.Faults.{cause_of_fault, cause_of_lines}
use Rattle.verifier.specs.StepChecks.{OutputFault, difference_cause, message, read, result_check, result_held, same_input, step_check, together}
use Rattle.verifier.specs.Together.{Earlier, FirstFault, IsFaultOfLook, LinesFault, LooksUpOrigin, in_conflict, no_origin, not_read, of_merge, put_together, resolved, with_faults_named}
use Rattle.verifier.specs.TwoTellings.{TellsMore, IsForMissing}
use Rattle.verifier.specs.Verdict.{IsVerdict, located, plan_check, steps_check}
use Rattle.verifier.specs.declared.verdict.Cause.{Cause}
use Rattle.verifier.specs.declared.verdict.Cause.TheVariants.{BlobMissing, ResultMissing}
use Rattle.verifier.specs.declared.verdict.Place.{Place}
use Rattle.verifier.specs.declared.verdict.Place.TheVariants.{Root, Step}
use Rattle.verifier.specs.declared.verdict.Verdict.{Verdict}
use Rattle.verifier.specs.declared.verdict.Verdict.TheVariants.{No, Yes}

-- ---- checks one after another

-- What passes still passes, and a failure that stays still is one.
pub record Lasts {E V : Type 0} (Stays : E → Type 0) (old new : Stage E V) : Type 0 where
  pub passes : (v : V) → old.passes v → new.passes v
  pub fails : (e : E) → Stays e → old.fails e → new.fails e

lasts_then : {E V W : Type 0} {Stays : E → Type 0} {f g : Stage E V} {n m : V → Stage E W} → Lasts Stays f g → ((v : V) → Lasts Stays (n v) (m v)) → Lasts Stays (f and_then n) (g and_then m)
unfolding ◌and_then◌
lasts_then {E} {V} {W} {Stays} {f} {g} {n} {m} h k = record { passes = λ w p. (p.0, h.passes p.0 p.1, (k p.0).passes w p.2); fails = by }
  where
    by : (e : E) → Stays e → (f and_then n).fails e → (g and_then m).fails e
    by e stays (inl p) = inl (h.fails e stays p)
    by e stays (inr p) = inr (p.0, h.passes p.0 p.1, (k p.0).fails e stays p.2)

lasts_without : {E V : Type 0} {Stays : E → Type 0} {stage : Stage E V} → Lasts Stays stage stage
lasts_without = record { passes = λ v h. h; fails = λ e stays h. h }

lasts_where : {E V : Type 0} {S T : E → Type 0} {f g : Stage E V} → ((e : E) → S e → T e) → Lasts T f g → Lasts S f g
lasts_where by h = record { passes = h.passes; fails = λ e stays k. h.fails e (by e stays) k }

lasts_named : {E F V : Type 0} {Stays : F → Type 0} {name : E → F} {f g : Stage E V} → Lasts (λ e. Stays (name e)) f g → Lasts Stays (with_faults_named name f) (with_faults_named name g)
lasts_named {Stays = Stays} h = record { passes = h.passes; fails = λ why stays k. (k.0, h.fails k.0 (subst Stays k.2 stays) k.1, k.2) }

lasts_located : {A V : Type 0} {place : Place A} {Stays : Place A × Cause A → Type 0} {f g : Stage (Cause A) V} → Lasts (λ c. Stays (place, c)) f g → Lasts Stays (located place f) (located place g)
lasts_located {Stays = Stays} h = record { passes = h.passes; fails = λ why stays k. (k.0, h.fails why.1 (subst (λ p. Stays (p, why.1)) k.0 stays) k.1) }

-- ---- faults

-- what the fault says is missing is
abbrev StaysFault : Blobs → Fault → Type 0
StaysFault C (missing d) = C d ≡ None
StaysFault C (wrong d) = Unit {0}
StaysFault C (malformed d) = Unit {0}

still_missing : (B C : Blobs) (d : DigestValue) → C d ≡ None → IsMissing B d → IsMissing C d
still_missing B C d none (inl h) = inl h
still_missing B C d none (inr h) = inr (h.0, sym none)

abbrev StaysLines : Blobs → LinesFault → Type 0
StaysLines C (no_origin path) = Unit {0}
StaysLines C (in_conflict path) = Unit {0}
StaysLines C (not_read f) = StaysFault C f

abbrev StaysMerge : Blobs → MergeFault → Type 0
StaysMerge C (conflict path) = Unit {0}
StaysMerge C (unreadable f) = StaysFault C f

abbrev StaysLooked : Blobs → Looked → Type 0
StaysLooked C (fault f) = StaysFault C f
StaysLooked C nothing = Unit {0}
StaysLooked C (found x) = Unit {0}

abbrev StaysDiffering : Blobs → Differing → Type 0
StaysDiffering C (unexplained path) = Unit {0}
StaysDiffering C (absent path) = Unit {0}
StaysDiffering C (differs path) = Unit {0}
StaysDiffering C (unread f) = StaysFault C f

merge_stays : (C : Blobs) (why : MergeFault) → StaysLines C (of_merge why) → StaysMerge C why
merge_stays C (conflict path) h = tt
merge_stays C (unreadable f) h = h

looked_stays : (C : Blobs) (o : OriginValue) (r : Looked) (why : LinesFault) → IsFaultOfLook o r why → StaysLines C why → StaysLooked C r
looked_stays C o (fault f) why is h = subst (StaysLines C) is h
looked_stays C o nothing why is h = tt
looked_stays C o (found x) why is h = tt

module _ (B C : Blobs) (grows : Grows B C) where
  fault_lasts : {M : Type 0} (keeps : M → Type 0) (spells : M → List ℕ) (d : DigestValue) (f : Fault) → StaysFault C f → IsFault keeps spells B d f → IsFault keeps spells C d f
  fault_lasts keeps spells d (missing e) stays h = (h.0, still_missing B C d (subst (λ k. C k ≡ None) h.0 stays) h.1)
  fault_lasts keeps spells d (wrong e) stays h = (h.0, record { bytes = h.1.bytes; held = under_still grows h.1.held; other = h.1.other })
  fault_lasts keeps spells d (malformed e) stays h = (h.0, record { bytes = h.1.bytes; blob = record { held = under_still grows h.1.blob.held; right = h.1.blob.right }; no_message = h.1.no_message })

  -- ---- lines

  looks_last : (p : List Name) (o : Option NodeValue) (r : Looked) → StaysLooked C r → LooksFrom (TellsDirectory B) (FailsDirectory B) p o r → LooksFrom (TellsDirectory C) (FailsDirectory C) p o r
  looks_last p None r stays h = h
  looks_last [] (Some y) r stays h = h
  looks_last (n ∷ p) (Some (File d e)) r stays h = h
  looks_last (n ∷ p) (Some (Link t)) r stays h = h
  looks_last (n ∷ p) (Some (Dir d)) r stays (inl h) = inl (h.0, told_still grows h.1, looks_last p (child n h.0) r stays h.2)
  looks_last (n ∷ p) (Some (Dir d)) r stays (inr h) = inr (h.0, fault_lasts IsDirectory directory_bytes d h.0 (subst (StaysLooked C) h.2 stays) h.1, h.2)

  module _ (sources : DigestValue) (earlier : Earlier) where
    origin_lasts : (o : OriginValue) (r : Looked) → StaysLooked C r → LooksUpOrigin B sources earlier o r → LooksUpOrigin C sources earlier o r
    origin_lasts (source p) r stays h = looks_last p (Some (Dir sources)) r stays h
    origin_lasts (output step p) r stays h = h

    first_lasts : (ls : List LineValue) (why : LinesFault) → StaysLines C why → FirstFault B sources earlier ls why → FirstFault C sources earlier ls why
    first_lasts [] why stays h = h
    first_lasts (l ∷ ls) why stays (inl h) = inl (h.0, origin_lasts l.origin h.0 (looked_stays C l.origin h.0 why h.2 stays) h.1, h.2)
    first_lasts (l ∷ ls) why stays (inr h) = inr (h.0, origin_lasts l.origin (found h.0) tt h.1, first_lasts ls why stays h.2)

    resolved_lasts : (ls : List LineValue) → Lasts (StaysLines C) (resolved B sources earlier ls) (resolved C sources earlier ls)
    resolved_lasts ls = record { passes = λ xs h. resolves_still B C sources earlier ls xs grows h; fails = first_lasts ls }

  -- ---- what lines merge into

  read_lasts : (w : WithinValue) (d : DigestValue) → Lasts (StaysMerge C) (directory_read B w d) (directory_read C w d)
  read_lasts in_source d = record { passes = λ m h. told_still grows h; fails = λ why stays h. (h.0, fault_lasts IsDirectory directory_bytes d h.0 (subst (StaysMerge C) h.2 stays) h.1, h.2) }
  read_lasts (in_tree t) d = lasts_without

  node_lasts : (x : NodeValue) (w : WithinValue) → Lasts (StaysMerge C) (node_opened B x w) (node_opened C x w)
  node_lasts (Dir d) w = lasts_then (read_lasts w d) (λ m. lasts_without)
  node_lasts (File d e) w = lasts_without
  node_lasts (Link t) w = lasts_without

  line_lasts : (p : List Name) (x : NodeWithin) → Lasts (StaysMerge C) (line_opened B p x) (line_opened C p x)
  line_lasts [] x = node_lasts x.node x.within
  line_lasts (n ∷ p) x = lasts_without

  opened_lasts : (ls : MergeLines) → Lasts (StaysMerge C) (opened B ls) (opened C ls)
  opened_lasts [] = lasts_without
  opened_lasts (l ∷ ls) = lasts_then (line_lasts l.0 l.1) (λ new. lasts_then (opened_lasts ls) (λ rest. lasts_without))

  or_lasts : (o : Option NodeValue) (f g : Stage MergeFault (Entry NodeValue)) → Lasts (StaysMerge C) f g → Lasts (StaysMerge C) (stands_or o f) (stands_or o g)
  or_lasts (Some x) f g h = lasts_without
  or_lasts None f g h = h

  each_lasts : (f g : Name → MergeLines → Stage MergeFault (Entry NodeValue)) → ((n : Name) (ls : MergeLines) → Lasts (StaysMerge C) (f n ls) (g n ls)) → (gs : List (Name × MergeLines)) → Lasts (StaysMerge C) (each_name f gs) (each_name g gs)
  each_lasts f g h [] = lasts_without
  each_lasts f g h (x ∷ xs) = lasts_then (h x.0 x.1) (λ e. lasts_then (each_lasts f g h xs) (λ rest. lasts_without))

  met_lasts : (below after : MergeLines → Stage MergeFault (Tree NodeValue)) (deeper : ℕ) (path : List Name) → ((ls : MergeLines) → Lasts (StaysMerge C) (below ls) (after ls)) → (ls : MergeLines)
      → Lasts (StaysMerge C) (met B below deeper path ls) (met C after deeper path ls)
  met_lasts below after deeper path h ls = lasts_then lasts_without (λ _. lasts_then (opened_lasts ls) (λ new. lasts_then (h new) (λ t. lasts_without)))

  in_lasts : (deeper : ℕ) (path : List Name) (ls : MergeLines) → Lasts (StaysMerge C) (merged_in B deeper path ls) (merged_in C deeper path ls)
  in_lasts zero path ls = lasts_without
  in_lasts (suc deeper) path ls =
      each_lasts (λ n given. entry_merged B (merged_in B deeper (path ++ n ∷ [])) deeper (path ++ n ∷ []) (counted [] given)) (λ n given. entry_merged C (merged_in C deeper (path ++ n ∷ [])) deeper (path ++ n ∷ []) (counted [] given))
      (λ n given. or_lasts (lone (counted [] given)) (met B (merged_in B deeper (path ++ n ∷ [])) deeper (path ++ n ∷ []) (counted [] given)) (met C (merged_in C deeper (path ++ n ∷ [])) deeper (path ++ n ∷ []) (counted [] given))
      (met_lasts (merged_in B deeper (path ++ n ∷ [])) (merged_in C deeper (path ++ n ∷ [])) deeper (path ++ n ∷ []) (in_lasts deeper (path ++ n ∷ [])) (counted [] given)))
      (grouped ls)

  merged_lasts : (ls : MergeLines) → Lasts (StaysMerge C) (merged B ls) (merged C ls)
  unfolding merged
  merged_lasts ls = in_lasts 64 [] ls

  together_lasts : (sources : DigestValue) (earlier : Earlier) (ls : List LineValue) → Lasts (StaysLines C) (put_together B sources earlier ls) (put_together C sources earlier ls)
  together_lasts sources earlier ls = lasts_then (resolved_lasts sources earlier ls) (λ nodes. lasts_named (lasts_where (merge_stays C) (merged_lasts nodes)))

  -- ---- a difference

  at_lasts : (deeper : ℕ) (path : List Name) (o p : Option NodeValue) (Next After : DigestValue → DigestValue → Type 0) (x : Differing) → ((g r : DigestValue) → Next g r → After g r) → FindsAt deeper path o p Next x → FindsAt deeper path o p After x
  at_lasts zero path None None Next After x by h = h
  at_lasts zero path None (Some y) Next After x by h = h
  at_lasts zero path (Some a) None Next After x by h = h
  at_lasts zero path (Some a) (Some y) Next After x by h = h
  at_lasts (suc deeper) path None None Next After x by h = h
  at_lasts (suc deeper) path None (Some y) Next After x by h = h
  at_lasts (suc deeper) path (Some a) None Next After x by h = h
  at_lasts (suc deeper) path (Some (File d e)) (Some y) Next After x by h = h
  at_lasts (suc deeper) path (Some (Link t)) (Some y) Next After x by h = h
  at_lasts (suc deeper) path (Some (Dir g)) (Some (File d e)) Next After x by h = h
  at_lasts (suc deeper) path (Some (Dir g)) (Some (Link t)) Next After x by h = h
  at_lasts (suc deeper) path (Some (Dir g)) (Some (Dir r)) Next After x by h = by g r h

  finds_last : (own : List (List ℕ)) (deeper : ℕ) (path : List Name) (g r : DigestValue) (x : Differing) → StaysDiffering C x → Finds own B deeper path g r x → Finds own C deeper path g r x
  finds_last own zero path g r x stays h = h
  finds_last own (suc deeper) path g r x stays (inl h) = inl (h.0, (h.1.0, fault_lasts IsDirectory directory_bytes r h.0 (subst (StaysDiffering C) h.2 stays) h.1.1), h.2)
  finds_last own (suc deeper) path g r x stays (inr (m, reads, inl h)) =
      inr (m, reads_still own r m grows reads, inl (h.0, (h.1.0, fault_lasts IsDirectory directory_bytes g h.0 (subst (StaysDiffering C) h.2 stays) h.1.1), h.2))
  finds_last own (suc deeper) path g r x stays (inr (m, reads, inr (k, grafted, n, first, at))) =
      inr (
        m,
        reads_still own r m grows reads,
        inr (
          k,
          reads_still own g k grows grafted,
          n,
          first,
          at_lasts deeper (path ++ n ∷ []) (child n k) (child n m) (λ a b. Finds own B deeper (path ++ n ∷ []) a b x) (λ a b. Finds own C deeper (path ++ n ∷ []) a b x) x (λ a b. finds_last own deeper (path ++ n ∷ []) a b x stays) at,
        ),
      )

-- ---- the checks of a plan

-- what the cause says is missing, at a step with this digest, is
abbrev StaysCause : {A : Type 0} → Telling → DigestValue → Cause A → Type 0
StaysCause t d (BlobMissing e) = t.blobs e ≡ None
StaysCause t d ResultMissing = t.results d ≡ None
StaysCause t d _ = Unit {0}

-- a digest is recorded for a step of the name
abbrev pub IsNotedAs : List ℕ → DigestValue → List StepValue → List DigestValue → Type 0
IsNotedAs name d [] ds = ⊥
IsNotedAs name d (s ∷ ss) [] = ⊥
IsNotedAs name d (s ∷ ss) (e ∷ ds) = ((s.name ≡ name) × (e ≡ d)) ⊎ IsNotedAs name d ss ds

-- what a no at a place says is missing, by what is recorded of these steps, is
abbrev pub StaysAt : {A : Type 0} → Telling → List StepValue → List DigestValue → Place A → Cause A → Type 0
StaysAt t ss ds place (BlobMissing e) = t.blobs e ≡ None
StaysAt t ss ds (Step name) ResultMissing = (d : DigestValue) → IsNotedAs name d ss ds → t.results d ≡ None
StaysAt t ss ds Root ResultMissing = Unit {0}
StaysAt t ss ds place _ = Unit {0}

module _ (A : Type 0) (old new : Telling) (grows : Grows old.blobs new.blobs) (more : Grows old.results new.results) where
  cause_stays : (d : DigestValue) (f : Fault) → StaysCause {A = A} new d (cause_of_fault f) → StaysFault new.blobs f
  cause_stays d (missing e) h = h
  cause_stays d (wrong e) h = tt
  cause_stays d (malformed e) h = tt

  root_stays : (ss : List StepValue) (ds : List DigestValue) (f : Fault) → StaysAt {A = A} new ss ds Root (cause_of_fault f) → StaysFault new.blobs f
  root_stays ss ds (missing e) h = h
  root_stays ss ds (wrong e) h = tt
  root_stays ss ds (malformed e) h = tt

  module _ (Stays : Cause A → Type 0) (by : (f : Fault) → Stays (cause_of_fault f) → StaysFault new.blobs f) where
    message_lasts : {M : Type 0} (keeps : M → Type 0) (spells : M → List ℕ) (d : DigestValue) → Lasts Stays (message {A = A} keeps spells old.blobs d) (message {A = A} keeps spells new.blobs d)
    message_lasts keeps spells d = record { passes = λ m h. told_still grows h; fails = λ cause stays h. (h.0, fault_lasts old.blobs new.blobs grows keeps spells d h.0 (by h.0 (subst Stays h.2 stays)) h.1, h.2) }

    lines_stay : (why : LinesFault) → Stays (cause_of_lines why) → StaysLines new.blobs why
    lines_stay (no_origin path) h = tt
    lines_stay (in_conflict path) h = tt
    lines_stay (not_read f) h = by f h

    lines_last : (d : DigestValue) (os : List OutcomeValue) (ls : List LineValue) → Lasts Stays (together {A = A} old.blobs d os ls) (together {A = A} new.blobs d os ls)
    lines_last d os ls = lasts_named (lasts_where lines_stay (together_lasts old.blobs new.blobs grows d (slice_get os) ls))

    differing_stays : (x : Differing) → Stays (difference_cause x) → StaysDiffering new.blobs x
    differing_stays (unexplained path) h = tt
    differing_stays (absent path) h = tt
    differing_stays (differs path) h = tt
    differing_stays (unread f) h = by f h

    same_lasts : (a : ActionValue) (t : Tree NodeValue) → Lasts Stays (same_input {A = A} old.blobs a t) (same_input {A = A} new.blobs a t)
    same_lasts a t = record {
      passes = λ v h. h;
      fails = λ cause stays h. (h.0, h.1, finds_last old.blobs new.blobs grows (first_visits t) 64 [] (root t) a.input h.1 (differing_stays h.1 (subst Stays h.3 stays)) h.2, h.3);
    }

    output_lasts : (x : RecordedValue) (f : Fault) → StaysFault new.blobs f → IsOutputFault old.blobs x f → IsOutputFault new.blobs x f
    output_lasts (file x) f stays h = h
    output_lasts (directory x) f stays h = fault_lasts old.blobs new.blobs grows IsTree tree_bytes x.tree f stays h
    output_lasts (link x) f stays h = h

    outputs_last : (c : CommandValue) (xs : List RecordedValue) (cause : Cause A) → Stays cause → OutputFault old.blobs c xs cause → OutputFault new.blobs c xs cause
    outputs_last c [] cause stays h = h
    outputs_last c (x ∷ xs) cause stays (inl (inl h)) = inl (inl h)
    outputs_last c (x ∷ xs) cause stays (inl (inr h)) = inl (inr (h.0, h.1, output_lasts x h.1 (by h.1 (subst Stays h.3 stays)) h.2, h.3))
    outputs_last c (x ∷ xs) cause stays (inr h) = inr (h.0, h.1, stands_still old.blobs new.blobs x h.1 grows h.2, outputs_last c xs cause stays h.3)

    outcome_lasts : (c : CommandValue) (r : ActionResultValue) → Lasts Stays (read {A = A} old.blobs c r) (read {A = A} new.blobs c r)
    outcome_lasts c r = record { passes = λ o h. (recorded_still old.blobs new.blobs r o grows h.0, h.1); fails = λ cause stays h. (h.0, h.1, outputs_last c h.0 cause stays h.2) }

  module _ (d : DigestValue) where
    held_lasts : Lasts (StaysCause {A = A} new d) (result_held {A = A} old.results d) (result_held {A = A} new.results d)
    held_lasts = record { passes = λ r h. (h.0, more d h.0 h.1, h.2); fails = by }
      where
        by : (cause : Cause A) → StaysCause new d cause → (result_held {A = A} old.results d).fails cause → (result_held {A = A} new.results d).fails cause
        by cause stays (inl h) = inl (subst (StaysCause new d) h.1 stays, h.1)
        by cause stays (inr h) = inr (h.0, more d h.0 h.1, h.2, h.3)

    result_lasts : (c : CommandValue) → Lasts (StaysCause {A = A} new d) (result_check {A = A} old c d) (result_check {A = A} new c d)
    result_lasts c = lasts_then held_lasts (λ r. lasts_then lasts_without (λ _. outcome_lasts (StaysCause new d) (cause_stays d) c r))

    step_lasts : (sources : DigestValue) (os : List OutcomeValue) (s : StepValue) → Lasts (StaysCause {A = A} new d) (step_check {A = A} old sources os s d) (step_check {A = A} new sources os s d)
    step_lasts sources os s =
        lasts_then (message_lasts (StaysCause new d) (cause_stays d) IsAction action_bytes d) (λ a.
        lasts_then lasts_without (λ _.
        lasts_then (message_lasts (StaysCause new d) (cause_stays d) IsCommand command_bytes a.frame.command) (λ c.
        lasts_then lasts_without (λ _.
        lasts_then (lasts_then (lines_last (StaysCause new d) (cause_stays d) sources os s.lines) (λ t. same_lasts (StaysCause new d) (cause_stays d) a t)) (λ _.
        result_lasts c)))))

  -- step by step
  here : (s : StepValue) (ss : List StepValue) (d : DigestValue) (ds : List DigestValue) (cause : Cause A) → StaysAt new (s ∷ ss) (d ∷ ds) (Step s.name) cause → StaysCause new d cause
  here s ss d ds (BlobMissing e) h = h
  here s ss d ds ResultMissing h = h d (inl (refl, refl))
  here s ss d ds cause h = tt

  behind : (s : StepValue) (ss : List StepValue) (d : DigestValue) (ds : List DigestValue) (place : Place A) (cause : Cause A) → StaysAt new (s ∷ ss) (d ∷ ds) place cause → StaysAt new ss ds place cause
  behind s ss d ds place (BlobMissing e) h = h
  behind s ss d ds (Step name) ResultMissing h = λ e k. h e (inr k)
  behind s ss d ds Root ResultMissing h = tt
  behind s ss d ds place cause h = tt

  steps_last : (sources : DigestValue) (os : List OutcomeValue) (ss : List StepValue) (ds : List DigestValue) → Lasts (λ why. StaysAt new ss ds why.0 why.1) (steps_check {A = A} old sources os ss ds) (steps_check {A = A} new sources os ss ds)
  steps_last sources os [] ds = lasts_without
  steps_last sources os (s ∷ ss) [] = lasts_without
  steps_last sources os (s ∷ ss) (d ∷ ds) =
      lasts_then (lasts_located (lasts_where (here s ss d ds) (step_lasts d sources os s))) (λ o. lasts_where (λ why. behind s ss d ds why.0 why.1) (steps_last sources (os ++ o ∷ []) ss ds))

  pub plan_lasts : (sources : DigestValue) (plan : PlanValue) (recorded : List DigestValue) (claim : DigestValue)
      → Lasts (λ why. StaysAt new plan.steps recorded why.0 why.1) (plan_check {A = A} old sources plan recorded claim) (plan_check {A = A} new sources plan recorded claim)
  plan_lasts sources plan recorded claim =
      lasts_then (steps_last sources [] plan.steps recorded) (λ os.
      lasts_located (lasts_then (lines_last (StaysAt new plan.steps recorded Root) (root_stays plan.steps recorded) sources os plan.root_lines) (λ t. lasts_without)))

-- ---- verdicts

module _ (A : Type 0) (fewer more : Telling) (tells : TellsMore fewer more) (sources : DigestValue) (plan : PlanValue) (recorded : List DigestValue) (claim : DigestValue) where
  lasting : Lasts (λ why. StaysAt more plan.steps recorded why.0 why.1) (plan_check {A = A} fewer sources plan recorded claim) (plan_check {A = A} more sources plan recorded claim)
  lasting = plan_lasts A fewer more tells.blobs tells.results sources plan recorded claim

  -- a yes stays
  pub yes_stays : (root : DigestValue) (steps : ℕ) → IsVerdict {A = A} fewer sources plan recorded claim (Yes root steps) → IsVerdict {A = A} more sources plan recorded claim (Yes root steps)
  yes_stays root steps h = (h.0, h.1, lasting.passes tt h.2)

  stays_at : (place : Place A) (cause : Cause A) → (IsForMissing (No place cause) → ⊥) → StaysAt more plan.steps recorded place cause
  stays_at place (BlobMissing d) other = absurd (other tt)
  stays_at (Step name) ResultMissing other = absurd (other tt)
  stays_at Root ResultMissing other = tt
  stays_at place cause other = tt

  -- a no stays that isn't for something missing
  pub no_stays : (place : Place A) (cause : Cause A) → (IsForMissing (No place cause) → ⊥) → IsVerdict fewer sources plan recorded claim (No place cause) → IsVerdict more sources plan recorded claim (No place cause)
  no_stays place cause other h = lasting.fails (place, cause) (stays_at place cause other) h

  -- by less it is the same, or for something missing
  pub forgotten_missing : (v w : Verdict A) → IsVerdict more sources plan recorded claim v → IsVerdict fewer sources plan recorded claim w → (w ≡ v) ⊎ IsForMissing w
  forgotten_missing v (Yes root steps) h k = inl (verdict_once A more sources plan recorded claim (Yes root steps) v (yes_stays root steps k) h)
  forgotten_missing v (No place (BlobMissing d)) h k = inr tt
  forgotten_missing v (No place ResultMissing) h k = inr tt
  forgotten_missing v (No place cause) h k = inl (verdict_once A more sources plan recorded claim (No place cause) v (no_stays place cause (λ is. is) k) h)

  -- a blob that is missing, and by more wasn't, is told there
  pub missing_told : (d : DigestValue) (v : Verdict A) (place : Place A) → IsVerdict more sources plan recorded claim v → v ≢ No place (BlobMissing d) → IsVerdict fewer sources plan recorded claim (No place (BlobMissing d))
      → (bytes : List ℕ) × (more.blobs d ≡ Some bytes)
  missing_told d v place h other k = by (more.blobs d) refl
    where
      by : (o : Option (List ℕ)) → more.blobs d ≡ o → (bytes : List ℕ) × (more.blobs d ≡ Some bytes)
      by None none = absurd (other (verdict_once A more sources plan recorded claim v (No place (BlobMissing d)) h (lasting.fails (place, BlobMissing d) none k)))
      by (Some bytes) is = (bytes, is)
