-- The build of two steps in plans whose lines put nothing together, or whose step isn't the recorded one.
use Rattle.std.proofs.Common.{◌≡◌, ℕ, zero, suc, true, false, List, [], ◌∷◌, Option, Some, refl, ap, sym, ◌∙◌, subst, arith, inl, inr}
use Rattle.std.specs.Prelude.{slice_get, take, Contains, codes}
use Rattle.std.proofs.lemmas.Slice.Eq.{bytes_eq-Decides}
use Rattle.hex.specs.Hex.{decode_pairs}
use Rattle.blob_digest.specs.Digest.{DigestValue, NoClash}
use Rattle.messages.proofs.Paths.{one_name}
use Rattle.action_messages.specs.Action.{with_input}
use Rattle.action_messages.specs.Command.{CommandValue}
use Rattle.action_messages.specs.Frame.{FrameValue}
use Rattle.actions.specs.OutcomeLookup.{StandsOver}
use Rattle.plan.specs.Plan.{IsPlan}
use Rattle.plan.specs.Values.{LineValue, StepValue, PlanValue}
use Rattle.plan.specs.declared.version.Version.{Version}
use Rattle.plan.specs.declared.version.Version.TheVariants.{One, Two}
use Rattle.tree.specs.Lookup.{nothing}
use Rattle.tree.specs.Merge.{merge}
use Rattle.tree.specs.Merging.{MergeLines, conflict, merged}
use Rattle.tree.specs.Stage.{◌and_then◌}
use Rattle.tree.specs.Tree.{empty}
use Rattle.verifier.specs.declared.verdict.Cause.{Cause}
use Rattle.verifier.specs.declared.verdict.Cause.TheVariants.{FrameDiffers, OriginMissing, InputConflict}
use Rattle.verifier.specs.declared.verdict.Place.TheVariants.{Root, Step}
use Rattle.verifier.specs.declared.verdict.Verdict.TheVariants.{No}
use Rattle.verifier.specs.Build.{Meaning, ActionMeaning, action_digest, Outcome, StepFits, MeaningFits, Event, opening, action_of, IsRun}
use Rattle.verifier.specs.Headline.{IsBlobOfAction, IsBlobOfOutcome, IsBlobOfStarts, IsConcerned, RunsFrom}
use Rattle.verifier.specs.Recorded.{Agrees, IsRecordedAs}
use Rattle.verifier.specs.StepChecks.{framed, together, input_check, result_check}
use Rattle.verifier.specs.Together.{no_origin, in_conflict}
use Rattle.verifier.specs.TwoSteps as two
use Rattle.verifier.specs.Verdict.{IsVerdict}
use Rattle.verifier.proofs.FreshRuns.{one_answer}
use Rattle.verifier.proofs.Passing.{recorded_steps}
use Rattle.verifier.proofs.StepLaws.{from_recorded}
use Rattle.verifier.proofs.TwoSteps.{plan_valid, sources_named, fits, table_valid, data_name, out_path, use_frame_named}
use Rattle.verifier.proofs.TwoStepsRecorded.{gen_outcome, use_outcome, made_file, stands_made, gen_passes, use_passes, use_action_told, use_command_told}
use Rattle.verifier.proofs.TwoStepsRun.{s1, s4, obeys, gen_inside, is_run_from, agrees}
use Rattle.verifier.proofs.TwoStepsBlobs.{all_blobs, none_clash, kept_one, in_tree, of_nothing, of_gen, made_by_gen, no_clash_from}

-- where the check of `use` fails behind its Command, the verdict is no there
fails_at_use : (A : Type 0) (version : Version) (root_lines : List LineValue) (frame : DigestValue) (lines : List LineValue) (c : Cause A)
    → (framed (with_input two.uses.0.frame two.input_digest) frame and_then λ _. input_check two.blobs two.sources (gen_outcome ∷ []) lines (with_input two.uses.0.frame two.input_digest) and_then λ _. result_check two.telling two.uses.0.command two.use_action_digest).fails c
    → IsVerdict two.telling two.sources (record { version = version; steps = record { name = codes "gen"; frame = two.gen_frame_digest; lines = [] } ∷ record { name = codes "use"; frame = frame; lines = lines } ∷ []; root_lines = root_lines }) two.recorded two.claim (No (Step (codes "use")) c)
unfolding ◌and_then◌
fails_at_use A version root_lines frame lines c h =
    let gen = from_recorded A two.telling two.sources [] (record { name = codes "gen"; frame = two.gen_frame_digest; lines = [] }) two.gen_action_digest gen_outcome (gen_passes two.sources) in
    inl (inr (gen_outcome, gen, inl (refl, inr (with_input two.uses.0.frame two.input_digest, use_action_told, inr (tt, refl, inr (two.uses.0.command, use_command_told, h))))))

-- ---- lines in conflict

pub clashing_valid : IsPlan two.clashing_plan
clashing_valid =
    let step = plan_valid.steps.1.0 in
    let line = step.lines.each.0 in
    record {
      few = plan_valid.few;
      steps = (
        plan_valid.steps.0,
        (
          record {
            name = step.name;
            new = step.new;
            frame = step.frame;
            lines = record { few = omega arith; each = (record { target = one_name (codes "data") data_name; origin = line.origin }, (line, tt)) };
          },
          tt,
        ),
      );
      root_lines = plan_valid.root_lines;
      apart = (λ one. tt, (λ one. absurd cc, tt));
      root_apart = λ one. absurd cc;
    }

abbrev files : MergeLines
files = (codes "data" ∷ [], made_file) ∷ (codes "data" ∷ codes "x" ∷ [], made_file) ∷ []

-- a file has nothing below it
clash : (merged two.blobs files).fails (conflict (codes "data" ∷ []))
unfolding merged ◌and_then◌
clash = inl (inl ((λ can. can.0), refl))

not_together : (A : Type 0) → (together {A = A} two.blobs two.sources (gen_outcome ∷ []) two.clashing_lines).fails (InputConflict (codes "data" ∷ []))
unfolding ◌and_then◌
not_together A = (
  in_conflict (codes "data" ∷ []),
  inr (
    files,
    (made_file, stands_made two.sources, (codes "data" ∷ codes "x" ∷ [], made_file) ∷ [], (made_file, stands_made two.sources, [], refl, refl), refl),
    (conflict (codes "data" ∷ []), clash, refl),
  ),
  refl,
)

pub clashes : (A : Type 0) → IsVerdict {A = A} two.telling two.sources two.clashing_plan two.recorded two.claim (No (Step (codes "use")) (InputConflict (codes "data" ∷ [])))
unfolding ◌and_then◌
clashes A = fails_at_use A Two two.plan.root_lines two.use_frame_digest two.clashing_lines (InputConflict (codes "data" ∷ [])) (inr (tt, use_frame_named, inl (inl (not_together A))))

-- ---- a run of the step before

clashing_fits : MeaningFits two.clashing_plan two.meaning
clashing_fits = record { steps = by }
  where
    by : (i : ℕ) (step : StepValue) → slice_get two.clashing_plan.steps i ≡ Some step
        → (frame : FrameValue) × (command : CommandValue) × (slice_get two.meaning.frames i ≡ Some frame) × (slice_get two.meaning.commands i ≡ Some command) × StepFits step.frame frame command
    by zero step at = fits.steps 0 step at
    by (suc zero) step at =
        let same : ◌≡◌ {A = StepValue} (record { name = codes "use"; frame = two.use_frame_digest; lines = two.clashing_lines }) step = cc in
        let f = fits.steps 1 _ refl in
        (f.0, f.1, f.2, f.3, subst (λ (s : StepValue). StepFits s.frame f.0 f.1) same f.4)
    by (suc (suc i)) step at = absurd cc

first_agrees : Agrees two.blobs two.results two.table (two.gen ∷ []) (take 1 two.recorded)
first_agrees = record { each = refl; pairs = by }
  where
    by : (i : ℕ) (digest : DigestValue) (pair : ActionMeaning × Outcome) → slice_get (take 1 two.recorded) i ≡ Some digest → slice_get (two.gen ∷ []) i ≡ Some pair
        → Contains two.table pair × (action_digest pair.0 ≡ digest) × IsRecordedAs two.blobs two.results digest pair.1
    by zero digest pair d p = agrees.pairs 0 digest pair d p
    by (suc i) digest pair d p = absurd cc

-- what is concerned in a run in which only the action of `gen` is chosen, with an outcome
concerned : (o : Outcome) → ((b : List ℕ) → IsBlobOfOutcome o b → Contains all_blobs b) → (plan : PlanValue) (meaning : Meaning) (es : List Event) → ((b : List ℕ) → IsBlobOfStarts plan meaning empty opening es b → Contains all_blobs b)
    → (b : List ℕ) → IsConcerned two.blobs plan meaning empty ((two.gen.0, o) ∷ []) es b → Contains all_blobs b
concerned o made plan meaning es begins b (inl (inl v)) = kept_one b v
concerned o made plan meaning es begins b (inl (inr h)) = in_tree b h
concerned o made plan meaning es begins b (inr (inl h)) = of_nothing b h
concerned o made plan meaning es begins b (inr (inr (inl (pair, (zero, lt, at), inl h)))) = of_gen b (subst (λ (z : ActionMeaning × Outcome). IsBlobOfAction z.0 b) (sym at) h)
concerned o made plan meaning es begins b (inr (inr (inl (pair, (zero, lt, at), inr h)))) = made b (subst (λ (z : ActionMeaning × Outcome). IsBlobOfOutcome z.1 b) (sym at) h)
concerned o made plan meaning es begins b (inr (inr (inl (pair, (suc k, lt, at), h)))) = absurd (omega (arith, lt))
concerned o made plan meaning es begins b (inr (inr (inr h))) = begins b h

pub no_clash : (o : Outcome) → ((b : List ℕ) → IsBlobOfOutcome o b → Contains all_blobs b) → (plan : PlanValue) (meaning : Meaning) (es : List Event) → ((b : List ℕ) → IsBlobOfStarts plan meaning empty opening es b → Contains all_blobs b)
    → NoClash (IsConcerned two.blobs plan meaning empty ((two.gen.0, o) ∷ []) es)
no_clash o made plan meaning es begins x y c d e = none_clash x y (concerned o made plan meaning es begins x c) (concerned o made plan meaning es begins y d) e

pub starts : (b : List ℕ) (o : Option ActionMeaning) (a : ActionMeaning) → o ≡ Some two.gen.0 → o ≡ Some a → IsBlobOfAction a b → Contains all_blobs b
starts b o a own at h = of_gen b (subst (λ a. IsBlobOfAction a b) (one_answer o a two.gen.0 at own) h)

clashing_starts : (b : List ℕ) → IsBlobOfStarts two.clashing_plan two.meaning empty opening two.clashing_run.events b → Contains all_blobs b
unfolding merge
clashing_starts b (inl (a, at, h)) = starts b (action_of two.clashing_plan two.meaning empty opening 0) a refl at h
clashing_starts b (inr (mid, at, inl none)) = absurd none
clashing_starts b (inr (mid, at, inr (next, after, none))) = absurd none

happened : IsRun two.table two.clashing_plan two.meaning empty opening two.clashing_run.events s4
unfolding merge
happened = (tt, s1, refl, (obeys two.table two.gen s1 0 0 gen_inside refl, s4, refl, refl))

pub clashing_runs : RunsFrom two.blobs two.results two.sources two.clashing_plan (take 1 two.recorded) two.clashing_run
clashing_runs = record {
  ordered = tt;
  from = sources_named;
  keeps = record { fits = clashing_fits; table = table_valid; agrees = first_agrees; apart = no_clash two.gen.1 made_by_gen two.clashing_plan two.meaning two.clashing_run.events clashing_starts; happened = happened };
}

-- ---- a root whose origin isn't there

pub rootless_valid : IsPlan two.rootless_plan
rootless_valid = record {
  few = plan_valid.few;
  steps = plan_valid.steps;
  root_lines = record { few = omega arith; each = (record { target = plan_valid.root_lines.each.0.target; origin = (omega arith, out_path) }, tt) };
  apart = plan_valid.apart;
  root_apart = λ one. (tt, tt);
}

not_over : StandsOver (codes "res" ∷ []) (codes "out" ∷ []) → ⊥
not_over (names, is) =
    let name : codes "out" ≡ codes "res" = cc in
    let same : false ≡ true = (bytes_eq-Decides (codes "out") (codes "res")).1 name in
    cc

pub no_root : (A : Type 0) → IsVerdict {A = A} two.telling two.sources two.rootless_plan two.recorded two.claim (No Root (OriginMissing (codes "out" ∷ [])))
unfolding ◌and_then◌
no_root A =
    let steps = recorded_steps A two.telling two.sources [] two.plan.steps two.recorded (gen_outcome ∷ use_outcome ∷ []) (gen_outcome, gen_passes two.sources, (use_outcome, use_passes two.sources, refl)) in
    inr (gen_outcome ∷ use_outcome ∷ [], steps, (refl, inl (no_origin (codes "out" ∷ []), inl (inl (nothing, (use_outcome, refl, inr ((not_over, tt), refl)), refl)), refl)))

pub rootless_runs : RunsFrom two.blobs two.results two.sources two.rootless_plan two.recorded two.run
rootless_runs = record {
  ordered = tt;
  from = sources_named;
  keeps = record { fits = record { steps = fits.steps }; table = table_valid; agrees = agrees; apart = no_clash_from empty of_nothing; happened = is_run_from empty };
}

-- ---- a step with another frame

pub other_valid : IsPlan two.other_plan
other_valid =
    let first = plan_valid.steps.0 in
    let step = plan_valid.steps.1.0 in
    record {
      few = plan_valid.few;
      steps = (first, (record { name = step.name; new = step.new; frame = first.frame; lines = record { few = omega arith; each = tt } }, tt));
      root_lines = plan_valid.root_lines;
      apart = (λ one. tt, (λ one. tt, tt));
      root_apart = plan_valid.root_apart;
    }

other_frames : two.use_frame_digest ≡ two.gen_frame_digest → ⊥
unfolding two.use_frame_digest two.gen_frame_digest decode_pairs
other_frames e =
    let same : false ≡ true = (bytes_eq-Decides two.use_frame_digest.hash two.gen_frame_digest.hash).1 (ap (λ (d : DigestValue). d.hash) e) in
    cc

pub other_frame : (A : Type 0) → IsVerdict {A = A} two.telling two.sources two.other_plan two.recorded two.claim (No (Step (codes "use")) FrameDiffers)
unfolding ◌and_then◌
other_frame A = fails_at_use A One two.plan.root_lines two.gen_frame_digest [] FrameDiffers (inl ((λ e. other_frames (sym use_frame_named ∙ e)), refl))

other_fits : MeaningFits two.other_plan two.other_run.meaning
other_fits = record { steps = by }
  where
    by : (i : ℕ) (step : StepValue) → slice_get two.other_plan.steps i ≡ Some step
        → (frame : FrameValue) × (command : CommandValue) × (slice_get two.other_run.meaning.frames i ≡ Some frame) × (slice_get two.other_run.meaning.commands i ≡ Some command) × StepFits step.frame frame command
    by zero step at = fits.steps 0 step at
    by (suc zero) step at =
        let same : ◌≡◌ {A = StepValue} (record { name = codes "use"; frame = two.gen_frame_digest; lines = [] }) step = cc in
        let f = fits.steps 0 _ refl in
        (f.0, f.1, f.2, f.3, subst (λ (s : StepValue). StepFits s.frame f.0 f.1) same f.4)
    by (suc (suc i)) step at = absurd cc

other_starts : (b : List ℕ) → IsBlobOfStarts two.other_plan two.other_run.meaning empty opening two.other_run.events b → Contains all_blobs b
unfolding merge
other_starts b (inl (a, at, h)) = starts b (action_of two.other_plan two.other_run.meaning empty opening 0) a refl at h
other_starts b (inr (mid, at, inl (a, is, h))) = starts b (action_of two.other_plan two.other_run.meaning empty mid 1) a refl is h
other_starts b (inr (mid, at, inr (next, after, none))) = absurd none

other_happened : IsRun two.table two.other_plan two.other_run.meaning empty opening two.other_run.events two.other_run.now
unfolding merge
other_happened = (tt, s1, refl, (tt, two.other_run.now, refl, refl))

pub other_runs : RunsFrom two.blobs two.results two.sources two.other_plan (take 1 two.recorded) two.other_run
other_runs = record {
  ordered = tt;
  from = sources_named;
  keeps = record {
    fits = other_fits;
    table = table_valid;
    agrees = first_agrees;
    apart = no_clash two.gen.1 made_by_gen two.other_plan two.other_run.meaning two.other_run.events other_starts;
    happened = other_happened;
  };
}
