-- An engine that was opened, and the opening state.
use Rattle.std.proofs.Common.{◌≡◌, ℕ, zero, suc, ◌<◌, List, [], ◌∷◌, length, Option, Some, None, refl, ap, sym, ◌∙◌, subst, arith, inl, inr}
use Rattle.std.specs.Prelude.{◌⊎◌, slice_get}
use Rattle.std.specs.List.{AllByRecursion}
use Rattle.std.proofs.lemmas.Option.{slice_get_within}
use Rattle.blob_digest.specs.Digest.{DigestValue, digest_of, NoClash}
use Rattle.action_messages.specs.Command.{CommandValue, command_bytes}
use Rattle.action_messages.specs.Frame.{FrameValue, frame_bytes}
use Rattle.actions.proofs.EncodedOnce.{frame_bytes_injective, command_bytes_injective}
use Rattle.actions.proofs.Rooms.{holds_at}
use Rattle.plan.specs.Values.{StepValue, PlanValue}
use Rattle.tree.specs.Lookup.{IsValue}
use Rattle.blob_source.specs.Source.{Blobs}
use Rattle.verifier.specs.Build.{Meaning, MeaningFits}
use Rattle.runs.specs.Engine.{EngineValue, FinishedValue, AllStand, IsEngine, at_number}
use Rattle.runs.specs.Calls.{AreTold, IsOpened}
use Rattle.runs.specs.Mirrors.{IsBlobOfMeaning, IsFinishedAs}
use Rattle.verifier.proofs.FreshRuns.{told_bytes}
use Rattle.runs.specs.Ties.{IsOpening}
use Rattle.runs.proofs.Places.{has_one}

none_at : (fs : List (Option FinishedValue)) (i : ℕ) → AllByRecursion (λ f. f ≡ None) fs → at_number fs i ≡ None
none_at [] i h = refl
none_at (f ∷ fs) zero h = h.0
none_at (f ∷ fs) (suc i) h = none_at fs i h.1

stand : (B : Blobs) (steps : List StepValue) (fs : List FrameValue) (cs : List CommandValue) → AreTold B steps fs cs → AllStand steps fs cs
stand B steps fs cs told = record {
  frames_count = told.frames_count;
  commands_count = told.commands_count;
  each = λ i s f c a b d. let t = told.each i s f c a b d in (
    record {
      frame_valid = t.0.frame.valid;
      command_valid = t.0.command.valid;
      frame_digest = t.0.frame.blob.right;
      command_digest = sym t.0.command.blob.right;
    },
    t.1,
  );
}

pub opened_engine : (B : Blobs) (e : EngineValue) → AreTold B e.plan.steps e.frames e.commands → AllByRecursion (λ f. f ≡ None) e.finished → length e.finished ≡ length e.plan.steps → e.jobs ≡ [] → IsEngine e
opened_engine B e told none count idle = record {
  stand = stand B e.plan.steps e.frames e.commands told;
  count = count;
  taken = λ i f c is at. absurd (let both : ◌≡◌ {A = Option FinishedValue} None (Some f) = sym (none_at e.finished i none) ∙ is in cc);
  few = let empty : length e.jobs ≡ 0 = ap length idle in omega (arith, empty);
  running = λ w j is. absurd (let both : ◌≡◌ {A = Option _} None (Some j) = sym (ap (λ js. at_number js w) idle) ∙ is in cc);
}

-- the meaning of a step, and what was told of it
module _ (B : Blobs) (e : EngineValue) (meaning : Meaning) (fits : MeaningFits e.plan meaning) (apart : NoClash (λ b. IsValue B b ⊎ IsBlobOfMeaning meaning b)) (told : AreTold B e.plan.steps e.frames e.commands) where
  same_step : (i : ℕ) (step : StepValue) → slice_get e.plan.steps i ≡ Some step → (slice_get e.frames i ≡ slice_get meaning.frames i) × (slice_get e.commands i ≡ slice_get meaning.commands i)
  same_step i step at =
      let S : List ℕ → Type 0 = λ b. IsValue B b ⊎ IsBlobOfMeaning meaning b in
      let m = fits.steps i step at in
      let lt = slice_get_within e.plan.steps i step at in
      let f = has_one e.frames i (subst (λ n. i < n) (sym told.frames_count) lt) in
      let c = has_one e.commands i (subst (λ n. i < n) (sym told.commands_count) lt) in
      let t = (told.each i step f.0 c.0 at f.1 c.1).0 in
      let fit = m.4 in
      let frames = told_bytes S apart B step.frame (frame_bytes f.0) (frame_bytes m.0) (λ b h. inl h) t.frame.blob (inr (inl (m.0, holds_at meaning.frames i m.0 m.2, refl))) fit.frame_digest in
      let frame = frame_bytes_injective f.0 m.0 t.frame.valid fit.frame_valid frames in
      let digest : digest_of (command_bytes m.1) ≡ f.0.command = sym fit.command_digest ∙ ap (λ (x : FrameValue). x.command) (sym frame) in
      let commands = told_bytes S apart B f.0.command (command_bytes c.0) (command_bytes m.1) (λ b h. inl h) t.command.blob (inr (inr (m.1, holds_at meaning.commands i m.1 m.3, refl))) digest in
      let command = command_bytes_injective c.0 m.1 t.command.valid fit.command_valid commands in
      (f.1 ∙ ap Some frame ∙ sym m.2, c.1 ∙ ap Some command ∙ sym m.3)

pub opened_mirrors : (B : Blobs) (plan : PlanValue) (sources : DigestValue) (e : EngineValue) → IsOpened B plan sources e → IsOpening B e
opened_mirrors B plan sources e opened = record {
  mirrors = λ t meaning from fits apart.
      let told : AreTold B e.plan.steps e.frames e.commands = subst (λ (p : PlanValue). AreTold B p.steps e.frames e.commands) (sym opened.plan) opened.told in
      record {
        sources = from;
        frames = λ i step at. (same_step B e meaning fits apart told i step at).0;
        commands = λ i step at. (same_step B e meaning fits apart told i step at).1;
        finished = λ i. subst (λ o. IsFinishedAs o None) (sym (none_at e.finished i opened.none_finished)) tt;
        actions = λ i f is. absurd (let both : ◌≡◌ {A = Option FinishedValue} None (Some f) = sym (none_at e.finished i opened.none_finished) ∙ is in cc);
        jobs = λ w. ap (λ js. at_number js w) opened.none_runs;
      };
}
