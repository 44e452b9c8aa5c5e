-- What holds of a yes holds when more is told, and the outcomes of the steps are there.
use Rattle.std.proofs.Common.{◌≡◌, List, None, Option, Some, length, subst, sym, ap, ◌∙◌}
use Rattle.std.proofs.lemmas.List.{length-map}
use Rattle.blob_source.specs.Source.{AsksSome, Telling}
use Rattle.plan.specs.Plan.{IsPlan}
use Rattle.plan.specs.Record.{Fits}
use Rattle.plan.specs.Values.{StepValue}
use Rattle.verifier.specs.Compared.{HasOutcomes, RecordedStepValue, actions_of}
use Rattle.verifier.specs.Verdict.{IsVerdict, IsYes}
use Rattle.verifier.specs.declared.verdict.Verdict.{Verdict}
use Rattle.verifier.specs.declared.verdict.Verdict.TheVariants.{Yes, No}
use Rattle.verifier.proofs.Findings.{recorded_held}
use Rattle.verifier.proofs.Holds.{recorded_ends, recorded_unstuck}
use Rattle.verifier.proofs.Lasting.{yes_stays}
use Rattle.verifier.proofs.Passing.{yes_recorded}
use Rattle.verifier.specs.declared.made.Made.{Made}
use Rattle.text_verifier.specs.Answered.{IsJudged, IsAnswer, IsMadeFor}
use Rattle.text_verifier.specs.Texts.{Question}
use Rattle.text_verifier.specs.declared.answering.Answer.{Answer}

module _ (A : Type 0) (t : Telling) (q : Question) where
  pub outcomes_there : (v : Verdict A) → IsVerdict t q.sources q.plan q.noted.digests q.claim v → IsYes v → Fits q.noted q.plan → length q.noted.digests ≡ length q.noted.names → HasOutcomes t q.noted.digests
  outcomes_there v verdict says fits same =
      recorded_held t q.sources q.plan q.noted.digests q.claim (yes_recorded A t q.sources q.plan q.noted.digests q.claim v verdict says)
      (same ∙ ap length fits ∙ length-map q.plan.steps (λ (s : StepValue). s.name))

  pub each_step : (steps : List RecordedStepValue) → actions_of steps ≡ q.noted.digests → Fits q.noted q.plan → length q.noted.digests ≡ length q.noted.names → length steps ≡ length q.plan.steps
  each_step steps noted fits same =
      sym (length-map steps (λ (s : RecordedStepValue). s.action)) ∙ ap length noted ∙ same ∙ ap length fits ∙ length-map q.plan.steps (λ (s : StepValue). s.name)

  module _ (u : Telling) (asks : AsksSome t u) (valid : IsPlan q.plan) where
    judged_still : (v : Verdict A) → IsJudged t q v → IsYes v → IsJudged u q v
    judged_still (Yes root steps) h says =
        let verdict = yes_stays A t u (record { blobs = asks.blobs; results = asks.results }) q.sources q.plan q.noted.digests q.claim root steps h.verdict in
        let recorded = yes_recorded A u q.sources q.plan q.noted.digests q.claim (Yes root steps) verdict says in
        record {
          verdict = verdict;
          holds = λ _. recorded_ends u.blobs u.results q.sources q.plan q.noted.digests q.claim valid recorded;
          unstuck = λ _. recorded_unstuck u.blobs u.results q.sources q.plan q.noted.digests q.claim valid recorded;
        }
    judged_still (No place cause) h says = elim says [ ]

    -- after a yes nothing is handed out
    made_still : (v : Verdict A) (made : Option (Made A)) → IsYes v → IsMadeFor t q v made → IsMadeFor u q v made
    made_still v None says h = h
    made_still v (Some made) says h = absurd (subst IsYes h.0 says)

    pub answer_still : (a : Answer A) → IsAnswer t q a → IsYes a.verdict → IsAnswer u q a
    answer_still a h says = record { judged = judged_still a.verdict h.judged says; lack = h.lack; made = made_still a.verdict a.made says h.made }
