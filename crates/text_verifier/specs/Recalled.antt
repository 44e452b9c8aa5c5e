-- Answers with what was recorded of the steps.
use Rattle.std.specs.Prelude.{◌≡◌, length}
use Rattle.blob_source.specs.Source.{Telling}
use Rattle.verifier.specs.Compared.{HoldsSteps, actions_of}
use Rattle.verifier.specs.Verdict.{IsYes}
use Rattle.text_verifier.specs.Answered.{IsAnswer}
use Rattle.text_verifier.specs.Texts.{Question}
use Rattle.text_verifier.specs.declared.recalling.Recalled.{Recalled}

-- The answer to a question by what a source told; and after a yes, of each step's action that was
-- noted the outcome that it holds.
pub record IsRecalled {A : Type 0} (told : Telling) (q : Question) (r : Recalled A) : Type 0 where
  pub answered : IsAnswer told q r.answer
  pub noted : IsYes r.answer.verdict → actions_of r.steps.items ≡ q.noted.digests
  pub each : IsYes r.answer.verdict → length r.steps.items ≡ length q.plan.steps
  pub held : IsYes r.answer.verdict → HoldsSteps told r.steps.items
