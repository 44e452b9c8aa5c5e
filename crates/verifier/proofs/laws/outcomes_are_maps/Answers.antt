use Rattle.std.proofs.Common.{ap, ◌∙◌}
use Rattle.actions.proofs.RecordedAt.{recorded_at}
use Rattle.verifier.specs.Build.{output_at}
use Rattle.verifier.proofs.OutputLookups.{output_below, output_found}
use Rattle.verifier.proofs.laws.outcomes_are_maps.Goals as goal

pub returns-clause-outputs : goal.returns-clause-outputs
returns-clause-outputs c = λ o p e valid. (
  (λ is. output_found o.outputs p e is),
  (λ h. ap (output_at o.outputs) h.3 ∙ output_below o.outputs h.0 h.2 valid.apart h.1 ∙ h.4),
)

pub returns-clause-recorded : goal.returns-clause-recorded
returns-clause-recorded c = λ blobs r o p x h. recorded_at blobs r o p x h
