use Rattle.std.proofs.Common.{ap, length, sym, subst, ◌∙◌}
use Rattle.std.specs.Prelude.{FitsSigned}
use Rattle.std.specs.Int.{w32}
use Rattle.std.proofs.lemmas.Int.{to_z-of_z}
use Rattle.action_messages.specs.Outputs.{AreOutputs, recorded_values}
use Rattle.actions.specs.Outcome.{outputs_in}
use Rattle.blob_source.specs.Source.{Asks}
use Rattle.blob_source.proofs.Asking.{ok_no_error}
use Rattle.blob_source.proofs.Calling.{called_no, calls_more}
use Rattle.actions.proofs.Outcomes.{valid_outcome, recorded_outcome}
use Rattle.actions.proofs.recording.recorded.Goals as goal

pub from_outputs-requires : goal.from_outputs-requires
from_outputs-requires g c =
    valid_outcome _ c.args.made.now (recorded_values c.deref.result.now) (outputs_in c.in_ok-outputs.outputs.items) _ c.exit_code.ensures.valid (rw c.deref.ensures.value (c.in_ok-recorded.ensures {u = tt})) c.in_ok-outputs.ensures.found

pub returns-clause-found : goal.returns-clause-found
returns-clause-found g c =
    let fits = subst (FitsSigned w32) (sym c.exit_code.ensures.value) c.exit_code.ensures.valid.exit_code in
    recorded_outcome _ c.args.made.now (recorded_values c.deref.result.now) (outputs_in c.in_ok-outputs.outputs.items) _ c.from_outputs.result c.exit_code.ensures.valid (rw c.deref.ensures.value (c.in_ok-recorded.ensures {u = tt})) c.in_ok-outputs.ensures.found
    (to_z-of_z w32 c.exit_code.result fits ∙ c.exit_code.ensures.value) c.from_outputs.ensures

-- as many calls as the result has directories
pub returns-clause-called : goal.returns-clause-called
returns-clause-called g c =
    let found : AreOutputs c.args.made.now (recorded_values c.deref.result.now) = rw c.deref.ensures.value (c.in_ok-recorded.ensures {u = tt}) in
    let tells = g.S.BlobSource.tells in
    calls_more (subst (λ n. Asks n (tells c.args.source.now) (tells c.read_outputs.new.source)) (ap length found.directories)) (called_no ok_no_error ok_no_error c.in_ok-outputs.ensures.called)
