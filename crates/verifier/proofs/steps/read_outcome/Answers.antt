use Rattle.std.proofs.Common.{sym, subst, ◌∙◌}
use Rattle.std.specs.Prelude.{FitsSigned}
use Rattle.std.specs.Int.{w32}
use Rattle.std.proofs.lemmas.Int.{to_z-of_z}
use Rattle.action_messages.specs.Outputs.{recorded_values}
use Rattle.actions.specs.Outcome.{outputs_in}
use Rattle.actions.proofs.Outcomes.{valid_outcome, recorded_outcome}
use Rattle.blob_source.proofs.Asking.{ok_no_error}
use Rattle.tree.proofs.Learning.{learns_more, learns_none, learns_refused, refused_exit}
use Rattle.verifier.specs.StepChecks.{AreListed}
use Rattle.blob_source.proofs.Calling.{called_no}
use Rattle.verifier.proofs.steps.read_outcome.Goals as goal

pub from_outputs-requires : goal.from_outputs-requires
from_outputs-requires g c =
    valid_outcome _ c.args.made.now (recorded_values c.deref.result.now) (outputs_in c.in_ok-outputs.outputs.items) _ c.exit_code.ensures.valid (rw c.deref.ensures.value (c.in_ok-recorded.ensures {u = tt})) c.in_ok-outputs.ensures.read

pub returns-clause-checked : goal.returns-clause-checked
returns-clause-checked g c =
    let fits = subst (FitsSigned w32) (sym c.exit_code.ensures.value) c.exit_code.ensures.valid.exit_code in
    let code = to_z-of_z w32 c.exit_code.result fits ∙ c.exit_code.ensures.value in
    let recorded = recorded_outcome _ c.args.made.now (recorded_values c.deref.result.now) (outputs_in c.in_ok-outputs.outputs.items) _ c.from_outputs.result
    c.exit_code.ensures.valid (rw c.deref.ensures.value (c.in_ok-recorded.ensures {u = tt})) c.in_ok-outputs.ensures.read code c.from_outputs.ensures in
    (recorded, subst (AreListed c.args.command.now) (sym c.from_outputs.ensures) c.in_ok-outputs.ensures.listed)

pub returns-clause-called : goal.returns-clause-called
returns-clause-called g c = called_no ok_no_error ok_no_error c.in_ok-outputs.ensures.called

pub returns-in_err-recorded-clause-learned : goal.returns-in_err-recorded-clause-learned
returns-in_err-recorded-clause-learned g c = learns_none c.requires

pub returns-in_err-outputs-clause-learned : goal.returns-in_err-outputs-clause-learned
returns-in_err-outputs-clause-learned g c =
    learns_refused (λ a h. (recorded_values c.deref.result.now, rw c.deref.ensures.value (c.in_ok-recorded.ensures {u = tt}), h)) (refused_exit _ _ c.from_residual-in_err-outputs.ensures.1) c.in_err-outputs.ensures.learned

pub returns-clause-learned : goal.returns-clause-learned
returns-clause-learned g c = learns_more (λ a h. (recorded_values c.deref.result.now, rw c.deref.ensures.value (c.in_ok-recorded.ensures {u = tt}), h)) (λ n. n) c.in_ok-outputs.ensures.learned
