use Rattle.verifier.proofs.Recalling.{AreRecalled}
use Rattle.verifier.proofs.recorded_step.recorded_steps.Given as goal

abbrev pub invariant-loop-action : goal.invariant-loop-action
invariant-loop-action g l = AreRecalled (g.S.BlobSource.tells l.fn.source) (g.S.BlobSource.tells l.source) l.actions l.steps.items l.action-index
