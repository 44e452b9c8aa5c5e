use Rattle.plan.proofs.Entries.{KeepsEntries}
use Rattle.plan.proofs.record.read_entries.Given as goal

abbrev pub invariant-loop-step : goal.invariant-loop-step
invariant-loop-step g l = KeepsEntries l.steps l.step-index l.text l.digests.items l.rest
