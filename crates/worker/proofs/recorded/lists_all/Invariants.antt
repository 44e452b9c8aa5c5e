use Rattle.std.proofs.Common.{drop}
use Rattle.worker.proofs.Listing.{AreListedWith}
use Rattle.worker.proofs.recorded.lists_all.Given as goal

abbrev pub invariant-loop-output : goal.invariant-loop-output
invariant-loop-output g l = AreListedWith l.command l.outputs (drop l.output-index l.outputs)
