use Rattle.std.proofs.Common.{◌≡◌, ◌∙◌, sym, true, false}
use Rattle.worker.proofs.Listing.{listed_next, listed_not}
use Rattle.worker.proofs.recorded.lists_all.Goals as goal

pub loop-output-preserved : goal.loop-output-preserved
loop-output-preserved g c = let f = c.if-not-lists.false in listed_next c.args.command.now c.args.outputs.now c.loop-output.output-index c.output-item.result c.loop-output-test.true c.output-item.is (c.lists.ensures.listed.0 f) c.loop-output.invariant

pub returns-then-not-lists : goal.returns-then-not-lists
returns-then-not-lists g c = (
  λ t. let h : false ≡ true = t in cc,
  λ all. absurd (listed_not c.args.command.now c.args.outputs.now c.loop-output.output-index c.output-item.result c.loop-output-test.true c.output-item.is (λ h. let t = c.lists.ensures.listed.1 h in let f = c.if-not-lists.true in let both : true ≡ false = sym t ∙ f in cc) c.loop-output.invariant all),
)
