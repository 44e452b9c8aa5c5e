use Rattle.std.proofs.Common.{inr, subst}
use Rattle.commands.specs.Evidence.InEvidence.{folder}
use Rattle.commands.proofs.Exits.{err_weaker}
use Rattle.commands.proofs.recalling.recall_evidence.Goals as goal

pub returns-then-branch-clause-refused : goal.returns-then-branch-clause-refused
returns-then-branch-clause-refused g c =
    let sees = g.W.World.sees c.args.world.now in
    let lead = subst (sees.leads c.args.evidence.now) c.if-branch.true c.in_ok-is_folder.ensures.leads in
    err_weaker c.recall_inside.result _ _ (λ e h. inr (inr (folder lead h))) c.recall_inside.ensures.refused
