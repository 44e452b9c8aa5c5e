use Rattle.std.proofs.Common.{inl, inr, refl, subst, Some}
use Rattle.std.proofs.lemmas.Result.{IfOk-weaker}
use Rattle.commands.specs.Evidence.InEvidence.{folder}
use Rattle.commands.specs.Faults.{OrMemory}
use Rattle.commands.specs.Verified.{FailsNamed}
use Rattle.commands.proofs.Exits.{err_weaker, exit_by}
use Rattle.commands.proofs.evidence.verify_evidence.Goals as goal

pub returns-in_err-is_folder-clause-refused : goal.returns-in_err-is_folder-clause-refused
returns-in_err-is_folder-clause-refused g c =
    exit_by (OrMemory (FailsNamed (Some c.args.evidence.now) (g.W.World.sees c.args.world.now) (g.M.Options.rows c.args.said.now))) _ c.from_residual.ensures.1
    (inr (inl (inl (_, c.in_err-is_folder.ensures.fault, refl))))

pub returns-then-branch-clause-answered : goal.returns-then-branch-clause-answered
returns-then-branch-clause-answered g c =
    let sees = g.W.World.sees c.args.world.now in
    let lead = subst (sees.leads c.args.evidence.now) c.if-branch.true c.in_ok-is_folder.ensures.leads in
    IfOk-weaker c.verify_stated.result _ _ (λ j h. folder lead h) c.verify_stated.ensures.answered

pub returns-then-branch-clause-refused : goal.returns-then-branch-clause-refused
returns-then-branch-clause-refused g c =
    let sees = g.W.World.sees c.args.world.now in
    let lead = subst (sees.leads c.args.evidence.now) c.if-branch.true c.in_ok-is_folder.ensures.leads in
    err_weaker c.verify_stated.result _ _ (λ e h. inr (inr (folder lead h))) c.verify_stated.ensures.refused

pub returns-in_err-file-clause-refused : goal.returns-in_err-file-clause-refused
returns-in_err-file-clause-refused g c =
    exit_by (OrMemory (FailsNamed (Some c.args.evidence.now) (g.W.World.sees c.args.world.now) (g.M.Options.rows c.args.said.now))) _ c.from_residual-in_err-file.ensures.1
    (inr (inl (inl (_, c.in_err-file.ensures.fault, refl))))
