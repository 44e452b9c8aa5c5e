use Rattle.std.proofs.Common.{inr, subst}
use Rattle.std.proofs.lemmas.Result.{IfOk-weaker}
use Rattle.commands.specs.ReadRefused.StopsHere.{unread}
use Rattle.commands.proofs.Exits.{err_weaker, exit_by}
use Rattle.commands.proofs.SoFar.{Unread, fails_first, file_fails, file_path, tree_path}
use Rattle.commands.proofs.walking.Walker.read_path.Goals as goal

pub returns-in_err-is_folder-clause-refused : goal.returns-in_err-is_folder-clause-refused
returns-in_err-is_folder-clause-refused g c =
    exit_by (Unread g.T.Taker.takes g.T.Taker.refuses (g.W.World.sees c.args.self.now.world.now) c.args.self.now.bits c.args.path.now c.args.taker.now 64) _ c.from_residual.ensures.1
    (inr (fails_first g.T.Taker.takes g.T.Taker.refuses (g.W.World.sees c.args.self.now.world.now) c.args.self.now.bits c.args.path.now c.args.taker.now 64 _ (unread _ c.in_err-is_folder.ensures.fault)))

pub returns-then-branch-clause-taken : goal.returns-then-branch-clause-taken
returns-then-branch-clause-taken g c =
    let sees = g.W.World.sees c.args.self.now.world.now in
    let leads = subst (sees.leads c.args.path.now) c.if-branch.true c.in_ok-is_folder.ensures.leads in
    IfOk-weaker c.read_folder.result _ _ (λ digest h. tree_path g.T.Taker.takes sees c.args.self.now.bits c.args.path.now digest c.args.taker.now c.read_folder.new.taker leads h) c.read_folder.ensures.taken

pub returns-else-branch-clause-taken : goal.returns-else-branch-clause-taken
returns-else-branch-clause-taken g c =
    let sees = g.W.World.sees c.args.self.now.world.now in
    let leads = subst (sees.leads c.args.path.now) c.if-branch.false c.in_ok-is_folder.ensures.leads in
    IfOk-weaker c.take_file.result _ _ (λ digest h. file_path g.T.Taker.takes sees c.args.self.now.bits c.args.path.now digest c.args.taker.now c.take_file.new.self leads h) c.take_file.ensures.taken

pub returns-else-branch-clause-refused : goal.returns-else-branch-clause-refused
returns-else-branch-clause-refused g c =
    err_weaker c.take_file.result _ _
    (λ e. file_fails g.T.Taker.takes g.T.Taker.refuses (g.W.World.sees c.args.self.now.world.now) c.args.self.now.bits c.args.path.now c.args.taker.now 64 e) c.take_file.ensures.refused
