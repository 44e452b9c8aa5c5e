use Rattle.std.proofs.Common.{subst}
use Rattle.commands.specs.Printed.{IsNamedPlace}
use Rattle.commands.proofs.Placed.{in_both, in_both_fails, in_folder, in_folder_fails, on_server, on_server_fails}
use Rattle.commands.proofs.verifying.judge.Goals as goal

pub returns-in-Folder-clause-answered : goal.returns-in-Folder-clause-answered
returns-in-Folder-clause-answered g c = in_folder (g.W.World.sees c.args.world.now) (g.M.Options.rows c.args.options.now) c.in-Folder.folder c.args.case.now c.judge_folder.result (subst (IsNamedPlace (g.M.Options.rows c.args.options.now)) c.in-Folder.is c.requires) c.judge_folder.ensures.answered

pub returns-in-Folder-clause-fault : goal.returns-in-Folder-clause-fault
returns-in-Folder-clause-fault g c = in_folder_fails (g.W.World.sees c.args.world.now) (g.M.Options.rows c.args.options.now) c.in-Folder.folder c.judge_folder.result (subst (IsNamedPlace (g.M.Options.rows c.args.options.now)) c.in-Folder.is c.requires) c.judge_folder.ensures.fault

pub returns-in-Server-clause-answered : goal.returns-in-Server-clause-answered
returns-in-Server-clause-answered g c = on_server (g.W.World.sees c.args.world.now) (g.M.Options.rows c.args.options.now) c.in-Server.server c.args.case.now c.judge_server.result (subst (IsNamedPlace (g.M.Options.rows c.args.options.now)) c.in-Server.is c.requires) c.judge_server.ensures.answered

pub returns-in-Server-clause-fault : goal.returns-in-Server-clause-fault
returns-in-Server-clause-fault g c = on_server_fails (g.W.World.sees c.args.world.now) (g.M.Options.rows c.args.options.now) c.in-Server.server c.judge_server.result (subst (IsNamedPlace (g.M.Options.rows c.args.options.now)) c.in-Server.is c.requires) c.judge_server.ensures.fault

pub returns-in-Both-clause-answered : goal.returns-in-Both-clause-answered
returns-in-Both-clause-answered g c = in_both (g.W.World.sees c.args.world.now) (g.M.Options.rows c.args.options.now) c.in-Both.server c.in-Both.folder c.args.case.now c.judge_both.result (subst (IsNamedPlace (g.M.Options.rows c.args.options.now)) c.in-Both.is c.requires) c.judge_both.ensures.answered

pub returns-in-Both-clause-fault : goal.returns-in-Both-clause-fault
returns-in-Both-clause-fault g c = in_both_fails (g.W.World.sees c.args.world.now) (g.M.Options.rows c.args.options.now) c.in-Both.server c.in-Both.folder c.judge_both.result (subst (IsNamedPlace (g.M.Options.rows c.args.options.now)) c.in-Both.is c.requires) c.judge_both.ensures.fault
