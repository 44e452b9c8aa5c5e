use Rattle.std.proofs.Common.{string_bytes}
use Rattle.commands.proofs.verifying.judge.Given as goal

-- the folder that the words name, and the world
abbrev pub ghosts-judge_folder : goal.ghosts-judge_folder
ghosts-judge_folder g a = record { folder = string_bytes a.folder; sees = g.W.World.sees a.world.now }
