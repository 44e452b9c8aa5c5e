use Rattle.std.proofs.Common.{string_bytes}
use Rattle.commands.proofs.recalling.recall_asked.Given as goal

-- the folder that the words name, and the world
abbrev pub ghosts-recall_folder : goal.ghosts-recall_folder
ghosts-recall_folder g a = record { folder = string_bytes a.folder; sees = g.W.World.sees a.world.now }
