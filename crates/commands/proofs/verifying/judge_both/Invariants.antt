use Rattle.std.proofs.Common.{string_bytes}
use Rattle.remote.specs.Remote.{connection_of}
use Rattle.commands.proofs.verifying.judge_both.Given as goal

-- the connection that was opened
abbrev pub ghosts-judge_parts-K-Opened : goal.ghosts-judge_parts-K-Opened
ghosts-judge_parts-K-Opened g a = record { start = connection_of g.W.Link.Stream.flow a.remote }

-- the folder, and the world
abbrev pub ghosts-judge_parts-F-FolderMark : goal.ghosts-judge_parts-F-FolderMark
ghosts-judge_parts-F-FolderMark g a = record { folder = string_bytes a.folder; sees = g.W.World.sees a.world.now }
