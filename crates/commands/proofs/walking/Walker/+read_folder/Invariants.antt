use Rattle.std.proofs.Common.{◌+◌, ◌*◌, map, take, string_bytes}
use Rattle.commands.specs.Children.{folder_read}
use Rattle.commands.proofs.SoFar.{IsReadSoFar}
use Rattle.commands.proofs.walking.Walker.+read_folder.Given as goal

-- what the names so far have is read and taken
abbrev pub invariant-read_folder-loop-name : goal.invariant-read_folder-loop-name
invariant-read_folder-loop-name g l = IsReadSoFar g.T.Taker.takes g.T.Taker.refuses (g.W.World.sees l.self.world.now) l.self.bits l.levels_left l.place (take l.name-index (map string_bytes l.name-items)) (folder_read l.children) l.fn.taker l.taker

abbrev pub decreases-read_entry : goal.decreases-read_entry
decreases-read_entry g l = 2 * l.levels_left + 1

abbrev pub decreases-read_folder : goal.decreases-read_folder
decreases-read_folder g l = 2 * l.levels_left
