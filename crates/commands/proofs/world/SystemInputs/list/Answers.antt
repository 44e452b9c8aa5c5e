use Rattle.commands.proofs.Order.{ordered_bytes}
use Rattle.commands.proofs.world.SystemInputs.list.Goals as goal

pub returns-clause-ordered : goal.returns-clause-ordered
returns-clause-ordered g c = ordered_bytes c.sort.new.self.items c.in_ok-sort.ensures.sorted
