use Rattle.std.proofs.Common.{[], ◌∷◌, codes}
use Rattle.commands.specs.Evidence.{given}
use Rattle.commands.specs.Memory.{sees_in}
use Rattle.commands.proofs.Asked.{ok_asked}
use Rattle.commands.proofs.kept_file.verify_alone.Goals as goal

pub returns : goal.returns
returns c = ok_asked (sees_in c.args.world.now) (given (codes "evidence") c.args.path.now ∷ []) c.verify_said.result c.in_ok-check_asked.ensures c.verify_said.ensures.answered
