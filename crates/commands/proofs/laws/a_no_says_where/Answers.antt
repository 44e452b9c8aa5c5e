use Rattle.commands.proofs.OfNo.{no_of_folder}
use Rattle.commands.proofs.laws.a_no_says_where.Goals as goal

pub returns : goal.returns
returns g c = λ options place old new x named h. no_of_folder (g.W.World.sees c.args._world.now) options place x h.line named h.is.answers
