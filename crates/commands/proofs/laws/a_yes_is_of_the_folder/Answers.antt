use Rattle.commands.proofs.OfFolder.{of_folder}
use Rattle.commands.proofs.laws.a_yes_is_of_the_folder.Goals as goal

pub returns : goal.returns
returns g c = λ options place old new named h. of_folder (g.W.World.sees c.args._world.now) options place h.line named h.is.answers
