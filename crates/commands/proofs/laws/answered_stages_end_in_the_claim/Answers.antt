use Rattle.std.specs.Prelude.{codes}
use Rattle.clap.specs.Words.{first_of}
use Rattle.commands.proofs.Staged.{ends_named}
use Rattle.commands.proofs.laws.answered_stages_end_in_the_claim.Goals as goal

pub returns : goal.returns
returns g c = λ options old new h. record {
  valid = h.is.answers.valid;
  says = ends_named h.line (g.W.World.sees c.args._world.now) options (first_of (codes "evidence") options) h.is.answers.says;
}
