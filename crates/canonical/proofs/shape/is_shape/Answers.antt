use Rattle.std.proofs.Common.{◌∙◌, sym}
use Rattle.canonical.proofs.Ascending.{ascends, numbered, increasing}
use Rattle.canonical.proofs.shape.is_shape.Goals as goal

pub returns-clause-in_range : goal.returns-clause-in_range
returns-clause-in_range c = λ is. numbered c.args.entries.now (sym c.ascends.ensures ∙ is)

pub returns-clause-ascending : goal.returns-clause-ascending
returns-clause-ascending c = λ is. increasing 0 c.args.entries.now (ascends c.args.entries.now (sym c.ascends.ensures ∙ is))
