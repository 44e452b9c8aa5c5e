use Rattle.std.proofs.Common.{◌∙◌}
use Rattle.eviction.proofs.Repins.{count_is}
use Rattle.eviction.proofs.bounded.Bounded.pins.Goals as goal

pub returns : goal.returns
returns g c = rw (← c.self.view_is) (c.count_under.ensures ∙ count_is g.K.PartialEq.eq c.args.key.now c.self.inside.cache.entries)
