use Rattle.eviction.proofs.Entered.{evicts_least}
use Rattle.eviction.proofs.laws.entering_gives_up_the_fewest.Goals as goal

pub returns : goal.returns
returns g c = λ s k bytes can. evicts_least g.K.PartialEq.eq g.met.K.Eq.laws s k bytes can
