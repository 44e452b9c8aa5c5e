use Rattle.eviction.proofs.Entered.{entered_pinned}
use Rattle.eviction.proofs.laws.entering_keeps_what_is_pinned.Goals as goal

pub returns : goal.returns
returns g c = λ s t k bytes enters. entered_pinned g.K.PartialEq.eq s t k bytes enters
