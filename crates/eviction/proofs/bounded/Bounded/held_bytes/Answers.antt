use Rattle.eviction.proofs.Looks.{distinct_held}
use Rattle.eviction.proofs.bounded.Bounded.held_bytes.Goals as goal

pub returns-clause-valid : goal.returns-clause-valid
returns-clause-valid g c =
    let es = c.self.inside.cache.entries in
    rw (← c.self.view_is) (record { distinct = distinct_held g.K.PartialEq.eq es c.len-distinct.ensures.valid.0; fits = rw (← c.self.invariant.held_is) c.self.invariant.within })
