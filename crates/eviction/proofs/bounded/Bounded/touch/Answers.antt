use Rattle.std.proofs.Common.{sym, ap, ◌∙◌}
use Rattle.eviction.specs.View.{held_all}
use Rattle.eviction.proofs.Costs.{tallied_moved}
use Rattle.eviction.proofs.Looks.{promoted_held, is_stored_held}
use Rattle.eviction.proofs.bounded.Bounded.touch.Goals as goal

pub invariant_of-self : goal.invariant_of-self
invariant_of-self g c =
    let eq = g.K.PartialEq.eq in
    let es = c.self.inside.cache.entries in
    let moved = ap (λ s. held_all s.entries) c.promote.ensures.entries ∙ promoted_held eq g.met.K.Eq.laws c.args.key.now es c.len-count.ensures.valid.0 in
    rw moved (tallied_moved c.self.inside.overhead eq c.args.key.now (held_all es) c.self.inside.limit c.self.inside.held c.self.inside.pinned c.self.invariant)

pub returns-clause-held : goal.returns-clause-held
returns-clause-held g c = rw (← c.self.view_is) (c.promote.ensures.value ∙ sym (is_stored_held g.K.PartialEq.eq c.args.key.now c.self.inside.cache.entries))

pub returns-clause-moves : goal.returns-clause-moves
returns-clause-moves g c =
    let eq = g.K.PartialEq.eq in
    let es = c.self.inside.cache.entries in
    let moved = ap (λ s. held_all s.entries) c.promote.ensures.entries ∙ promoted_held eq g.met.K.Eq.laws c.args.key.now es c.len-count.ensures.valid.0 in
    rw (← c.self.view_is) (ap (λ fs. record { entries = fs; limit = c.self.inside.limit; overhead = c.self.inside.overhead }) moved)
