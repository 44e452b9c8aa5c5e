use Rattle.std.proofs.Common.{refl, ap, ◌∙◌, Some, None}
use Rattle.eviction.specs.View.{held_all}
use Rattle.eviction.proofs.Costs.{tallied_moved}
use Rattle.eviction.proofs.Looks.{promoted_held, found_before}
use Rattle.eviction.proofs.bounded.Bounded.get.Goals as goal

pub invariant_of-self : goal.invariant_of-self
invariant_of-self g c =
    let eq = g.K.PartialEq.eq in
    let es = c.self.inside.cache.entries in
    let moved = ap (λ s. held_all s.entries) c.promote-found.ensures.entries ∙ promoted_held eq g.met.K.Eq.laws c.args.key.now es c.len-count.ensures.valid.0 in
    rw moved (tallied_moved c.self.inside.overhead eq c.args.key.now (held_all es) c.self.inside.limit c.self.inside.held c.self.inside.pinned c.self.invariant)

pub returns-in_err-first : goal.returns-in_err-first
returns-in_err-first g c =
    let eq = g.K.PartialEq.eq in
    let es = c.self.inside.cache.entries in
    let distinct = c.len-count.ensures.valid.0 in
    let p = ap (λ s. s.entries) c.promote-found.ensures.entries in
    let moved = ap held_all p ∙ promoted_held eq g.met.K.Eq.laws c.args.key.now es distinct in
    let v = found_before eq g.met.K.Eq.laws c.args.key.now es c.promote-found.new.self.entries None distinct p (rw c.in_err-first.was at c.peek.ensures) in
    rw (← c.self.view_is, c.from_residual.ensures) ((refl, λ _. tt, ap (λ fs. record { entries = fs; limit = c.self.inside.limit; overhead = c.self.inside.overhead }) moved), record { moves = tt; value = v })

pub returns : goal.returns
returns g c =
    let eq = g.K.PartialEq.eq in
    let es = c.self.inside.cache.entries in
    let distinct = c.len-count.ensures.valid.0 in
    let p = ap (λ s. s.entries) c.promote-found.ensures.entries in
    let moved = ap held_all p ∙ promoted_held eq g.met.K.Eq.laws c.args.key.now es distinct in
    let v = found_before eq g.met.K.Eq.laws c.args.key.now es c.promote-found.new.self.entries (Some c.in_ok-first.first.now) distinct p (rw c.in_ok-first.was at c.peek.ensures) in
    rw (← c.self.view_is) ((refl, λ _. tt, ap (λ fs. record { entries = fs; limit = c.self.inside.limit; overhead = c.self.inside.overhead }) moved), record { moves = tt; value = ap Some c.as_slice.ensures ∙ v })
