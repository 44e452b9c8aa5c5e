use Rattle.std.proofs.Common.{◌≡◌, ℕ, ◌<◌, ◌≤◌, [], ◌∷◌, inr, refl, sym, ap, subst, rules, arith}
use Rattle.std.specs.Prelude.{IfSome, IsSome, Some, min}
use Rattle.std.specs.Map.Iter.{deref_pair}
use Rattle.std.proofs.lemmas.Cmp.{nat_cmp_total}
use Rattle.std.proofs.lemmas.Map.Iter.{btree_map_turn}
use Rattle.service.specs.Member.{IsDeadline, MemberValue}
use Rattle.service.specs.Together.{AreHeavyInTime, first_deadline}
use Rattle.service.proofs.Waking.{first_below, heavy_later, or_never, wakes_calm, wakes_first, wakes_later, wakes_sooner}
use Rattle.service.proofs.together.Together.next_wake.Goals as goal

pub loop-number-init : goal.loop-number-init
loop-number-init g c =
    let idle = c.args.self.now.idle in
    let first = wakes_first c.args.self.now.idle c.args.self.now.members.entries c.into_iter-number-iterator.result (search rules) in record {
      fits = omega arith;
      later = inr refl;
      sooner = omega (arith, first);
      heavy = λ p all. subst (λ ms. AreHeavyInTime idle c.args.now ms) (search rules) all;
      calm = λ calm. first;
    }

pub loop-number-preserved-in_default : goal.loop-number-preserved-in_default
loop-number-preserved-in_default g c =
    let idle = c.args.self.now.idle in
    let first = first_deadline idle c.args.self.now.members.entries in
    let entry : ℕ × MemberValue g.row.S.Denot = (c.in-Some.number.now, c.in-Some.member.now) in
    let steps : c.loop-number.number-iterator ≡ entry ∷ c.next.new.self = search rules in
    let below = first_below idle c.next.new.self in
    let never = ap or_never c.in_default.is in record {
      fits = c.loop-number.invariant.fits;
      later = c.loop-number.invariant.later;
      sooner = let h = wakes_sooner idle c.args.pressed c.loop-number.wake first c.loop-number.number-iterator c.next.new.self entry c.deadline.result steps c.deadline.ensures.is c.loop-number.invariant.sooner in omega (arith, h, below, never);
      heavy = λ p. heavy_later idle c.args.now c.loop-number.number-iterator c.next.new.self entry c.deadline.result _ steps (c.deadline.ensures.heavy p) (subst (λ o. IfSome o (λ d. c.args.now < d)) (sym c.in_default.is) tt) (c.loop-number.invariant.heavy p);
      calm = λ calm. let h = wakes_calm idle c.args.pressed c.loop-number.wake first c.loop-number.number-iterator c.next.new.self entry c.deadline.result steps c.deadline.ensures.is calm (c.loop-number.invariant.calm calm) in omega (arith, h, below, never);
    }

pub returns-then-deadline-now-clause-open : goal.returns-then-deadline-now-clause-open
returns-then-deadline-now-clause-open g c =
    let turn = btree_map_turn deref_pair c.loop-number.yielded c.into_iter-number-iterator.result c.loop-number.number-iterator c.next.new.self c.next.result
    (c.in-Some.number, c.in-Some.member) c.loop-number.yielded_by c.in-Some.is c.next.ensures.steps nat_cmp_total c.args.self.now.members (search rules) c.iter-number-items.ensures.ordered in
    subst (λ o. IsSome o) (sym turn.1) refl

pub returns-then-deadline-now-clause-late : goal.returns-then-deadline-now-clause-late
returns-then-deadline-now-clause-late g c =
    let turn = btree_map_turn deref_pair c.loop-number.yielded c.into_iter-number-iterator.result c.loop-number.number-iterator c.next.new.self c.next.result
    (c.in-Some.number, c.in-Some.member) c.loop-number.yielded_by c.in-Some.is c.next.ensures.steps nat_cmp_total c.args.self.now.members (search rules) c.iter-number-items.ensures.ordered in
    subst (λ o. IfSome o (λ m. IsDeadline m c.args.self.now.idle c.args.pressed (Some c.in-Some-deadline.deadline))) (sym turn.1)
    (subst (IsDeadline c.in-Some.member.now c.args.self.now.idle c.args.pressed) c.in-Some-deadline.is c.deadline.ensures.is)

pub loop-number-preserved : goal.loop-number-preserved
loop-number-preserved g c =
    let idle = c.args.self.now.idle in
    let first = first_deadline idle c.args.self.now.members.entries in
    let entry : ℕ × MemberValue g.row.S.Denot = (c.in-Some.number.now, c.in-Some.member.now) in
    let steps : c.loop-number.number-iterator ≡ entry ∷ c.next.new.self = search rules in
    let is = ap or_never c.in-Some-deadline.is in
    let least = c.min-wake.ensures in record {
      fits = let fits = c.loop-number.invariant.fits in omega (arith, fits, least);
      later = wakes_later c.args.now c.loop-number.wake c.in-Some-deadline.deadline c.min-wake.result least c.loop-number.invariant.later c.if-deadline-now.false;
      sooner = let h = wakes_sooner idle c.args.pressed c.loop-number.wake first c.loop-number.number-iterator c.next.new.self entry c.deadline.result steps c.deadline.ensures.is c.loop-number.invariant.sooner in omega (arith, h, is, least);
      heavy = λ p. heavy_later idle c.args.now c.loop-number.number-iterator c.next.new.self entry c.deadline.result _ steps (c.deadline.ensures.heavy p) (subst (λ o. IfSome o (λ d. c.args.now < d)) (sym c.in-Some-deadline.is) c.if-deadline-now.false) (c.loop-number.invariant.heavy p);
      calm = λ calm. let h = wakes_calm idle c.args.pressed c.loop-number.wake first c.loop-number.number-iterator c.next.new.self entry c.deadline.result steps c.deadline.ensures.is calm (c.loop-number.invariant.calm calm) in omega (arith, h, is, least);
    }

pub returns-clause-wake : goal.returns-clause-wake
returns-clause-wake g c =
    let none : c.loop-number.number-iterator ≡ [] = search rules in
    let fits = c.loop-number.invariant.fits in
    let h : min c.loop-number.wake 18446744073709551615 ≤ first_deadline c.args.self.now.idle c.args.self.now.members.entries =
    subst (λ ms. min c.loop-number.wake (first_deadline c.args.self.now.idle ms) ≤ first_deadline c.args.self.now.idle c.args.self.now.members.entries) none c.loop-number.invariant.sooner in
    (c.loop-number.invariant.later, omega (arith, fits, h))

pub returns-clause-calm : goal.returns-clause-calm
returns-clause-calm g c calm =
    let none : c.loop-number.number-iterator ≡ [] = search rules in
    let fits = c.loop-number.invariant.fits in
    let h : min c.loop-number.wake 18446744073709551615 ≡ first_deadline c.args.self.now.idle c.args.self.now.members.entries =
    subst (λ ms. min c.loop-number.wake (first_deadline c.args.self.now.idle ms) ≡ first_deadline c.args.self.now.idle c.args.self.now.members.entries) none (c.loop-number.invariant.calm calm) in
    omega (arith, fits, h)

pub returns-clause-heavy : goal.returns-clause-heavy
returns-clause-heavy g c p =
    let none : c.loop-number.number-iterator ≡ [] = search rules in
    c.loop-number.invariant.heavy p (subst (λ ms. AreHeavyInTime c.args.self.now.idle c.args.now ms) (sym none) tt)
