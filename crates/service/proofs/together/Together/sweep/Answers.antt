use Rattle.std.proofs.Common.{◌≤◌, sym, ◌∙◌, ap, subst, arith}
use Rattle.std.specs.Prelude.{IfSome}
use Rattle.service.specs.Member.{deadline_at}
use Rattle.service.proofs.Keeping.{keeps_further}
use Rattle.service.proofs.Places.{placed_further}
use Rattle.service.proofs.Rounds.{ends_one}
use Rattle.service.proofs.Seeing.{seen_wake}
use Rattle.service.proofs.Waking.{first_at_most, is_calm, or_never, spares_on}
use Rattle.service.proofs.Whole.{none_open}
use Rattle.service.specs.declared.together.Together.{Together}
use Rattle.service.proofs.together.Together.sweep.Goals as goal

pub loop-preserved : goal.loop-preserved
loop-preserved g c = record {
  keeps = λ accepted. keeps_further (c.loop.invariant.keeps accepted) (c.give_up.ensures.keeps accepted);
  places = λ all accepted. placed_further (c.loop.invariant.places all accepted) (c.give_up.ensures.places all accepted);
  seen = λ seen. c.give_up.ensures.seen (c.loop.invariant.seen seen);
  rest = c.give_up.ensures.rest ∙ ap (λ (z : Together g.row.S.Denot). let new = c.give_up.new.self in record z { members = new.members; scales = new.scales; waits = new.waits; line = new.line }) c.loop.invariant.rest;
  waits = λ was. c.give_up.ensures.waits (c.loop.invariant.waits was);
  spares = λ calm few. spares_on calm c.args.self.now.idle c.loop.self.idle c.is_pressed-pressed.result c.args.now c.in-Err.number c.in-Err.deadline
      c.args.self.now.members.entries c.loop.self.members.entries c.give_up.new.self.members.entries
      (λ is. is_calm c.loop.self.members.entries c.loop.self.scales.load c.is_pressed-pressed.result c.is_pressed-pressed.ensures.answers (c.loop.invariant.little (few is)))
      (c.loop.invariant.spares calm few) (ap (λ (z : Together g.row.S.Denot). z.idle) c.loop.invariant.rest) c.in-Err.ensures.late c.in-Err.ensures.due c.give_up.ensures.others;
  late = ends_one c.args.self.now.idle c.loop.self.idle c.is_pressed-pressed.result c.args.now c.in-Err.number c.in-Err.deadline
      c.args.self.now.members.entries c.loop.self.members.entries c.give_up.new.self.members.entries c.args.self.now.scales.load c.loop.self.scales.load c.give_up.new.self.scales.load
      c.loop.invariant.late (ap (λ (z : Together g.row.S.Denot). z.idle) c.loop.invariant.rest) c.in-Err.ensures.open c.is_pressed-pressed.ensures c.in-Err.ensures.late c.in-Err.ensures.due c.give_up.ensures.gone c.give_up.ensures.others c.give_up.ensures.less;
  little = λ few. c.give_up.ensures.little (c.loop.invariant.little few);
  fewer = omega (arith, c.give_up.ensures.fewer, c.loop.invariant.fewer);
}

pub returns-in-Ok-clause-seen : goal.returns-in-Ok-clause-seen
returns-in-Ok-clause-seen g c seen =
    seen_wake g.S.Peer.full g.S.Peer.dry c.loop.self c.in-Ok.wake (λ k. first_at_most c.loop.self.idle c.loop.self.members.entries k c.in-Ok.wake c.in-Ok.ensures.wake.1) (c.loop.invariant.seen seen)

pub returns-clause-seen : goal.returns-clause-seen
returns-clause-seen g c seen =
    seen_wake g.S.Peer.full g.S.Peer.dry c.loop.self 18446744073709551615 (λ k. subst (λ o. IfSome o (λ m. 18446744073709551615 ≤ or_never (deadline_at m c.loop.self.idle))) (sym (none_open c.loop.self.members.entries (omega arith) k)) tt) (c.loop.invariant.seen seen)
