use Rattle.std.specs.Prelude.{false}
use Rattle.std.proofs.Common.{◌≡◌, inr, arith, true, length, refl, sym, ◌∙◌, ap, subst, rules}
use Rattle.service.specs.Together.{AreSame, WakesAfter, member_at}
use Rattle.service.specs.declared.together.Together.{Together}
use Rattle.service.proofs.Keeping.{keeps_further, keeps_same}
use Rattle.service.proofs.Places.{placed_further, placed_still}
use Rattle.service.proofs.Rounds.{counts_on}
use Rattle.service.proofs.Seeing.{seen_same}
use Rattle.service.proofs.together.Together.accept_some.Goals as goal

pub returns-in_err-accept_one-clause-keeps : goal.returns-in_err-accept_one-clause-keeps
returns-in_err-accept_one-clause-keeps g c = keeps_further c.loop.invariant.keeps c.accept_one.ensures.keeps

pub returns-in_err-accept_one-clause-places : goal.returns-in_err-accept_one-clause-places
returns-in_err-accept_one-clause-places g c = placed_further c.loop.invariant.places c.accept_one.ensures.places

pub loop-preserved : goal.loop-preserved
loop-preserved g c = record {
  keeps = keeps_further c.loop.invariant.keeps c.accept_one.ensures.keeps;
  places = placed_further c.loop.invariant.places c.accept_one.ensures.places;
  count = counts_on c.loop.self.waits c.accept_one.new.self.waits c.args.accepted.now c.loop.counter c.loop.accepted c.accept_one.new.accepted (search rules) c.loop.invariant.count c.in_ok-accept_one.ensures.one;
  within = c.accept_one.ensures.within;
  again = λ was. c.accept_one.ensures.again (search rules);
  seen = λ seen. c.accept_one.ensures.seen (c.loop.invariant.seen seen);
  rest = c.accept_one.ensures.rest ∙ ap (λ (z : Together g.row.S.Denot). let new = c.accept_one.new.self in record z { members = new.members; ready = new.ready; short = new.short; waits = new.waits; retry = new.retry; wake = new.wake; line = new.line }) c.loop.invariant.rest;
  wake = λ seen later. c.accept_one.ensures.wake (c.loop.invariant.seen seen) (c.loop.invariant.wake seen later);
}

pub loop-init : goal.loop-init
loop-init g c =
    let f = c.args.self.now.members.entries in
    let t = c.try_again.new.self.members.entries in
    let rest = c.try_again.ensures.rest in
    let same : AreSame f t = (λ j. ap (λ z. member_at z.members.entries j) rest, ap (λ z. length z.members.entries) rest) in
    record {
      keeps = keeps_same false g.S.Peer.spoke g.N.Sockets.ended g.N.Sockets.lost f t c.args.accepted.now c.args.server.now same;
      places = placed_still c.args.sockets.now f t c.args.accepted.now same;
      count = inr (omega arith);
      within = c.requires;
      again = λ was shut. let z : false ≡ true = sym shut ∙ c.try_again.ensures.waits was in absurd cc;
      seen = seen_same g.S.Peer.full g.S.Peer.dry c.args.self.now c.try_again.new.self rest;
      rest = subst (λ (z : Together g.row.S.Denot). z ≡ record c.args.self.now { members = z.members; ready = z.ready; short = z.short; waits = z.waits; retry = z.retry; wake = z.wake; line = z.line }) (sym rest) refl;
      wake = λ seen later. subst (λ w. WakesAfter c.args.now w) (sym (ap (λ z. z.wake) rest)) later;
    }
