use Rattle.std.specs.Prelude.{false}
use Rattle.service.proofs.Keeping.{keeps_but_held, keeps_further}
use Rattle.std.proofs.Common.{inl, refl, ◌∙◌, arith}
use Rattle.service.proofs.Places.{placed_further, placed_but_held}
use Rattle.service.proofs.Rounds.{took_turns}
use Rattle.service.proofs.Seeing.{seen_same}
use Rattle.service.specs.Rounds.{NoTurn, OneTurn}
use Rattle.service.proofs.together.Together.run.Goals as goal

pub loop-preserved : goal.loop-preserved
loop-preserved g c = record {
  keeps = λ accepted. keeps_further (c.loop.invariant.keeps accepted) (c.turn.ensures.keeps accepted);
  seen = λ seen. c.turn.ensures.seen (c.loop.invariant.seen seen);
  turns = OneTurn c.loop.counter _ c.args.self.now c.loop.self c.turn.new.self c.loop.invariant.turns c.turn.ensures.turns;
  eased = λ eased. c.turn.ensures.eased (c.loop.invariant.eased eased);
  waits = λ was. c.turn.ensures.waits (c.loop.invariant.waits was);
  share = c.turn.ensures.share ∙ c.loop.invariant.share;
  retry = c.turn.ensures.retry ∙ c.loop.invariant.retry;
  idle = c.turn.ensures.idle ∙ c.loop.invariant.idle;
  places = λ all accepted. placed_further (c.loop.invariant.places all accepted) (c.turn.ensures.places all accepted);
}

pub returns-then-self-clause-keeps : goal.returns-then-self-clause-keeps
returns-then-self-clause-keeps g c accepted =
    keeps_further (c.loop.invariant.keeps accepted)
    (keeps_but_held false g.S.Peer.spoke g.N.Sockets.ended g.N.Sockets.lost _ c.loop.self.members.entries c.release.new.self.members.entries accepted c.loop.server c.release.ensures.same)

pub returns-then-self-clause-places : goal.returns-then-self-clause-places
returns-then-self-clause-places g c all accepted =
    placed_further (c.loop.invariant.places all accepted)
    (placed_but_held g.S.Peer.spoke _ c.loop.sockets c.loop.self.members.entries c.release.new.self.members.entries accepted c.release.ensures.same)

pub returns-then-self-clause-seen : goal.returns-then-self-clause-seen
returns-then-self-clause-seen g c seen =
    c.release.ensures.seen (seen_same g.S.Peer.full g.S.Peer.dry c.loop.self (record c.loop.self { scales = record c.loop.self.scales { eased = false } }) refl (c.loop.invariant.seen seen))

pub loop-init : goal.loop-init
loop-init g c = record {
  keeps = λ accepted. record { on = λ prefix opening history keeps. keeps };
  turns = NoTurn c.args.self.now;
  seen = λ seen. seen;
  eased = λ eased. eased;
  places = λ all accepted. record { on = λ before placed. placed };
  waits = λ was. was;
  share = refl;
  retry = refl;
  idle = refl;
}

pub returns-then-self-clause-turns : goal.returns-then-self-clause-turns
returns-then-self-clause-turns g c = took_turns g.S.Peer.spoke g.S.Peer.tried _ c.args.self.now c.loop.self c.release.new.self (omega arith) c.loop.invariant.turns c.release.ensures.same

pub returns-else-self-clause-turns : goal.returns-else-self-clause-turns
returns-else-self-clause-turns g c = took_turns g.S.Peer.spoke g.S.Peer.tried 0 c.args.self.now c.loop.self c.loop.self (omega arith) c.loop.invariant.turns (λ j. inl refl, refl)
