use Rattle.std.proofs.Common.{false, ap, length, ◌∙◌}
use Rattle.service.specs.Together.{AreSame, member_at}
use Rattle.service.proofs.Keeping.{keeps_same, keeps_further}
use Rattle.service.proofs.Places.{placed_further, placed_still}
use Rattle.service.proofs.Seeing.{seen_same}
use Rattle.service.proofs.together.Together.serve.Goals as goal

pub returns-in_err-accept_some-clause-keeps : goal.returns-in_err-accept_some-clause-keeps
returns-in_err-accept_some-clause-keeps g c =
    keeps_further c.loop.invariant.keeps (keeps_further (c.sweep.ensures.keeps c.loop.accepted) c.accept_some.ensures.keeps)

pub returns-in_err-accept_some-clause-places : goal.returns-in_err-accept_some-clause-places
returns-in_err-accept_some-clause-places g c =
    placed_further c.loop.invariant.places (placed_further (c.sweep.ensures.places c.args.at_once c.loop.accepted) c.accept_some.ensures.places)

pub returns-then-is_empty-clause-keeps : goal.returns-then-is_empty-clause-keeps
returns-then-is_empty-clause-keeps g c =
    keeps_further c.loop.invariant.keeps (keeps_further (c.sweep.ensures.keeps c.loop.accepted) c.accept_some.ensures.keeps)

pub returns-then-is_empty-clause-places : goal.returns-then-is_empty-clause-places
returns-then-is_empty-clause-places g c =
    placed_further c.loop.invariant.places (placed_further (c.sweep.ensures.places c.args.at_once c.loop.accepted) c.accept_some.ensures.places)

pub returns-in_err-pause-clause-keeps : goal.returns-in_err-pause-clause-keeps
returns-in_err-pause-clause-keeps g c =
    let n = c.accept_some.new.accepted in
    let shown : AreSame c.accept_some.new.self.members.entries c.show.new.self.members.entries = (λ j. ap (λ z. member_at z.members.entries j) c.show.ensures, ap (λ z. length z.members.entries) c.show.ensures) in
    keeps_further c.loop.invariant.keeps (keeps_further (c.sweep.ensures.keeps c.loop.accepted) (keeps_further c.accept_some.ensures.keeps
    (keeps_further (keeps_same false g.S.Peer.spoke g.N.Sockets.ended g.N.Sockets.lost _ _ n c.accept_some.new.server shown) (c.pause.ensures.keeps c.accept_some.new.server n))))

pub returns-in_err-pause-clause-places : goal.returns-in_err-pause-clause-places
returns-in_err-pause-clause-places g c =
    let n = c.accept_some.new.accepted in
    let shown : AreSame c.accept_some.new.self.members.entries c.show.new.self.members.entries = (λ j. ap (λ z. member_at z.members.entries j) c.show.ensures, ap (λ z. length z.members.entries) c.show.ensures) in
    placed_further c.loop.invariant.places (placed_further (c.sweep.ensures.places c.args.at_once c.loop.accepted) (placed_further c.accept_some.ensures.places
    (placed_further (placed_still c.accept_some.new.sockets _ _ n shown) (c.pause.ensures.places c.args.at_once n))))

pub loop-preserved : goal.loop-preserved
loop-preserved g c =
    let n = c.accept_some.new.accepted in
    let shown : AreSame c.accept_some.new.self.members.entries c.show.new.self.members.entries = (λ j. ap (λ z. member_at z.members.entries j) c.show.ensures, ap (λ z. length z.members.entries) c.show.ensures) in
    record {
      keeps = keeps_further c.loop.invariant.keeps (keeps_further (c.sweep.ensures.keeps c.loop.accepted) (keeps_further c.accept_some.ensures.keeps
          (keeps_further (keeps_same false g.S.Peer.spoke g.N.Sockets.ended g.N.Sockets.lost _ _ n c.accept_some.new.server shown) (keeps_further (c.pause.ensures.keeps c.accept_some.new.server n) (c.run.ensures.keeps n)))));
      places = placed_further c.loop.invariant.places (placed_further (c.sweep.ensures.places c.args.at_once c.loop.accepted) (placed_further c.accept_some.ensures.places
          (placed_further (placed_still c.accept_some.new.sockets _ _ n shown) (placed_further (c.pause.ensures.places c.args.at_once n) (c.run.ensures.places c.args.at_once n)))));
      share = c.run.ensures.share ∙ ap (λ z. z.share) c.pause.ensures.rest ∙ ap (λ z. z.share) c.show.ensures ∙ ap (λ z. z.share) c.accept_some.ensures.rest ∙ ap (λ z. z.share) c.sweep.ensures.rest ∙ c.loop.invariant.share;
      idle = c.run.ensures.idle ∙ ap (λ z. z.idle) c.pause.ensures.rest ∙ ap (λ z. z.idle) c.show.ensures ∙ ap (λ z. z.idle) c.accept_some.ensures.rest ∙ ap (λ z. z.idle) c.sweep.ensures.rest ∙ c.loop.invariant.idle;
      within = c.accept_some.ensures.within;
      seen = c.run.ensures.seen c.pause.ensures.seen;
    }

pub pause-requires-clause-seen : goal.pause-requires-clause-seen
pause-requires-clause-seen g c = seen_same g.S.Peer.full g.S.Peer.dry c.accept_some.new.self c.show.new.self c.show.ensures (c.accept_some.ensures.seen (c.sweep.ensures.seen c.loop.invariant.seen))
