use Rattle.service.proofs.Seeing.{seen_roused}
use Rattle.service.proofs.together.Together.note.Goals as goal

pub returns-clause-seen : goal.returns-clause-seen
returns-clause-seen g c =
    seen_roused g.S.Peer.full g.S.Peer.dry c.args.event.now c.in-Some.number c.args.self.now c.rouse.new.self c.queue.new.self c.rouse.ensures.at c.rouse.ensures.others c.rouse.ensures.rest
    c.queue.ensures.at c.queue.ensures.others c.queue.ensures.list c.queue.ensures.short c.queue.ensures.rest
