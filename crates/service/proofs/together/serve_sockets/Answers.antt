use Rattle.std.proofs.Common.{subst}
use Rattle.service.specs.Sockets.{ServesPlaces}
use Rattle.service.proofs.Places.{placed_further, placed_whole}
use Rattle.service.proofs.Whole.{none_open, serves_cut, serves_kept}
use Rattle.service.proofs.together.serve_sockets.Goals as goal

pub returns-then-is_empty-clause-err : goal.returns-then-is_empty-clause-err
returns-then-is_empty-clause-err g c opening history stands =
    serves_kept _ g.N.Sockets.ended g.N.Sockets.lost opening history c.in-Ok.together.members.entries c.serve-served.new.self.members.entries c.serve-served.new.accepted c.args.server.now c.serve-served.new.server
    c.in-Ok.ensures.ok c.serve-served.ensures.keeps (none_open c.serve-served.new.self.members.entries (c.is_empty.ensures.0 c.if-is_empty.true)) stands

pub returns-then-is_empty-clause-placed : goal.returns-then-is_empty-clause-placed
returns-then-is_empty-clause-placed g c =
    placed_whole c.args.sockets.now c.serve-served.new.sockets c.in-Ok.together.members.entries c.serve-served.new.self.members.entries c.serve-served.new.accepted
    c.in-Ok.ensures.ok c.serve-served.ensures.places (λ k below. none_open c.serve-served.new.self.members.entries (c.is_empty.ensures.0 c.if-is_empty.true) k)

pub returns-in-Ok-served-clause-places : goal.returns-in-Ok-served-clause-places
returns-in-Ok-served-clause-places g c =
    subst (λ n. ServesPlaces g.N.Sockets.places c.args.at_once n c.args.sockets.now c.serve-served.new.sockets) c.in-Ok-served.ensures.all
    (placed_whole c.args.sockets.now c.serve-served.new.sockets c.in-Ok.together.members.entries c.serve-served.new.self.members.entries c.serve-served.new.accepted
    c.in-Ok.ensures.ok c.serve-served.ensures.places (λ k below. c.in-Ok-served.ensures.gone k))

pub returns-clause-err : goal.returns-clause-err
returns-clause-err g c opening history stands =
    serves_cut _ g.N.Sockets.ended g.N.Sockets.lost opening history c.in-Ok.together.members.entries c.serve-served.new.self.members.entries c.end_all.new.self.members.entries c.serve-served.new.accepted
    c.args.server.now c.serve-served.new.server c.end_all.new.server
    c.in-Ok.ensures.ok c.serve-served.ensures.keeps (c.end_all.ensures.keeps c.serve-served.new.accepted) c.end_all.ensures.all stands

pub returns-clause-placed : goal.returns-clause-placed
returns-clause-placed g c =
    placed_whole c.args.sockets.now c.end_all.new.sockets c.in-Ok.together.members.entries c.end_all.new.self.members.entries c.serve-served.new.accepted
    c.in-Ok.ensures.ok (placed_further c.serve-served.ensures.places (c.end_all.ensures.places c.args.at_once c.serve-served.new.accepted)) (λ k below. c.end_all.ensures.all k)
