use Rattle.std.proofs.Common.{false, refl}
use Rattle.service.proofs.Keeping.{keeps_told}
use Rattle.service.proofs.Places.{placed_further, placed_same, placed_told}
use Rattle.service.proofs.together.Together.pause.Goals as goal

pub returns-clause-keeps : goal.returns-clause-keeps
returns-clause-keeps g c server accepted = keeps_told false g.S.Peer.spoke g.N.Sockets.ended g.N.Sockets.lost c.as_slice.result.now c.args.self.now.members.entries c.mark.new.self.members.entries accepted server c.mark.ensures.marks

pub returns-clause-places : goal.returns-clause-places
returns-clause-places g c all accepted = placed_further
    (placed_same c.args.sockets.now c.wait.new.self c.args.self.now.members.entries c.args.self.now.members.entries accepted c.wait.ensures.keeps (λ j. refl, refl))
    (placed_told c.as_slice.result.now c.wait.new.self c.args.self.now.members.entries c.mark.new.self.members.entries accepted c.mark.ensures.marks)
