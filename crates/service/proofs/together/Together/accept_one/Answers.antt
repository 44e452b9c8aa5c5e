use Rattle.std.proofs.Common.{rules, false, [], inl, length, refl, sym, ◌∙◌, ap, subst}
use Rattle.cache_server.specs.declared.error.ConnError.TheVariants.{Memory}
use Rattle.service.specs.Sockets.{EndsAtOnce}
use Rattle.service.specs.Together.{AreSame, EntersAt, member_at}
use Rattle.service.proofs.Keeping.{keeps_entered, keeps_refused}
use Rattle.service.proofs.Places.{placed_entered, placed_back}
use Rattle.service.proofs.Seeing.{seen_same}
use Rattle.service.proofs.together.Together.accept_one.Goals as goal

pub returns-in_default-clause-seen : goal.returns-in_default-clause-seen
returns-in_default-clause-seen g c seen = seen_same g.S.Peer.full g.S.Peer.dry c.args.self.now c.next.new.self c.next.ensures.rest seen

pub returns-in-Ok-enter-clause-keeps : goal.returns-in-Ok-enter-clause-keeps
returns-in-Ok-enter-clause-keeps g c =
    let said : g.S.Peer.spoke c.args.accepted.now c.in-Ok.stream [] [] = search rules in
    let enters : EntersAt c.args.accepted.now c.in-Ok.stream c.args.now c.next.new.self.members.entries c.enter.new.self.members.entries = search rules in
    keeps_entered false g.S.Peer.spoke g.N.Sockets.ended g.N.Sockets.lost c.args.self.now.members.entries c.enter.new.self.members.entries c.args.accepted.now c.args.server.now c.in-Ok.stream c.args.now said
    (subst (λ ms. EntersAt c.args.accepted.now c.in-Ok.stream c.args.now ms c.enter.new.self.members.entries) (ap (λ z. z.members.entries) c.next.ensures.rest) enters)

pub returns-in-Ok-enter-clause-places : goal.returns-in-Ok-enter-clause-places
returns-in-Ok-enter-clause-places g c =
    let enters : EntersAt c.args.accepted.now c.in-Ok.stream c.args.now c.next.new.self.members.entries c.enter.new.self.members.entries = search rules in
    placed_entered c.args.sockets.now c.next.new.sockets c.args.accepted.now c.in-Ok.stream c.args.now c.args.self.now.members.entries c.enter.new.self.members.entries
    (search rules) c.requires.place
    (subst (λ ms. EntersAt c.args.accepted.now c.in-Ok.stream c.args.now ms c.enter.new.self.members.entries) (ap (λ z. z.members.entries) c.next.ensures.rest) enters)

pub returns-in-Ok-enter-clause-seen : goal.returns-in-Ok-enter-clause-seen
returns-in-Ok-enter-clause-seen g c seen = c.enter.ensures.seen (seen_same g.S.Peer.full g.S.Peer.dry c.args.self.now c.next.new.self c.next.ensures.rest seen)

pub returns-in-Err-enter-clause-keeps : goal.returns-in-Err-enter-clause-keeps
returns-in-Err-enter-clause-keeps g c =
    let said : g.S.Peer.spoke c.args.accepted.now c.in-Ok.stream [] [] = search rules in
    let back = c.in-Err-enter.ensures.back in
    let ends : EndsAtOnce g.N.Sockets.ended g.N.Sockets.lost c.args.accepted.now Memory =
    record { is = c.end.ensures.ends.said c.args.accepted.now [] [] (subst (λ s. g.S.Peer.spoke c.args.accepted.now s [] []) (sym back) said); may = inl refl } in
    let entered : AreSame c.args.self.now.members.entries c.enter.new.self.members.entries = subst (λ ms. AreSame ms c.enter.new.self.members.entries) (ap (λ z. z.members.entries) c.next.ensures.rest) c.in-Err-enter.ensures.err in
    let same : AreSame c.args.self.now.members.entries c.let_go.new.self.members.entries = subst (λ ms. AreSame c.args.self.now.members.entries ms) (sym (ap (λ z. z.members.entries) c.let_go.ensures.rest)) entered in
    keeps_refused false g.S.Peer.spoke g.N.Sockets.ended g.N.Sockets.lost c.args.self.now.members.entries c.let_go.new.self.members.entries c.args.accepted.now c.args.server.now c.let_go.new.server Memory ends same c.let_go.ensures.prefix c.let_go.ensures.ends

pub returns-in-Err-enter-clause-places : goal.returns-in-Err-enter-clause-places
returns-in-Err-enter-clause-places g c =
    placed_back c.args.sockets.now c.next.new.sockets c.end.new.self c.args.self.now.members.entries c.let_go.new.self.members.entries c.args.accepted.now
    (search rules) c.end.ensures.gives c.requires.place (subst (λ ms. AreSame c.args.self.now.members.entries ms) (sym (ap (λ z. z.members.entries) c.let_go.ensures.rest))
    (subst (λ ms. AreSame ms c.enter.new.self.members.entries) (ap (λ z. z.members.entries) c.next.ensures.rest) c.in-Err-enter.ensures.err))

pub returns-in-Err-enter-clause-seen : goal.returns-in-Err-enter-clause-seen
returns-in-Err-enter-clause-seen g c seen =
    seen_same g.S.Peer.full g.S.Peer.dry c.enter.new.self c.let_go.new.self c.let_go.ensures.rest (c.enter.ensures.seen (seen_same g.S.Peer.full g.S.Peer.dry c.args.self.now c.next.new.self c.next.ensures.rest seen))

pub returns-in-Err-clause-keeps : goal.returns-in-Err-clause-keeps
returns-in-Err-clause-keeps g c =
    let ends : EndsAtOnce g.N.Sockets.ended g.N.Sockets.lost c.args.accepted.now c.in-Err.why = search rules in
    let rest = ap (λ z. z.members.entries) c.let_go-in-Err.ensures.rest ∙ ap (λ z. z.members.entries) c.next.ensures.rest in
    let same : AreSame c.args.self.now.members.entries c.let_go-in-Err.new.self.members.entries = (λ j. ap (λ z. member_at z j) rest, ap length rest) in
    keeps_refused false g.S.Peer.spoke g.N.Sockets.ended g.N.Sockets.lost c.args.self.now.members.entries c.let_go-in-Err.new.self.members.entries c.args.accepted.now c.args.server.now c.let_go-in-Err.new.server c.in-Err.why ends same c.let_go-in-Err.ensures.prefix c.let_go-in-Err.ensures.ends

pub returns-in-Err-clause-seen : goal.returns-in-Err-clause-seen
returns-in-Err-clause-seen g c seen =
    seen_same g.S.Peer.full g.S.Peer.dry c.next.new.self c.let_go-in-Err.new.self c.let_go-in-Err.ensures.rest (seen_same g.S.Peer.full g.S.Peer.dry c.args.self.now c.next.new.self c.next.ensures.rest seen)
