use Rattle.std.proofs.Common.{◌≡◌, [], ◌∙◌, ap, arith, drop, length}
use Rattle.std.proofs.lemmas.List.{length-drop}
use Rattle.service.specs.Member.{MemberValue, end_of}
use Rattle.service.proofs.Talking.{lingers_moves, not_both}
use Rattle.service.proofs.member.Member.step.Goals as goal

pub returns-then-not-is_open-clause-moves : goal.returns-then-not-is_open-clause-moves
returns-then-not-is_open-clause-moves g c =
    lingers_moves g.S.Peer.spoke g.S.Peer.over (end_of c.linger.result) c.args.number c.args.server.now c.args.self.now c.linger.new.self
    c.linger.ensures.end (λ o. not_both c.is_open.result c.if-not-is_open.true (c.is_open.ensures.1 o))
    c.linger.ensures.stays c.linger.ensures.left c.linger.ensures.unsent (c.is_sent.ensures.0 c.if-not-is_sent.false)

pub returns-then-self-len-clause-share : goal.returns-then-self-len-clause-share
returns-then-self-len-clause-share g c none few =
    let left : drop c.self.inside.at c.self.inside.input.items ≡ [] = ap (λ (z : MemberValue g.row.S.Denot). z.left) c.self.view_is ∙ none in
    let long = ap length left in
    let size = length-drop c.self.inside.at c.self.inside.input.items in
    absurd (omega (arith, long, size, c.if-self-len.true))

pub go_on-requires-clause-some : goal.go_on-requires-clause-some
go_on-requires-clause-some g c none =
    let left : drop c.self.inside.at c.self.inside.input.items ≡ [] = ap (λ (z : MemberValue g.row.S.Denot). z.left) c.self.view_is ∙ none in
    let long = ap length left in
    let size = length-drop c.self.inside.at c.self.inside.input.items in
    absurd (omega (arith, long, size, c.if-self-len.true))
