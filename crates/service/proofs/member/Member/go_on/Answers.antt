use Rattle.std.proofs.Common.{◌≡◌, drop, ◌∙◌, ap, ℕ, arith}
use Rattle.std.proofs.lemmas.Grind.{common_steps}
use Rattle.std.proofs.lemmas.List.{drop-drop, drop_min}
use Rattle.service.specs.Member.{MemberValue}
use Rattle.service.proofs.Talking.{next_moves, next_fails}
use Rattle.service.proofs.member.Member.go_on.Goals as goal

pub returns-in-Ok-clause-moves : goal.returns-in-Ok-clause-moves
returns-in-Ok-clause-moves g c =
    let left : drop c.self.inside.at c.self.inside.input.items ≡ c.args.self.now.left = ap (λ (z : MemberValue g.row.S.Denot). z.left) c.self.view_is in
    let stream : c.self.inside.stream.stream ≡ c.args.self.now.stream = ap (λ (z : MemberValue g.row.S.Denot). z.stream) c.self.view_is in
    next_moves g.S.Peer.spoke g.S.Peer.over c.args.number c.args.server.now c.next.new.self c.args.self.now c.keep.new.self c.split_at.result.1.now c.in-Ok.taken c.in-Ok.answer
    c.requires.more (grind (arith, common_steps, drop_min {X = ℕ})) c.requires.unsent (ap (λ (z : MemberValue g.row.S.Denot). z.stream) c.keep.ensures ∙ stream) (grind (arith, common_steps, drop-drop {A = ℕ})) (ap (λ (z : MemberValue g.row.S.Denot). z.unsent) c.keep.ensures)
    c.in-Ok.ensures.prefix c.in-Ok.ensures.answers c.in-Ok.ensures.ok

pub returns-in-Err-clause-moves : goal.returns-in-Err-clause-moves
returns-in-Err-clause-moves g c =
    let left : drop c.self.inside.at c.self.inside.input.items ≡ c.args.self.now.left = ap (λ (z : MemberValue g.row.S.Denot). z.left) c.self.view_is in
    let stream : c.self.inside.stream.stream ≡ c.args.self.now.stream = ap (λ (z : MemberValue g.row.S.Denot). z.stream) c.self.view_is in
    next_fails g.S.Peer.spoke g.S.Peer.over c.args.number c.args.server.now c.next.new.self c.args.self.now _ c.split_at.result.1.now
    c.requires.more (grind (arith, common_steps, drop_min {X = ℕ})) stream c.next.ensures.prefix c.in-Err.ensures.err
