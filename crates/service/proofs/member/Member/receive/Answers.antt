use Rattle.std.proofs.Common.{◌≡◌, ℕ, [], List, Some, None, refl, sym, ◌∙◌, ap, take, drop, arith}
use Rattle.std.proofs.lemmas.Grind.{common_steps}
use Rattle.std.specs.Prelude.{Ok, Err}
use Rattle.cache_server.specs.declared.error.ConnError.TheVariants.{Memory, ReadFault}
use Rattle.service.specs.Sockets.{Failed}
use Rattle.service.specs.Member.{MemberValue, end_of, unsent_of}
use Rattle.service.proofs.Talking.{moves_from, stays_moves, passes_moves, reads_end, reads_none, reads_pass, fails_for, reads_moves, next_moves, next_fails, moves_end}
use Rattle.service.proofs.member.Member.receive.Goals as goal

none_taken : (bytes : List ℕ) (count : ℕ) → count ≡ 0 → take count bytes ≡ []
none_taken bytes count e = ap (λ (n : ℕ). take n bytes) e

pub returns-in-Err-clause-moves : goal.returns-in-Err-clause-moves
returns-in-Err-clause-moves g c =
    moves_from g.S.Peer.spoke g.S.Peer.over (end_of c.after_fault.result) c.args.number c.args.server.now c.args.server.now c.args.self.now _ _ c.self.view_is
    (stays_moves g.S.Peer.spoke g.S.Peer.over (end_of c.after_fault.result) c.args.number c.args.server.now _ _ c.in-Err.ensures.fault refl refl
    (fails_for (λ e. g.S.Peer.over c.read.new.self.stream (Failed e)) c.in-Err.fault ReadFault c.after_fault.result c.in-Err.ensures.broken c.after_fault.ensures))

pub returns-then-count-eq0-clause-moves : goal.returns-then-count-eq0-clause-moves
returns-then-count-eq0-clause-moves g c =
    let left : drop c.self.inside.at c.self.inside.input.items ≡ [] = ap (λ (z : MemberValue g.row.S.Denot). z.left) c.self.view_is ∙ c.requires.left in
    let unsent : unsent_of c.self.inside.answer c.self.inside.sent ≡ [] = ap (λ (z : MemberValue g.row.S.Denot). z.unsent) c.self.view_is ∙ c.requires.unsent in
    moves_from g.S.Peer.spoke g.S.Peer.over (Some (Ok tt)) c.args.number c.args.server.now c.args.server.now c.args.self.now _ _ c.self.view_is
    (passes_moves g.S.Peer.spoke g.S.Peer.over (Some (Ok tt)) c.args.number c.args.server.now _ _
    (reads_end g.S.Peer.spoke g.S.Peer.over _ _ (reads_none g.S.Peer.spoke g.S.Peer.over _ _ (take c.in-Ok.count c.read.new.buffer) (none_taken c.read.new.buffer c.in-Ok.count c.if-count-eq0.true) c.in-Ok.ensures.read) left unsent (c.in-Ok.ensures.end c.if-count-eq0.true)))

pub returns-in-Err-next-clause-moves : goal.returns-in-Err-next-clause-moves
returns-in-Err-next-clause-moves g c =
    let left : drop c.self.inside.at c.self.inside.input.items ≡ [] = ap (λ (z : MemberValue g.row.S.Denot). z.left) c.self.view_is ∙ c.requires.left in
    let unsent : unsent_of c.self.inside.answer c.self.inside.sent ≡ [] = ap (λ (z : MemberValue g.row.S.Denot). z.unsent) c.self.view_is ∙ c.requires.unsent in
    let mid : MemberValue g.row.S.Denot = record c.args.self.now { stream = c.read.new.self.stream; left = c.split_at.result.0.now; unsent = [] } in
    moves_from g.S.Peer.spoke g.S.Peer.over (Some (Err Memory)) c.args.number c.args.server.now c.next.new.self c.args.self.now _ _ c.self.view_is
    (reads_moves g.S.Peer.spoke g.S.Peer.over (Some (Err Memory)) c.args.number c.args.server.now c.next.new.self _ mid _
    (reads_pass g.S.Peer.spoke g.S.Peer.over _ mid (take c.in-Ok.count c.read.new.buffer) c.in-Ok.ensures.read left c.split_at.ensures.front (sym unsent))
    (next_fails g.S.Peer.spoke g.S.Peer.over c.args.number c.args.server.now c.next.new.self mid _ c.split_at.result.0.now c.requires.more refl refl c.next.ensures.prefix c.in-Err-next.ensures.err))

pub returns-then-is_err-clause-moves : goal.returns-then-is_err-clause-moves
returns-then-is_err-clause-moves g c =
    let left : drop c.self.inside.at c.self.inside.input.items ≡ [] = ap (λ (z : MemberValue g.row.S.Denot). z.left) c.self.view_is ∙ c.requires.left in
    let unsent : unsent_of c.self.inside.answer c.self.inside.sent ≡ [] = ap (λ (z : MemberValue g.row.S.Denot). z.unsent) c.self.view_is ∙ c.requires.unsent in
    let mid : MemberValue g.row.S.Denot = record c.args.self.now { stream = c.read.new.self.stream; left = c.split_at.result.0.now; unsent = [] } in
    let told : MemberValue g.row.S.Denot = record c.args.self.now { stream = c.read.new.self.stream; left = drop c.in-Ok-next.taken c.split_at.result.0.now; unsent = unsent_of c.in-Ok-next.answer 0 } in
    moves_from g.S.Peer.spoke g.S.Peer.over (Some (Err Memory)) c.args.number c.args.server.now c.next.new.self c.args.self.now _ _ c.self.view_is
    (moves_end g.S.Peer.spoke g.S.Peer.over c.args.number c.args.server.now c.next.new.self _ told _ refl
    (reads_moves g.S.Peer.spoke g.S.Peer.over None c.args.number c.args.server.now c.next.new.self _ mid told
    (reads_pass g.S.Peer.spoke g.S.Peer.over _ mid (take c.in-Ok.count c.read.new.buffer) c.in-Ok.ensures.read left c.split_at.ensures.front (sym unsent))
    (next_moves g.S.Peer.spoke g.S.Peer.over c.args.number c.args.server.now c.next.new.self mid told c.split_at.result.0.now c.in-Ok-next.taken c.in-Ok-next.answer c.requires.more refl refl refl refl refl
    c.next.ensures.prefix c.in-Ok-next.ensures.answers c.in-Ok-next.ensures.ok)))

pub returns-else-is_err-clause-moves : goal.returns-else-is_err-clause-moves
returns-else-is_err-clause-moves g c =
    let left : drop c.self.inside.at c.self.inside.input.items ≡ [] = ap (λ (z : MemberValue g.row.S.Denot). z.left) c.self.view_is ∙ c.requires.left in
    let unsent : unsent_of c.self.inside.answer c.self.inside.sent ≡ [] = ap (λ (z : MemberValue g.row.S.Denot). z.unsent) c.self.view_is ∙ c.requires.unsent in
    let mid : MemberValue g.row.S.Denot = record c.args.self.now { stream = c.read.new.self.stream; left = c.split_at.result.0.now; unsent = [] } in
    moves_from g.S.Peer.spoke g.S.Peer.over None c.args.number c.args.server.now c.next.new.self c.args.self.now _ _ c.self.view_is
    (reads_moves g.S.Peer.spoke g.S.Peer.over None c.args.number c.args.server.now c.next.new.self _ mid c.keep.new.self
    (reads_pass g.S.Peer.spoke g.S.Peer.over _ mid (take c.in-Ok.count c.read.new.buffer) c.in-Ok.ensures.read left c.split_at.ensures.front (sym unsent))
    (next_moves g.S.Peer.spoke g.S.Peer.over c.args.number c.args.server.now c.next.new.self mid c.keep.new.self c.split_at.result.0.now c.in-Ok-next.taken c.in-Ok-next.answer c.requires.more refl refl
    (ap (λ (z : MemberValue g.row.S.Denot). z.stream) c.keep.ensures) (grind (arith, common_steps)) (ap (λ (z : MemberValue g.row.S.Denot). z.unsent) c.keep.ensures)
    c.next.ensures.prefix c.in-Ok-next.ensures.answers c.in-Ok-next.ensures.ok))
