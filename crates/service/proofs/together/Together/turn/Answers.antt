use Rattle.std.proofs.Common.{◌≡◌, ◌∷◌, false, Option, Some, None, refl, sym, ◌∙◌, ap, subst, rules, arith}
use Rattle.std.specs.Prelude.{Err, IfSome}
use Rattle.cache_server.specs.declared.error.ConnError.TheVariants.{Memory}
use Rattle.service.specs.Member.{AwaitsEvent, MemberValue, end_of}
use Rattle.service.specs.Together.{MovesOnAt, member_at}
use Rattle.service.specs.declared.turn.Turn.TheVariants.{Again, Held, Waits}
use Rattle.service.proofs.Keeping.{keeps_further, keeps_moved, keeps_left, keeps_lost, keeps_queued}
use Rattle.service.proofs.Places.{placed_further, placed_moved, placed_queued}
use Rattle.service.proofs.Rounds.{is_behind, is_out}
use Rattle.service.specs.declared.together.Together.{Together}
use Rattle.service.proofs.Seeing.{ended_keeps, first_keeps, had_turn, kept_after, keeps_on, list_keeps, seen_awaiting, seen_gone, seen_held, seen_queued}
use Rattle.service.proofs.Whole.{none_stays, others_stay}
use Rattle.service.proofs.together.Together.turn.Goals as goal

-- so it is of the one that is open
some_of : {S : Type 0} (o : Option (MemberValue S)) (R : Type 0) → R → (P : MemberValue S → Type 0) → IfSome o (λ m. R → P m) → IfSome o P
some_of None R is P h = tt
some_of (Some m) R is P h = h is

pub returns-in-Again-clause-keeps : goal.returns-in-Again-clause-keeps
returns-in-Again-clause-keeps g c accepted =
    keeps_further
    (keeps_moved false g.S.Peer.spoke g.N.Sockets.ended g.N.Sockets.lost g.S.Peer.over c.args.self.now.members.entries c.advance.new.self.members.entries accepted c.args.server.now c.advance.new.server c.in-Some.number
    (subst (λ t. MovesOnAt g.S.Peer.spoke g.S.Peer.over 16 (end_of t) c.in-Some.number c.args.server.now c.args.self.now.members.entries c.advance.new.server c.advance.new.self.members.entries) c.in-Again.is c.in-Some-advance.ensures.some))
    (keeps_queued false g.S.Peer.spoke g.N.Sockets.ended g.N.Sockets.lost c.in-Some.number c.advance.new.self.members.entries c.queue.new.self.members.entries accepted c.advance.new.server c.queue.ensures.at c.queue.ensures.others)

pub returns-then-is_err-clause-keeps : goal.returns-then-is_err-clause-keeps
returns-then-is_err-clause-keeps g c accepted =
    keeps_lost false g.S.Peer.spoke g.N.Sockets.ended g.N.Sockets.lost g.S.Peer.over c.args.self.now.members.entries c.advance.new.self.members.entries c.end.new.self.members.entries
    accepted c.args.server.now c.advance.new.server c.end.new.server c.in-Some.number
    (subst (λ t. MovesOnAt g.S.Peer.spoke g.S.Peer.over 16 (end_of t) c.in-Some.number c.args.server.now c.args.self.now.members.entries c.advance.new.server c.advance.new.self.members.entries) c.in-Held.is c.in-Some-advance.ensures.some)
    c.end.ensures.ends

pub returns-in-Ends-clause-keeps : goal.returns-in-Ends-clause-keeps
returns-in-Ends-clause-keeps g c accepted =
    keeps_left false g.S.Peer.spoke g.N.Sockets.ended g.N.Sockets.lost g.S.Peer.over c.in-Ends.end c.args.self.now.members.entries c.advance.new.self.members.entries c.end-in-Ends.new.self.members.entries
    accepted c.args.server.now c.advance.new.server c.end-in-Ends.new.server c.in-Some.number
    (subst (λ t. MovesOnAt g.S.Peer.spoke g.S.Peer.over 16 (end_of t) c.in-Some.number c.args.server.now c.args.self.now.members.entries c.advance.new.server c.advance.new.self.members.entries) c.in-Ends.is c.in-Some-advance.ensures.some)
    c.end-in-Ends.ensures.ends

pub returns-in-Again-clause-places : goal.returns-in-Again-clause-places
returns-in-Again-clause-places g c all accepted =
    placed_further
    (placed_moved _ g.S.Peer.spoke g.S.Peer.over c.in-Some.number c.args.server.now c.advance.new.server c.args.sockets.now c.args.self.now.members.entries c.advance.new.self.members.entries accepted c.in-Some-advance.ensures.some)
    (placed_queued g.S.Peer.spoke c.in-Some.number c.args.sockets.now c.advance.new.self.members.entries c.queue.new.self.members.entries accepted c.queue.ensures.at c.queue.ensures.others c.queue.ensures.many)

pub returns-then-is_err-clause-places : goal.returns-then-is_err-clause-places
returns-then-is_err-clause-places g c all accepted =
    placed_further
    (placed_moved _ g.S.Peer.spoke g.S.Peer.over c.in-Some.number c.args.server.now c.advance.new.server c.args.sockets.now c.args.self.now.members.entries c.advance.new.self.members.entries accepted c.in-Some-advance.ensures.some)
    (c.end.ensures.places all accepted)

pub returns-in-Ends-clause-places : goal.returns-in-Ends-clause-places
returns-in-Ends-clause-places g c all accepted =
    placed_further
    (placed_moved _ g.S.Peer.spoke g.S.Peer.over c.in-Some.number c.args.server.now c.advance.new.server c.args.sockets.now c.args.self.now.members.entries c.advance.new.self.members.entries accepted c.in-Some-advance.ensures.some)
    (c.end-in-Ends.ensures.places all accepted)

pub returns-in-Again-clause-seen : goal.returns-in-Again-clause-seen
returns-in-Again-clause-seen g c =
    let t = c.args.self.now in
    let v = c.advance.new.self in
    let k = c.in-Some.number in
    let some = c.in-Some-advance.ensures in
    let first : c.args.self.now.ready.items ≡ c.in-Some.number ∷ c.pop_front.new.self.items = search rules in
    let turn = had_turn c.in-Some.number c.args.self.now c.advance.new.self some.some.after c.advance.ensures.rest first refl refl refl some.some.others some.some.at some.queued some.wake in
    seen_queued g.S.Peer.full g.S.Peer.dry k t v c.queue.new.self turn.keeps (kept_after k t v some.some.after (c.in-Some-advance.turn ≡ Held) turn some.held (λ e. let n : Again ≡ Held = sym c.in-Again.is ∙ e in cc))
    c.queue.ensures.at c.queue.ensures.others c.queue.ensures.list c.queue.ensures.short c.queue.ensures.rest

pub returns-in-Waits-clause-seen : goal.returns-in-Waits-clause-seen
returns-in-Waits-clause-seen g c =
    let v = c.advance.new.self in
    let k = c.in-Some.number in
    let some = c.in-Some-advance.ensures in
    let first : c.args.self.now.ready.items ≡ c.in-Some.number ∷ c.pop_front.new.self.items = search rules in
    let turn = had_turn c.in-Some.number c.args.self.now c.advance.new.self some.some.after c.advance.ensures.rest first refl refl refl some.some.others some.some.at some.queued some.wake in
    let awaits = some_of (member_at v.members.entries k) (c.in-Some-advance.turn ≡ Waits) c.in-Waits.is (AwaitsEvent g.S.Peer.full g.S.Peer.dry) some.waits in
    seen_awaiting g.S.Peer.full g.S.Peer.dry k c.args.self.now v some.some.after (c.in-Some-advance.turn ≡ Held) turn some.held (λ e. let n : Waits ≡ Held = sym c.in-Waits.is ∙ e in cc) awaits

pub returns-else-is_err-clause-seen : goal.returns-else-is_err-clause-seen
returns-else-is_err-clause-seen g c =
    let v = c.advance.new.self in
    let some = c.in-Some-advance.ensures in
    let first : c.args.self.now.ready.items ≡ c.in-Some.number ∷ c.pop_front.new.self.items = search rules in
    let turn = had_turn c.in-Some.number c.args.self.now c.advance.new.self some.some.after c.advance.ensures.rest first refl refl refl some.some.others some.some.at some.queued some.wake in
    seen_held g.S.Peer.full g.S.Peer.dry c.in-Some.number c.args.self.now v (record v { held = c.list.new.held }) some.some.before some.some.after c.in-Some-advance.was_held (c.in-Some-advance.turn ≡ Held) turn some.held c.in-Held.is some.some.held some.was refl (search rules)

pub returns-then-is_err-clause-seen : goal.returns-then-is_err-clause-seen
returns-then-is_err-clause-seen g c =
    let t = c.args.self.now in
    let v = c.advance.new.self in
    let k = c.in-Some.number in
    let some = c.in-Some-advance.ensures in
    let first : c.args.self.now.ready.items ≡ c.in-Some.number ∷ c.pop_front.new.self.items = search rules in
    let turn = had_turn c.in-Some.number c.args.self.now c.advance.new.self some.some.after c.advance.ensures.rest first refl refl refl some.some.others some.some.at some.queued some.wake in
    let w = record v { held = c.list.new.held } in
    let u = c.end.new.self in
    let ends = c.end.ensures.ends in
    let why = Err Memory in
    seen_gone g.S.Peer.full g.S.Peer.dry k t u
    (keeps_on (λ j. j ≡ k → ⊥) t w u (keeps_on (λ j. j ≡ k → ⊥) t v w turn.keeps (list_keeps k v w (search rules) refl))
    (ended_keeps k w u (others_stay g.S.Peer.spoke g.S.Peer.over g.N.Sockets.ended g.N.Sockets.lost k why c.advance.new.server c.end.new.server w.members.entries u.members.entries ends) c.end.ensures.rest))
    (none_stays g.S.Peer.spoke g.S.Peer.over g.N.Sockets.ended g.N.Sockets.lost k why c.advance.new.server c.end.new.server w.members.entries u.members.entries ends)

pub returns-in-Ends-clause-seen : goal.returns-in-Ends-clause-seen
returns-in-Ends-clause-seen g c =
    let t = c.args.self.now in
    let v = c.advance.new.self in
    let k = c.in-Some.number in
    let some = c.in-Some-advance.ensures in
    let first : c.args.self.now.ready.items ≡ c.in-Some.number ∷ c.pop_front.new.self.items = search rules in
    let turn = had_turn c.in-Some.number c.args.self.now c.advance.new.self some.some.after c.advance.ensures.rest first refl refl refl some.some.others some.some.at some.queued some.wake in
    let u = c.end-in-Ends.new.self in
    let ends = c.end-in-Ends.ensures.ends in
    seen_gone g.S.Peer.full g.S.Peer.dry k t u
    (keeps_on (λ j. j ≡ k → ⊥) t v u turn.keeps
    (ended_keeps k v u (others_stay g.S.Peer.spoke g.S.Peer.over g.N.Sockets.ended g.N.Sockets.lost k c.in-Ends.end c.advance.new.server c.end-in-Ends.new.server v.members.entries u.members.entries ends) c.end-in-Ends.ensures.rest))
    (none_stays g.S.Peer.spoke g.S.Peer.over g.N.Sockets.ended g.N.Sockets.lost k c.in-Ends.end c.advance.new.server c.end-in-Ends.new.server v.members.entries u.members.entries ends)

pub returns-in_default-advance-clause-seen : goal.returns-in_default-advance-clause-seen
returns-in_default-advance-clause-seen g c =
    let t = c.args.self.now in
    let u = c.advance.new.self in
    let k = c.in-Some.number in
    let same = c.advance.ensures.members c.in_default-advance.is in
    let still = c.advance.ensures.still c.in_default-advance.is in
    let first : t.ready.items ≡ k ∷ c.pop_front.new.self.items = search rules in
    seen_gone g.S.Peer.full g.S.Peer.dry k t u (first_keeps k t u (λ j n. same.0 j) c.advance.ensures.rest first refl refl refl (omega (arith, still)))
    (same.0 k ∙ c.advance.ensures.none c.in_default-advance.is)

pub returns-in-Again-clause-turns : goal.returns-in-Again-clause-turns
returns-in-Again-clause-turns g c =
    let first : c.args.self.now.ready.items ≡ c.in-Some.number ∷ c.pop_front.new.self.items = search rules in
    is_behind g.S.Peer.tried c.args.now c.in-Some.number c.args.self.now c.advance.new.self c.queue.new.self first c.advance.ensures.rest
    (c.in-Some-advance.ensures.ahead c.in-Again.is) c.in-Some-advance.ensures.queued c.queue.ensures.at c.queue.ensures.list

pub returns-in-Waits-clause-turns : goal.returns-in-Waits-clause-turns
returns-in-Waits-clause-turns g c =
    is_out g.S.Peer.tried c.args.now c.in-Some.number c.pop_front.new.self.items c.args.self.now c.advance.new.self (search rules) (ap (λ (z : Together g.row.S.Denot). z.ready.items) c.advance.ensures.rest)

pub returns-else-is_err-clause-turns : goal.returns-else-is_err-clause-turns
returns-else-is_err-clause-turns g c =
    is_out g.S.Peer.tried c.args.now c.in-Some.number c.pop_front.new.self.items c.args.self.now (record c.advance.new.self { held = c.list.new.held }) (search rules) (ap (λ (z : Together g.row.S.Denot). z.ready.items) c.advance.ensures.rest)

pub returns-then-is_err-clause-turns : goal.returns-then-is_err-clause-turns
returns-then-is_err-clause-turns g c =
    is_out g.S.Peer.tried c.args.now c.in-Some.number c.pop_front.new.self.items c.args.self.now c.end.new.self (search rules)
    (ap (λ (z : Together g.row.S.Denot). z.ready.items) c.end.ensures.rest ∙ ap (λ (z : Together g.row.S.Denot). z.ready.items) c.advance.ensures.rest)

pub returns-in-Ends-clause-turns : goal.returns-in-Ends-clause-turns
returns-in-Ends-clause-turns g c =
    is_out g.S.Peer.tried c.args.now c.in-Some.number c.pop_front.new.self.items c.args.self.now c.end-in-Ends.new.self (search rules)
    (ap (λ (z : Together g.row.S.Denot). z.ready.items) c.end-in-Ends.ensures.rest ∙ ap (λ (z : Together g.row.S.Denot). z.ready.items) c.advance.ensures.rest)

pub returns-in_default-advance-clause-turns : goal.returns-in_default-advance-clause-turns
returns-in_default-advance-clause-turns g c =
    is_out g.S.Peer.tried c.args.now c.in-Some.number c.pop_front.new.self.items c.args.self.now c.advance.new.self (search rules) (ap (λ (z : Together g.row.S.Denot). z.ready.items) c.advance.ensures.rest)
