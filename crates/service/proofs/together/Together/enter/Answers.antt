use Rattle.std.proofs.Common.{◌≡◌, ◌≤◌, Some, true, false, refl, rules, arith}
use Rattle.std.specs.Option.{unwrap_or}
use Rattle.service.specs.Member.{deadline_at, new_member}
use Rattle.service.specs.Together.{AreSame, OthersAreSame, member_at}
use Rattle.service.proofs.Seeing.{enter_keeps, kept_idle, seen_members, seen_queued}
use Rattle.service.proofs.together.Together.enter.Goals as goal

pub returns-in-Err-clause-seen : goal.returns-in-Err-clause-seen
returns-in-Err-clause-seen g c =
    let same : AreSame c.args.self.now.members.entries c.insert.new.self.entries = search rules in
    seen_members g.S.Peer.full g.S.Peer.dry c.args.self.now (record c.args.self.now { members = c.insert.new.self }) same.0 refl

pub returns-clause-seen : goal.returns-clause-seen
returns-clause-seen g c =
    let k = c.args.number in
    let t = c.args.self.now in
    let v = record t { members = c.insert.new.self; wake = c.min-self.result } in
    let new = new_member c.args.stream c.args.now in
    let others : OthersAreSame k t.members.entries c.insert.new.self.entries = λ j n. search rules in
    let at : member_at c.insert.new.self.entries k ≡ Some new = search rules in
    let due : c.unwrap_or.result ≡ unwrap_or (deadline_at new t.idle) 18446744073709551615 = search rules in
    let least = c.min-self.ensures in
    let wakes : c.min-self.result ≤ unwrap_or (deadline_at new t.idle) 18446744073709551615 = omega (arith, due, least) in
    seen_queued g.S.Peer.full g.S.Peer.dry k t v c.queue.new.self (enter_keeps k t v others refl (omega (arith, least))) (kept_idle k v new at refl (λ h. let c : false ≡ true = h in absurd cc) wakes)
    c.queue.ensures.at c.queue.ensures.others c.queue.ensures.list c.queue.ensures.short c.queue.ensures.rest
