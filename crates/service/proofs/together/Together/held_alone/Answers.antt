use Rattle.std.proofs.Common.{rules}
use Rattle.service.proofs.Waking.{alone_first, alone_last, alone_more}
use Rattle.service.proofs.together.Together.held_alone.Goals as goal

pub loop-member-init : goal.loop-member-init
loop-member-init g c = alone_first c.args.self.now.members.entries c.into_iter-member-iterator.result (search rules)

pub loop-member-preserved : goal.loop-member-preserved
loop-member-preserved g c =
    alone_more c.args.self.now.members.entries c.loop-member.member-iterator c.next.new.self (c.in-Some.field-0-0.now, c.in-Some.member.now)
    c.loop-member.sum c.saturating_add-sum.result c.held_alone.result (search rules) c.held_alone.ensures c.saturating_add-sum.ensures c.loop-member.invariant

pub returns : goal.returns
returns g c = alone_last c.args.self.now.members.entries c.loop-member.member-iterator c.loop-member.sum (search rules) c.loop-member.invariant
