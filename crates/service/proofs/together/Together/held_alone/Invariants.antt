use Rattle.service.proofs.Waking.{HoldSo}
use Rattle.service.proofs.together.Together.held_alone.Given as goal

abbrev pub invariant-loop-member : goal.invariant-loop-member
invariant-loop-member g l = HoldSo l.self.members.entries l.member-iterator l.sum
