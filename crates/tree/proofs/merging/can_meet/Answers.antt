use Rattle.std.proofs.Common.{rules, false, subst}
use Rattle.std.specs.Prelude.{IsTrue}
use Rattle.tree.proofs.MergeLoops.{meets_all, meets_not}
use Rattle.tree.proofs.merging.can_meet.Goals as goal

pub returns-then-not-can_meet_at : goal.returns-then-not-can_meet_at
returns-then-not-can_meet_at g c = λ W. (
  (λ h. absurd (search (rules, h))),
  λ h. absurd (meets_not W c.args.deeper c.args.parts.now c.loop-part.part-index c.part-item.result c.loop-part-test.true c.part-item.is
      (λ here. let is : IsTrue c.can_meet_at.result = (c.can_meet_at.ensures W).1 here in let none : IsTrue false = subst IsTrue c.if-not-can_meet_at.true is in search (rules, none)) h),
)

pub returns : goal.returns
returns g c = λ W. ((λ h. meets_all W c.args.deeper c.args.parts.now c.loop-part.part-index c.if-deeper-eq0.false c.loop-part-test.false (c.loop-part.invariant W)), (λ h. search rules))
