use Rattle.std.specs.Prelude.{IsTrue, false, min}
use Rattle.std.proofs.Common.{◌≡◌, ◌<◌, ◌≤◌, ◌⊎◌}
use Rattle.service.specs.Together.{AreHeavyInTime, first_deadline}
use Rattle.service.proofs.together.Together.next_wake.Given as goal

abbrev pub invariant-loop-number : goal.invariant-loop-number
invariant-loop-number g l = record {
  fits : l.wake ≤ 18446744073709551615;
  later : (l.fn.now < l.wake) ⊎ (l.wake ≡ 18446744073709551615);
  sooner : min l.wake (first_deadline l.self.idle l.number-iterator) ≤ first_deadline l.self.idle l.self.members.entries;
  heavy : IsTrue l.fn.pressed → AreHeavyInTime l.self.idle l.fn.now l.number-iterator → AreHeavyInTime l.self.idle l.fn.now l.self.members.entries;
  calm : l.fn.pressed ≡ false → min l.wake (first_deadline l.self.idle l.number-iterator) ≡ first_deadline l.self.idle l.self.members.entries;
}
