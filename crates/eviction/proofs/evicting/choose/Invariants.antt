use Rattle.std.proofs.Common.{◌≡◌, ◌++◌, reverse}
use Rattle.eviction.specs.Victims.{victims}
use Rattle.eviction.specs.View.{held_all}
use Rattle.eviction.proofs.evicting.choose.Given as goal

abbrev pub invariant-loop-candidate : goal.invariant-loop-candidate
invariant-loop-candidate g l = record {
  can : (goal.iterator-loop-candidate g).can_next l.candidate-iterator;
  ends : (goal.iterator-loop-candidate g).is_finite l.candidate-iterator;
  rest : l.chosen.items ++ victims g.K.PartialEq.eq l.key l.overhead l.excess (held_all (reverse l.candidate-iterator.iter)) ≡ victims g.K.PartialEq.eq l.key l.overhead l.fn.excess (held_all (reverse l.cache.entries));
}
