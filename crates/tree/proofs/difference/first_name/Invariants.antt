use Rattle.tree.specs.Unfolding.{child_values}
use Rattle.tree.proofs.FirstNames.{SideBySide}
use Rattle.tree.proofs.difference.first_name.Given as goal

abbrev pub invariant-loop-name : goal.invariant-loop-name
invariant-loop-name g l = record {
  next : (goal.iterator-loop-name g).can_next l.name-iterator;
  finite : (goal.iterator-loop-name g).is_finite l.name-iterator;
  side : SideBySide l.grafted l.recorded (child_values l.name-iterator) (child_values l.others);
}
