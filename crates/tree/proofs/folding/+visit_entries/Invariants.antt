use Rattle.std.proofs.Common.{◌≤◌, ◌-◌, length, drop}
use Rattle.tree.specs.Visiting.{line_entries, children_directory, tops_in}
use Rattle.tree.proofs.FoldSteps.{Lists}
use Rattle.tree.proofs.folding.+visit_entries.Given as goal

abbrev pub decreases-visit_entries : goal.decreases-visit_entries
decreases-visit_entries g l = length l.entries.now

abbrev pub invariant-loop-start : goal.invariant-loop-start
invariant-loop-start g l = record {
  within : l.start ≤ length l.entries;
  lists : Lists (children_directory l.children) (tops_in l.children) (drop l.start (line_entries l.entries)) (line_entries l.entries);
}

abbrev pub decreases-loop-start : goal.decreases-loop-start
decreases-loop-start g l = length l.entries - l.start
