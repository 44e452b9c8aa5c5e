use Rattle.std.proofs.Common.{◌≡◌, ◌++◌, drop}
use Rattle.action_cache.specs.References.{references_by}
use Rattle.action_cache.specs.Survey.{known}
use Rattle.action_cache.proofs.survey.list_references.Given as goal

abbrev pub invariant-loop-output : goal.invariant-loop-output
invariant-loop-output g l = l.digests.items ++ references_by (known l.fn.trees) (drop l.output-index l.outputs) ≡ references_by (known l.fn.trees) l.outputs
