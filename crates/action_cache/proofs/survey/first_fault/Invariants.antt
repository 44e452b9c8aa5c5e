use Rattle.std.proofs.Common.{◌≡◌, drop}
use Rattle.blob_store.specs.Blobs.{found_in}
use Rattle.action_cache.specs.References.{first_fault_by}
use Rattle.action_cache.specs.Survey.{known}
use Rattle.action_cache.proofs.survey.first_fault.Given as goal

abbrev pub invariant-loop-output : goal.invariant-loop-output
invariant-loop-output g l = first_fault_by (found_in l.fn.blobs.entries) (known l.fn.trees) (drop l.output-index l.outputs) ≡ first_fault_by (found_in l.fn.blobs.entries) (known l.fn.trees) l.outputs
