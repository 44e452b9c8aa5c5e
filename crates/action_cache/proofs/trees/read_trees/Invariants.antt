use Rattle.std.proofs.Common.{◌≡◌, true, take}
use Rattle.std.specs.List.{AllByRecursion}
use Rattle.blob_store.specs.Blobs.{found_in}
use Rattle.action_cache.specs.Survey.{AreRight, is_read}
use Rattle.action_cache.proofs.trees.read_trees.Given as goal

abbrev pub invariant-loop-output : goal.invariant-loop-output
invariant-loop-output g l = AreRight l.trees (found_in l.fn.blobs.entries) × AllByRecursion (λ r. r.is_tree ≡ true → is_read l.trees r.digest ≡ true) (take l.output-index l.outputs)
