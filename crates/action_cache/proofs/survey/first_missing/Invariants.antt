use Rattle.std.proofs.Common.{◌≡◌, drop, not}
use Rattle.std.specs.List.{find}
use Rattle.blob_store.specs.Blobs.{found_in}
use Rattle.action_cache.specs.References.{is_held}
use Rattle.action_cache.proofs.survey.first_missing.Given as goal

abbrev pub invariant-loop-digest : goal.invariant-loop-digest
invariant-loop-digest g l = find (λ d. not (is_held (found_in l.fn.blobs.entries) d)) (drop l.digest-index l.digests) ≡ find (λ d. not (is_held (found_in l.fn.blobs.entries) d)) l.digests
