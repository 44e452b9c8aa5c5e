-- What the blobs cost, with and without counts.
use Rattle.std.proofs.Common.{◌≡◌, ℕ, ◌+◌, List, [], ◌∷◌, length, refl, add-zero}
use Rattle.eviction.specs.Kept.{Held, total, total_cost}
use Rattle.blob_store.specs.Blobs.{plain}

pub total-plain : (es : List (List ℕ × Held)) → total_cost 0 es ≡ total (λ (b : List ℕ × List ℕ). length b.1) (plain es)
total-plain [] = refl
total-plain (e ∷ es) = λ i. add-zero (length e.1.bytes) i + total-plain es i
