-- Lists of one digest.
use Rattle.std.proofs.Common.{ℕ, ◌+◌, ◌<◌, ◌^◌, true, false, cond, not, List, [], ◌∷◌, map, bytes_eq, subst}
use Rattle.std.specs.List.{IsDistinct}
use Rattle.std.proofs.lemmas.Slice.Eq.{bytes_eq-Decides}
use Rattle.blob_digest.specs.DigestValue.{DigestValue}
use Rattle.eviction.specs.Kept.{Held}
use Rattle.eviction.specs.Pinning.{CanPinMore, pins_of}
use Rattle.eviction.proofs.Single.{one_distinct, among_one}
use Rattle.blob_store.specs.Blobs.{is_empty, hashes_of}

none_distinct : IsDistinct bytes_eq []
unfolding IsDistinct
none_distinct = tt

pub one_hash : (d : DigestValue) → IsDistinct bytes_eq (hashes_of (d ∷ []))
one_hash d = elim (is_empty d) as (λ b. IsDistinct bytes_eq (map (λ (x : DigestValue). x.hash) (cond (not b) (d ∷ []) []))) [ true ↦ none_distinct | false ↦ one_distinct bytes_eq d.hash ]

pub one_can_pin : (es : List (List ℕ × Held)) (d : DigestValue) → pins_of bytes_eq es d.hash + 1 < 2 ^ 64 → CanPinMore bytes_eq es (hashes_of (d ∷ []))
one_can_pin es d few = elim (is_empty d) as (λ b. CanPinMore bytes_eq es (map (λ (x : DigestValue). x.hash) (cond (not b) (d ∷ []) []))) [
  | true ↦ λ k a. absurd cc
  | false ↦ λ k a. subst (λ h. pins_of bytes_eq es h + 1 < 2 ^ 64) ((bytes_eq-Decides d.hash k).0 (among_one bytes_eq d.hash k a)) few
]
