-- The status with which each refusal is told (RFC 9110, section 15.5; RFC 4918, section 11.5).
use Rattle.std.specs.Prelude.{◌≡◌, ℕ, Some, Result, Ok, Err, option_map}
use Rattle.action_cache.specs.declared.error.CacheError.{CacheError}
use Rattle.action_cache.specs.declared.error.CacheError.TheVariants.{Memory}
use Rattle.action_cache.specs.CacheError.{refusal_of}
use Rattle.action_cache.specs.Machine.{Refusal, too_large, hash_differs, full, not_held, not_pinned}
use Rattle.action_cache.specs.Machine.{bad_result, pinned_differs, incomplete}

abbrev pub status_of : Refusal → ℕ
status_of too_large = 413
status_of hash_differs = 400
status_of bad_result = 400
status_of pinned_differs = 409
status_of full = 507
status_of not_held = 404
status_of not_pinned = 404
status_of (incomplete digest) = 404

module _ {T : Type 0} where
  -- the status tells of the change: it was made, or why it was refused
  abbrev pub IsStatusOf : Result T CacheError → ℕ → Type 0
  IsStatusOf (Ok x) status = status ≡ 200
  IsStatusOf (Err e) status = option_map status_of (refusal_of e) ≡ Some status

  -- the change wanted memory
  abbrev pub WantsMemory : Result T CacheError → Type 0
  WantsMemory (Ok x) = ⊥
  WantsMemory (Err e) = e ≡ Memory
