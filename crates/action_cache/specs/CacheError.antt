-- The refusal of the machine that an error tells of.
use Rattle.std.specs.Prelude.{◌≡◌, ◌⊎◌, ℕ, List, Option, Some, None, IfSome}
use Rattle.eviction.specs.declared.error.BoundedError.{BoundedError}
use Rattle.eviction.specs.declared.error.BoundedError.TheVariants as bounded
use Rattle.blob_store.specs.declared.error.BlobError.{BlobError}
use Rattle.blob_store.specs.declared.error.BlobError.TheVariants as blob
use Rattle.action_cache.specs.declared.error.CacheError.{CacheError}
use Rattle.action_cache.specs.declared.error.CacheError.TheVariants as cache
use Rattle.messages.specs.declared.error.MessageError.{MessageError}
use Rattle.messages.specs.declared.error.MessageError.TheVariants as message
use Rattle.action_messages.specs.Refused.{IsRefusedResult as IsRefusedAs}
use Rattle.action_cache.specs.Reading.{references_in}
use Rattle.action_cache.specs.Machine.{CacheState, Answer, refused, Refusal, too_large}
use Rattle.action_cache.specs.Machine.{hash_differs, full, not_held, not_pinned, bad_result}
use Rattle.action_cache.specs.Machine.{pinned_differs, incomplete}

-- how a refusal of the layers below is told
abbrev pub of_message : MessageError → CacheError
of_message message.Memory = cache.Memory
of_message e = cache.BadResult e

-- how a refusal by the blobs is told
abbrev pub of_blob : BlobError → CacheError
of_blob blob.HashDiffers = cache.HashDiffers
of_blob blob.TooLarge = cache.TooLarge
of_blob blob.Full = cache.Full
of_blob blob.NotHeld = cache.NotHeld
of_blob blob.NotPinned = cache.NotPinned
of_blob blob.Memory = cache.Memory

-- how a refusal by the results is told
abbrev pub of_bounded : BoundedError → CacheError
of_bounded bounded.Full = cache.Full
of_bounded bounded.NotHeld = cache.NotHeld
of_bounded bounded.NotPinned = cache.NotPinned
of_bounded bounded.Memory = cache.Memory

-- the refusal that an error tells of; lack of memory is none of the machine's
abbrev pub refusal_of : CacheError → Option Refusal
refusal_of cache.HashDiffers = Some hash_differs
refusal_of cache.TooLarge = Some too_large
refusal_of cache.Full = Some full
refusal_of cache.NotHeld = Some not_held
refusal_of cache.NotPinned = Some not_pinned
refusal_of (cache.BadResult e) = Some bad_result
refusal_of cache.PinnedDiffers = Some pinned_differs
refusal_of (cache.Incomplete d) = Some (incomplete d)
refusal_of cache.Memory = None

-- the machine refuses just so, and stays as it is; or memory was wanting
abbrev pub IsRefused : CacheState → Answer × CacheState → CacheError → Type 0
IsRefused s out e = IfSome (refusal_of e) (λ r. out ≡ (refused r, s))

-- the bytes are refused as no result, and why; or memory was wanting
abbrev pub IsNoResult : CacheError → List ℕ → Type 0
IsNoResult e bytes = (e ≡ cache.Memory)
    ⊎ ((d : MessageError) × (e ≡ cache.BadResult d) × IsRefusedAs d bytes
    × (references_in bytes ≡ None))
