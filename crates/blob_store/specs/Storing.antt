-- How a blob is put.
use Rattle.std.specs.Prelude.{◌≡◌, ℕ, not, nat_lt, List, [], length, bytes_eq, Option, Some}
use Rattle.std.specs.Prelude.{None, is_none, if◌then◌else◌}
use Rattle.sha2.specs.Sha256.{sha256}
use Rattle.blob_digest.specs.Body.{greatest_blob}
use Rattle.eviction.specs.Kept.{Kept, touched}
use Rattle.eviction.specs.Entering.{entered}
use Rattle.eviction.specs.Pinning.{is_stored}
use Rattle.blob_store.specs.declared.error.BlobError.{BlobError}
use Rattle.blob_store.specs.declared.error.BlobError.TheVariants.{TooLarge, HashDiffers, Full}
use Rattle.blob_store.specs.declared.error.BlobError.TheVariants.{Memory}

-- The store after a blob was used: it is first. The empty blob stands nowhere, and moves nothing.
abbrev pub used : Kept (List ℕ) → List ℕ → Kept (List ℕ)
used s h = if bytes_eq (sha256 []) h then s else touched bytes_eq s h

-- The store after a put of a blob under its hash, if there is room. The empty blob is never
-- stored; what is stored stays and moves to the front.
abbrev pub blob_put : Kept (List ℕ) → List ℕ → List ℕ → Option (Kept (List ℕ))
blob_put s h b =
    if bytes_eq (sha256 []) h then Some s
    else (if is_stored bytes_eq s.entries h then Some (touched bytes_eq s h)
    else entered bytes_eq s h b)

-- why a put is refused, if it is
abbrev pub refused_put : Kept (List ℕ) → List ℕ → List ℕ → Option BlobError
refused_put s h b =
    if nat_lt greatest_blob (length b) then Some TooLarge
    else (if not (bytes_eq (sha256 b) h) then Some HashDiffers
    else (if is_none (blob_put s h b) then Some Full else None))

-- the refusal that must come; where none must, lack of memory alone may
abbrev pub IsRefusal : Option BlobError → BlobError → Type 0
IsRefusal None e = e ≡ Memory
IsRefusal (Some f) e = e ≡ f
