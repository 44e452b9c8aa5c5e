-- A blob was taken where its put was answered.
use Rattle.std.proofs.Common.{ℕ, List, Result, Ok, Err, OnOk}
use Rattle.std.proofs.Math.Logic.{∥∥₁_map}
use Rattle.blob_digest.specs.Digest.{digest_of}
use Rattle.blob_source.specs.declared.source.FetchError.{FetchError}
use Rattle.http_core.specs.declared.event.Area.TheVariants.{Cas}
use Rattle.remote.specs.Line.{ConnectionValue, Puts}
use Rattle.commands.specs.Places.{Access, Comes, TakesBlob}

pub taken_by_put : {T : Type 0} (access : Access) (start old new : ConnectionValue) (bytes : List ℕ) (result : Result T FetchError)
    → OnOk result (Puts old new Cas (digest_of bytes).hash bytes) → ∥ Comes access start old ∥₁ → OnOk result (∥ TakesBlob access start bytes ∥₁)
taken_by_put access start old new bytes (Ok x) takes came = ∥∥₁_map came (λ comes. record { old = old; new = new; before = comes; is = takes })
taken_by_put access start old new bytes (Err e) takes came = tt
