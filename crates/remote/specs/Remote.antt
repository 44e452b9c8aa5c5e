-- What a remote tells, and how it asks its server.
use Rattle.std.specs.Prelude.{◌≡◌, List, [], ℕ, false, Option, None, Result, Ok, IfOk, IfErr}
use Rattle.std.specs.Prelude.{IsErrOf, OnErr, OnOk}
use Rattle.std.specs.declared.vec.Vec.{Vec}
use Rattle.blob_digest.specs.Digest.{DigestValue, digest_of}
use Rattle.http_core.specs.declared.event.Area.{Area}
use Rattle.http_core.specs.declared.event.Area.TheVariants.{Cas}
use Rattle.blob_source.specs.Called.{Calls}
use Rattle.blob_source.specs.Source.{CountsCall, Telling, bytes_of}
use Rattle.blob_source.specs.declared.source.FetchError.{FetchError}
use Rattle.blob_source.specs.declared.source.FetchError.TheVariants.{Failed}
use Rattle.remote.specs.declared.remote.Remote.{Remote}
use Rattle.remote.specs.declared.table.Table.{Table}
use Rattle.remote.specs.Flow.{Flow}
use Rattle.remote.specs.Line.{ConnectionValue, ExplainsMemory, Gets, Puts, RefusesRequest, get}
use Rattle.remote.specs.Line.{line_value, put}
use Rattle.remote.specs.Table.{HasAnswer, IsSameBut, KeepsAnswers, told_by}

-- what a remote source kept, how often it failed and was called, and the list of results put
abbrev pub telling_of : {S A : Type 0} → Remote S A → Telling
telling_of r = record {
  blobs = told_by r.blobs;
  results = told_by r.results;
  failures = r.line.failures;
  calls = r.calls;
  puts = r.puts.items;
}

-- the connection of a remote source
abbrev pub connection_of : {S A : Type 0} → (S → Flow) → Remote S A → ConnectionValue
connection_of flow r = line_value flow r.line

-- the blobs and the results that it keeps
abbrev pub blobs_of : {S A : Type 0} → Remote S A → Table A
blobs_of r = r.blobs

abbrev pub results_of : {S A : Type 0} → Remote S A → Table A
results_of r = r.results

-- nothing was asked so far
pub record IsFreshRemote {S A : Type 0}
    (flow : S → Flow) (stream : S) (host prefix : List ℕ) (r : Remote S A) : Type 0 where
  pub stream_is : (connection_of flow r).flow ≡ flow stream
  pub host_is : (connection_of flow r).host ≡ host
  pub prefix_is : (connection_of flow r).prefix ≡ prefix
  pub unbroken : (connection_of flow r).broken ≡ false
  pub unshut : (connection_of flow r).shut ≡ false
  pub failures : (connection_of flow r).failures ≡ 0
  pub fault : (connection_of flow r).fault ≡ None
  pub blobs : (d : DigestValue) → HasAnswer (blobs_of r) d → ⊥
  pub results : (d : DigestValue) → HasAnswer (results_of r) d → ⊥
  pub calls : (telling_of r).calls ≡ 0
  pub puts : (telling_of r).puts ≡ []

-- A call that asked for what stands under the digest in the area. What is kept isn't asked again
-- and is no failure, also where memory is wanting, and that nothing is there needs none; what isn't
-- kept is the server's answer, and that alone is kept.
pub record LooksUp {A : Type 0}
    (area : Area) (d : DigestValue) (old new : ConnectionValue) (before after : Table A)
    (result : Result (Option (Vec ℕ A)) FetchError) : Type 0 where
  pub silent : HasAnswer before d → new.flow ≡ old.flow
  pub kept : HasAnswer before d → IfOk result (λ answer. new ≡ old)
  pub unfailed : HasAnswer before d → IsErrOf result Failed → ⊥
  pub absent : HasAnswer before d → told_by before d ≡ None → result ≡ Ok None
  pub same : HasAnswer before d → KeepsAnswers before after
  pub answered : (HasAnswer before d → ⊥)
      → IfOk result (λ answer. Gets old new area d.hash (bytes_of answer))
  pub refused : IfErr result (RefusesRequest old new (get area d.hash))
  pub starved : (HasAnswer before d → ⊥)
      → IfErr result (ExplainsMemory old new (get area d.hash))
  pub held : IfOk result (λ answer. HasAnswer after d)
  pub unheld : OnErr result (KeepsAnswers before after)
  pub others : IsSameBut d before after

-- A call that put the bytes under the digest in the area, and kept that.
pub record Stores {A T : Type 0}
    (area : Area) (d : DigestValue) (bytes : List ℕ) (old new : ConnectionValue)
    (before after : Table A) (result : Result T FetchError) : Type 0 where
  pub taken : OnOk result (Puts old new area d.hash bytes)
  pub refused : IfErr result (RefusesRequest old new (put area d.hash bytes))
  pub starved : IfErr result (ExplainsMemory old new (put area d.hash bytes))
  pub held : OnOk result (HasAnswer after d)
  pub unheld : OnErr result (KeepsAnswers before after)
  pub others : IsSameBut d before after

-- A call that put the blob under its digest, and kept nothing of that.
pub record SendsBlob {S A T : Type 0}
    (flow : S → Flow) (bytes : List ℕ) (old new : Remote S A) (result : Result T FetchError)
    : Type 0 where
  pub taken : OnOk result (Puts (connection_of flow old) (connection_of flow new) Cas
      (digest_of bytes).hash bytes)
  pub refused : IfErr result (RefusesRequest (connection_of flow old) (connection_of flow new)
      (put Cas (digest_of bytes).hash bytes))
  pub starved : IfErr result (ExplainsMemory (connection_of flow old) (connection_of flow new)
      (put Cas (digest_of bytes).hash bytes))
  pub blobs : blobs_of new ≡ blobs_of old
  pub results : results_of new ≡ results_of old
  pub puts : (telling_of new).puts ≡ (telling_of old).puts
  pub called : Calls CountsCall (telling_of old) (telling_of new) (IsErrOf result Failed)
