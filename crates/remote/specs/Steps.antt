-- What the steps that make up a call do.
use Rattle.std.specs.Prelude.{◌≡◌, ℕ, ◌+◌, ◌<◌, ◌≤◌, ◌⊎◌, List, [], ◌++◌, length, true, false}
use Rattle.std.specs.Prelude.{Option, Some}
use Rattle.blob_digest.specs.Digest.{DigestValue}
use Rattle.http_core.specs.Block.{EndsBlock}
use Rattle.blob_source.specs.Source.{greatest_count}
use Rattle.blob_source.specs.declared.source.FetchError.{FetchError}
use Rattle.blob_source.specs.declared.source.FetchError.TheVariants.{Failed, Memory}
use Rattle.remote.specs.declared.fault.Fault.{Fault}
use Rattle.remote.specs.declared.fault.Fault.TheVariants.{Io, BadReply, Status, Broken}
use Rattle.remote.specs.declared.fault.Refusal.{Refusal}
use Rattle.remote.specs.declared.fault.Refusal.TheVariants as refusals
use Rattle.remote.specs.declared.table.Table.{Table}
use Rattle.remote.specs.Flow.{Flow, MayHaveStopped, SendsFront, SendsPart, Receives, ReceivesSome}
use Rattle.remote.specs.Line.{ConnectionValue, IsNextStream, IsSameServer, IsUncounted, IsUnopened}
use Rattle.remote.specs.Line.{MayStayShut}
use Rattle.remote.specs.Reply.{RoundTripForNone, RoundTripForSome, RoundTripInPart, NextIsNoReply}
use Rattle.remote.specs.Reply.{NextInPart}
use Rattle.remote.specs.Table.{HasAnswer, IsSameBut, KeepsAnswers, told_by}

-- ---- bytes

-- The bytes end a block with this many more, and with no fewer.
pub record WantsMore (bytes : List ℕ) (count : ℕ) : Type 0 where
  pub fewest : (more : List ℕ) → EndsBlock (bytes ++ more) → count ≤ length more
  pub more : List ℕ
  pub ends : EndsBlock (bytes ++ more)
  pub many : length more ≡ count

-- some bytes came, at most this many, and stand after the others
pub record Adds (old new : Flow) (most : ℕ) (before after : List ℕ) : Type 0 where
  pub bytes : List ℕ
  pub some : 0 < length bytes
  pub few : length bytes ≤ most
  pub read : Receives old new bytes
  pub is : after ≡ before ++ bytes

-- ---- requests without a reply

-- the stream failed, and nothing came, or memory was wanting for what came
pub record Interrupts (old new : Flow) (e : Refusal) : Type 0 where
  pub other : e ≡ refusals.BadReply → ⊥
  pub none : e ≡ refusals.Io → Receives old new []
  pub stopped : e ≡ refusals.Io → MayHaveStopped new
  pub some : e ≡ refusals.Memory → ReceivesSome old new
  pub sent : new.sent ≡ old.sent

-- fewer bytes came than these many, and nothing was sent
abbrev pub ReceivesFewer : Flow → Flow → ℕ → Type 0
ReceivesFewer old new size =
    (bytes : List ℕ) × (length bytes < size) × Receives old new bytes

-- the stream failed before this many bytes had come, or memory was wanting for what came
pub record InterruptsBody (old new : Flow) (size : ℕ) (e : Refusal) : Type 0 where
  pub other : e ≡ refusals.BadReply → ⊥
  pub part : e ≡ refusals.Io → ReceivesFewer old new size
  pub stopped : e ≡ refusals.Io → MayHaveStopped new
  pub some : e ≡ refusals.Memory → ReceivesSome old new
  pub sent : new.sent ≡ old.sent

-- no reply was read
pub record ReadsNone (old new : Flow) (e : Refusal) : Type 0 where
  pub bad : e ≡ refusals.BadReply → NextIsNoReply old new
  pub part : e ≡ refusals.Io → NextInPart old new
  pub some : e ≡ refusals.Memory → ReceivesSome old new
  pub sent : new.sent ≡ old.sent

-- no reply came to the request
pub record ComesNone (old new : Flow) (request : List ℕ) (e : Refusal) : Type 0 where
  pub bad : e ≡ refusals.BadReply → RoundTripForNone old new request
  pub part : e ≡ refusals.Io → SendsPart old new request ⊎ RoundTripInPart old new request
  pub some : e ≡ refusals.Memory → RoundTripForSome old new request
  pub sent : SendsFront old new request

-- the stream took a front of the bytes, but not all, and then failed
pub record SendsNoMore (old new : Flow) (bytes : List ℕ) (e : Refusal) : Type 0 where
  pub is : e ≡ refusals.Io
  pub part : SendsPart old new bytes

-- ---- the connection

-- the stream is that for the next request, and all else is as it was
pub record Opens (old new : ConnectionValue) : Type 0 where
  pub next : IsNextStream old new.flow
  pub others : new ≡ record old { flow = new.flow; shut = false }

-- Why the stream isn't open for the next request: a reply closed it and it can't be opened anew, or
-- that failed.
abbrev pub CantOpen : ConnectionValue → ConnectionValue → Fault → Type 0
CantOpen old new Broken = MayStayShut old × (new ≡ old)
CantOpen old new Io = IsUnopened old new.flow × (new ≡ record old { flow = new.flow })
CantOpen old new BadReply = ⊥
CantOpen old new (Status status) = ⊥

-- the fault is counted and told, unless the count is full
pub record CountsFault (old new : ConnectionValue) (fault : Fault) (e : FetchError) : Type 0 where
  pub flow : new.flow ≡ old.flow
  pub broken : new.broken ≡ true
  pub failed : e ≡ Failed → (new.failures ≡ old.failures + 1) × (new.fault ≡ Some fault)
  pub unfailed : (e ≡ Failed → ⊥) → IsUncounted old new
  pub full : (e ≡ Failed → ⊥) → old.failures ≡ greatest_count
  pub bounded : new.failures ≤ greatest_count
  pub server : IsSameServer old new

-- memory is wanting, which is no failure
pub record Starves (old new : ConnectionValue) (e : FetchError) : Type 0 where
  pub is : e ≡ Memory
  pub flow : new.flow ≡ old.flow
  pub broken : new.broken ≡ true
  pub uncounted : IsUncounted old new
  pub bounded : new.failures ≤ greatest_count
  pub server : IsSameServer old new

-- ---- tables

-- the answer is kept under the digest, and under the others what was
pub record KeepsAnswer {A : Type 0}
    (old new : Table A) (d : DigestValue) (answer : Option (List ℕ)) : Type 0 where
  pub kept : HasAnswer new d
  pub held : told_by new d ≡ answer
  pub others : IsSameBut d old new

-- the bytes are kept, and the connection is as it was
pub record KeepsBytes {A : Type 0}
    (old new : Table A) (from to : ConnectionValue) (d : DigestValue) (bytes : List ℕ)
    : Type 0 where
  pub keeps : KeepsAnswer old new d (Some bytes)
  pub connection : to ≡ from

-- memory was wanting, and nothing more is kept
pub record KeepsNothing {A : Type 0}
    (old new : Table A) (from to : ConnectionValue) (e : FetchError) : Type 0 where
  pub keeps : KeepsAnswers old new
  pub starves : Starves from to e
