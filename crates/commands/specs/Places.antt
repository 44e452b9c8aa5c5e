-- What a source over a place outside tells: a store folder, or a server.
use Rattle.std.specs.Prelude.{◌≡◌, ◌≢◌, ◌⊎◌, ◌≤◌, ◌<◌, ◌+◌, ℕ, false, List, [], ◌∷◌, ◌++◌, Option}
use Rattle.std.specs.Prelude.{IfSome, None, Some, codes, length, map, string_bytes}
use Rattle.std.specs.IoError.{error_kind}
use Rattle.std.specs.declared.alloc.Global.{Global}
use Rattle.std.specs.declared.io.ErrorKind.TheVariants.{OutOfMemory}
use Rattle.blob_digest.specs.Digest.{DigestValue, digest_of}
use Rattle.blob_source.specs.Source.{Blobs, Telling, greatest_count}
use Rattle.blob_source.specs.declared.source.FetchError.{FetchError}
use Rattle.blob_source.specs.declared.source.FetchError.TheVariants.{Failed}
use Rattle.http_core.specs.declared.event.Area.{Area}
use Rattle.http_core.specs.declared.event.Area.TheVariants.{Ac, Cas}
use Rattle.remote.specs.Flow.{unknown_flow}
use Rattle.remote.specs.Folder.{IsNotThere, IsNothingAt, entry_path}
use Rattle.remote.specs.Folder as folders
use Rattle.remote.specs.Line.{ConnectionValue, Gets, Puts, RefusesRequest, Request, get, put}
use Rattle.remote.specs.Remote.{blobs_of, results_of, telling_of}
use Rattle.remote.specs.Table.{HasAnswer, KeepsNone}
use Rattle.remote.specs.declared.fault.Fault.{Fault}
use Rattle.remote.specs.declared.files.FileError.{FileError}
use Rattle.remote.specs.declared.folder.FolderSource.{FolderSource}
use Rattle.remote.specs.declared.remote.Remote.{Remote}
use Rattle.remote.specs.declared.table.Table.{Table}
use Rattle.text_verifier.specs.Answered.{AnswerLooksAt, IsAnswer}
use Rattle.text_verifier.specs.Texts.{Question}
use Rattle.text_verifier.specs.declared.answering.Answer.{Answer}
use Rattle.text_verifier.specs.declared.lack.Lack.{Lack}
use Rattle.text_verifier.specs.declared.lack.Lack.TheVariants.{Blob, ActionResult}
use Rattle.tree.specs.Memo.{Asked, Covers}
use Rattle.commands.specs.Faults.{IsServerFault, error_of_file}
use Rattle.commands.specs.World.{Sight}
use Rattle.commands.specs.declared.connecting.ServerOptions.{ServerOptions}
use Rattle.commands.specs.declared.error.CommandError.{CommandError}
use Rattle.commands.specs.declared.error.CommandError.TheVariants.{Connection}
use Rattle.commands.specs.declared.failure.Failure.{Failure}
use Rattle.commands.specs.declared.failure.Method.{Method}
use Rattle.commands.specs.declared.failure.Method.TheVariants.{GetBlob, GetResult, PutBlob}
use Rattle.commands.specs.declared.failure.Method.TheVariants.{PutResult}

-- nothing was asked or put so far
pub record IsFresh {S A : Type 0} (r : Remote S A) : Type 0 where
  pub blobs : (d : DigestValue) → HasAnswer (blobs_of r) d → ⊥
  pub results : (d : DigestValue) → HasAnswer (results_of r) d → ⊥
  pub failures : (telling_of r).failures ≡ 0
  pub calls : (telling_of r).calls ≡ 0
  pub puts : (telling_of r).puts ≡ []

-- a source that told this was called at most once for each thing at which the verifier looks
abbrev pub IsAskedOnce : Telling → Question → Type 0
IsAskedOnce told question = (list : List Asked)
    → Covers (AnswerLooksAt Global told question) list → told.calls ≤ length list

-- The answer to the question by what such a source told. What it says is missing is so lacked.
abbrev pub IsAnsweredBy : (Telling → Type 0) → (Lack → Type 0) → Question → Answer Global → Type 0
IsAnsweredBy source lacks question answer =
    (told : Telling) × (∥ source told ∥₁) × IsAnswer told question answer
    × IfSome answer.lack (λ lack. ∥ lacks lack ∥₁) × IsAskedOnce told question

-- what is kept as nothing is lacked so
abbrev pub LacksAll : {A : Type 0} → (DigestValue → Type 0) → Table A → Type 0
LacksAll lacks kept = (d : DigestValue) → KeepsNone kept d → lacks d

-- of blobs and of results
pub record AreLacked {A : Type 0} (lacks : Lack → Type 0) (kept_blobs kept_results : Table A)
    : Type 0 where
  pub blobs : LacksAll (λ d. lacks (Blob d)) kept_blobs
  pub results : LacksAll (λ d. lacks (ActionResult d)) kept_results

-- ---- a store folder

-- what one says of files the other says too
pub record SeesFiles (sees other : Sight) : Type 0 where
  pub reads : (path bytes : List ℕ) → sees.reads path bytes → other.reads path bytes
  pub fails : (path : List ℕ) (e : FileError Global) → sees.fails path e → other.fails path e

-- what is told was read in this part of the folder
abbrev pub WereRead : Sight → List ℕ → List ℕ → Blobs → Type 0
WereRead sees folder part told =
    (d : DigestValue) (b : List ℕ) → told d ≡ Some b → sees.reads (entry_path folder part d) b

-- a store in this folder told this
pub record IsOfFolder (sees : Sight) (folder : List ℕ) (told : Telling) : Type 0 where
  pub blobs : WereRead sees folder (codes "cas") told.blobs
  pub results : WereRead sees folder (codes "ac") told.results

-- where a folder would have the blob's file, or the result's
abbrev pub file_of : List ℕ → Lack → List ℕ
file_of folder (Blob d) = entry_path folder (codes "cas") d
file_of folder (ActionResult d) = entry_path folder (codes "ac") d

-- the world told that nothing is there
abbrev pub LacksInFolder : Sight → List ℕ → Lack → Type 0
LacksInFolder sees folder lack = IsNothingAt sees.fails (file_of folder lack)

-- a file of the store is there, and couldn't be read, for this
pub record FailsInStore (sees : Sight) (folder : List ℕ) (e : FileError Global) : Type 0 where
  pub lack : Lack
  pub fails : sees.fails (file_of folder lack) e
  pub there : ¬ IsNotThere e

-- What a store in this folder tells, what it keeps as nothing, and its last failure are of files
-- there.
pub record IsInFolder {R : Type 0} (sees : Sight) (folder : List ℕ) (s : FolderSource R Global)
    : Type 0 where
  pub told : IsOfFolder sees folder (folders.telling_of s)
  pub lacked : AreLacked (LacksInFolder sees folder) (folders.blobs_of s) (folders.results_of s)
  pub failed : (e : FileError Global) → folders.error_of s ≡ Some e → FailsInStore sees folder e

-- the error tells which file of the store couldn't be read, and why
abbrev pub FailsInFolder : Sight → List ℕ → CommandError → Type 0
FailsInFolder sees folder e =
    (f : FileError Global) × FailsInStore sees folder f × (e ≡ error_of_file f)

-- ---- a server

-- the error tells that no connection could be opened; lack of memory is no such fault
abbrev pub FailsToConnect : Sight → List ℕ → CommandError → Type 0
FailsToConnect sees address (Connection server fault) =
    (string_bytes server ≡ address) × sees.refuses address fault × (error_kind fault ≢ OutOfMemory)
FailsToConnect sees address _ = ⊥

-- a connection to this server was opened, for requests with its host and its prefix
pub record IsConnected (sees : Sight) (server : ServerOptions) (c : ConnectionValue)
    : Type 0 where
  pub connected : sees.connects (string_bytes server.address) server.timeout c.flow
  pub host_is : c.host ≡ server.host
  pub prefix_is : c.prefix ≡ server.prefix
  pub unbroken : c.broken ≡ false
  pub unshut : c.shut ≡ false
  pub uncounted : c.failures ≡ 0
  pub unfailed : c.fault ≡ None

-- the requests that go over a connection: GETs of blobs alone, or all GETs, or PUTs of blobs too,
-- or of results too
pub data Access : Type 0 where
  gets_blobs : Access
  gets_alone : Access
  puts_blobs : Access
  puts_too : Access

-- a blob is put under its own hash
abbrev pub IsBlobPut : Request → List ℕ → Type 0
IsBlobPut request bytes = request ≡ put Cas (digest_of bytes).hash bytes

abbrev pub IsResultPut : Request → List ℕ → Type 0
IsResultPut request bytes = (hash : List ℕ) × (request ≡ put Ac hash bytes)

-- the request is one that may go over a connection with this access
abbrev pub MaySend : Access → Request → Type 0
MaySend gets_blobs request = (request.area ≡ Cas) × (request.body ≡ None)
MaySend gets_alone request = request.body ≡ None
MaySend puts_blobs request = IfSome request.body (IsBlobPut request)
MaySend puts_too request =
    IfSome request.body (λ bytes. IsBlobPut request bytes ⊎ IsResultPut request bytes)

-- the connection came to stand so by such requests, one after another, and replies to them
pub data Comes (access : Access) (start : ConnectionValue) : ConnectionValue → Type 0 where
  fresh : Comes access start start
  got : (old new : ConnectionValue) (area : Area) (hash : List ℕ) (answer : Option (List ℕ))
      → Comes access start old → MaySend access (get area hash)
      → Gets old new area hash answer → Comes access start new
  taken : (old new : ConnectionValue) (area : Area) (hash body : List ℕ)
      → Comes access start old → MaySend access (put area hash body)
      → Puts old new area hash body → Comes access start new
  refused : (old new : ConnectionValue) (request : Request) (e : FetchError)
      → Comes access start old → MaySend access request
      → RefusesRequest old new request e → Comes access start new

-- the hashes under which results were put, the latest last
abbrev pub results_put : {access : Access} {start now : ConnectionValue} → Comes access start now
    → List (List ℕ)
results_put fresh = []
results_put (got old new area hash answer before sent is) = results_put before
results_put (taken old new Ac hash body before sent is) = results_put before ++ hash ∷ []
results_put (taken old new area hash body before sent is) = results_put before
results_put (refused old new request e before sent is) = results_put before

-- how many requests were made; nothing goes out for one that is refused over a broken connection
abbrev pub requests_made : {access : Access} {start now : ConnectionValue}
    → Comes access start now → ℕ
requests_made fresh = 0
requests_made (got old new area hash answer before sent is) = requests_made before + 1
requests_made (taken old new area hash body before sent is) = requests_made before + 1
requests_made (refused old new request e before sent is) = requests_made before + 1

-- The bytes came over the connection as a reply for the hash; or the server took them, where PUTs
-- go over the connection.
pub record CameOver (access : Access) (start : ConnectionValue) (area : Area)
    (hash bytes : List ℕ) : Type 0 where
  pub old : ConnectionValue
  pub new : ConnectionValue
  pub before : Comes access start old
  pub is : (MaySend access (get area hash) × Gets old new area hash (Some bytes))
      ⊎ (MaySend access (put area hash bytes) × Puts old new area hash bytes)

-- the server took a PUT of this blob over the connection, which was opened so
pub record TakesBlob (access : Access) (start : ConnectionValue) (bytes : List ℕ)
    : Type 0 where
  pub old : ConnectionValue
  pub new : ConnectionValue
  pub before : Comes access start old
  pub is : Puts old new Cas (digest_of bytes).hash bytes

abbrev pub CameAllOver : Access → ConnectionValue → Area → Blobs → Type 0
CameAllOver access start area told =
    (d : DigestValue) (b : List ℕ) → told d ≡ Some b → CameOver access start area d.hash b

-- the reply came over the connection that there is nothing under the hash
pub record LacksOver (access : Access) (start : ConnectionValue) (area : Area)
    (hash : List ℕ) : Type 0 where
  pub old : ConnectionValue
  pub new : ConnectionValue
  pub before : Comes access start old
  pub sent : MaySend access (get area hash)
  pub is : Gets old new area hash None

-- the reply came over the connection that the server has no such blob, or no such result
abbrev pub LacksIt : Access → ConnectionValue → Lack → Type 0
LacksIt access start (Blob d) = LacksOver access start Cas d.hash
LacksIt access start (ActionResult d) = LacksOver access start Ac d.hash

-- A client over the connection told this, which now stands so. It lists the results that were put,
-- in this order; where memory runs out after the reply, the PUT counts as refused. No more requests
-- were made than calls, while these can be counted, and the calls that failed are counted there.
pub record IsClientOver (access : Access) (start now : ConnectionValue) (told : Telling)
    : Type 0 where
  pub came : Comes access start now
  pub blobs : CameAllOver access start Cas told.blobs
  pub results : CameAllOver access start Ac told.results
  pub puts : map (λ d. d.hash) told.puts ≡ results_put came
  pub few : told.calls < greatest_count → requests_made came ≤ told.calls
  pub failures : told.failures ≡ now.failures

-- what is asked for under a hash, or put there with this body
abbrev pub request_of : Method → List ℕ → List ℕ → Request
request_of GetBlob hash body = get Cas hash
request_of GetResult hash body = get Ac hash
request_of PutBlob hash body = put Cas hash body
request_of PutResult hash body = put Ac hash body

-- the request was refused over the connection, for this fault
pub record IsRefusedFor (access : Access) (start : ConnectionValue) (asked : Request)
    (fault : Fault) : Type 0 where
  pub old : ConnectionValue
  pub new : ConnectionValue
  pub before : Comes access start old
  pub sent : MaySend access asked
  pub is : RefusesRequest old new asked Failed
  pub kept : new.fault ≡ Some fault

-- the request was refused over the connection, and the error tells that the server at this address
-- did
pub record RefusesAt (access : Access) (start : ConnectionValue) (address : List ℕ)
    (method : Method) (digest : DigestValue) (body : List ℕ) (e : CommandError) : Type 0 where
  pub fault : Fault
  pub why : IsRefusedFor access start (request_of method digest.hash body) fault
  pub told : IsServerFault address (record { method = method; digest = digest; fault = fault }) e

-- what goes with a request: a blob with its own digest, a result, or nothing
abbrev pub Carries : Method → DigestValue → List ℕ → Type 0
Carries PutBlob digest body = digest ≡ digest_of body
Carries PutResult digest body = Unit {0}
Carries _ digest body = body ≡ []

-- a request was refused so
pub record FailsOver (access : Access) (start : ConnectionValue) (address : List ℕ)
    (e : CommandError) : Type 0 where
  pub method : Method
  pub digest : DigestValue
  pub body : List ℕ
  pub carries : Carries method digest body
  pub is : RefusesAt access start address method digest body e

-- What is kept as the request that failed last was refused. Where nothing is kept no call failed.
abbrev pub KeepsRefused : Access → ConnectionValue → ConnectionValue → Option Failure → Type 0
KeepsRefused access start now None = now.failures ≡ start.failures
KeepsRefused access start now (Some f) =
    (body : List ℕ) × Carries f.method f.digest body
    × IsRefusedFor access start (request_of f.method f.digest.hash body) f.fault

abbrev pub IsToldOver : Access → ConnectionValue → Telling → Type 0
IsToldOver access start told = (now : ConnectionValue) × IsClientOver access start now told

-- a client of this server told this
pub record IsOfServer (access : Access) (sees : Sight) (server : ServerOptions) (told : Telling)
    : Type 0 where
  pub start : ConnectionValue
  pub opened : IsConnected sees server start
  pub over : IsToldOver access start told

-- the reply came, over a connection that was opened to the server, that it has no such blob or
-- result
pub record LacksAtServer (access : Access) (sees : Sight) (server : ServerOptions) (lack : Lack)
    : Type 0 where
  pub start : ConnectionValue
  pub opened : IsConnected sees server start
  pub lacks : LacksIt access start lack

-- ---- a server for blobs, and a folder for results

-- A client over the connection, which gets blobs alone, told these blobs, and was called no more
-- often than what told this. The results were read in the folder.
pub record IsToldByParts (start : ConnectionValue) (sees : Sight) (folder : List ℕ)
    (told : Telling) : Type 0 where
  pub answered : Telling
  pub over : IsToldOver gets_blobs start answered
  pub blobs : told.blobs ≡ answered.blobs
  pub few : answered.calls ≤ told.calls
  pub results : WereRead sees folder (codes "ac") told.results

-- the reply came that there is no such blob, or the folder has no file of the result
abbrev pub LacksOfParts : ConnectionValue → Sight → List ℕ → Lack → Type 0
LacksOfParts start sees folder (Blob d) = LacksIt gets_blobs start (Blob d)
LacksOfParts start sees folder (ActionResult d) = LacksInFolder sees folder (ActionResult d)

-- a file of the folder couldn't be read, or a request was refused
abbrev pub FailsOfParts : ConnectionValue → Sight → List ℕ → List ℕ → CommandError → Type 0
FailsOfParts start sees folder address e =
    FailsInFolder sees folder e ⊎ FailsOver gets_blobs start address e

-- the blobs of the one, and the results of the other, with counts of their own
abbrev pub told_by_parts : Telling → Telling → ℕ → ℕ → Telling
told_by_parts by_server by_folder calls failures = record {
  blobs = by_server.blobs;
  results = by_folder.results;
  failures = failures;
  calls = calls;
  puts = [];
}

-- a client of this server told the blobs, and this folder the results
pub record IsOfBoth (sees : Sight) (server : ServerOptions) (folder : List ℕ) (told : Telling)
    : Type 0 where
  pub start : ConnectionValue
  pub opened : IsConnected sees server start
  pub parts : IsToldByParts start sees folder told

-- the server replied that it has no such blob, or the folder has no file of the result
abbrev pub LacksOfBoth : Sight → ServerOptions → List ℕ → Lack → Type 0
LacksOfBoth sees server folder (Blob d) = LacksAtServer gets_blobs sees server (Blob d)
LacksOfBoth sees server folder (ActionResult d) = LacksInFolder sees folder (ActionResult d)

-- ---- a marker

-- the connection of a marker that names none
abbrev pub no_connection : ConnectionValue
no_connection = record {
  flow = unknown_flow;
  host = [];
  prefix = [];
  broken = false;
  shut = false;
  failures = 0;
  fault = None;
}
