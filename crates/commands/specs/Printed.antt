-- What a command prints, by its options.
use Rattle.std.specs.Prelude.{◌≡◌, ◌⊎◌, ◌↔◌, ℕ, false, true, List, [], ◌∷◌, ◌++◌, Option, None}
use Rattle.std.specs.Prelude.{Some, IsSome, IsTrue, codes, string_bytes, IfSome, is_some}
use Rattle.std.specs.Prelude.{if◌then◌else◌}
use Rattle.std.specs.Option.{option_or}
use Rattle.std.specs.Io.KnownBytes.{Appends}
use Rattle.std.specs.Net.Text.{socket_text}
use Rattle.std.specs.declared.alloc.Global.{Global}
use Rattle.std.specs.declared.net.socket_addr.SocketAddr.{SocketAddr}
use Rattle.blob_digest.specs.Digest.{DigestValue}
use Rattle.blob_digest.specs.Text.{digest_text}
use Rattle.clap.specs.Words.{Row, first_of}
use Rattle.report.specs.Line.{report_line}
use Rattle.cache_server.specs.Cache.{unused_cache}
use Rattle.remote.specs.Folder.{IsNotThere, IsNothingAt}
use Rattle.remote.specs.Line.{ConnectionValue}
use Rattle.remote.specs.declared.files.FileError.{FileError}
use Rattle.blob_source.specs.Source.{Telling}
use Rattle.verifier.specs.Verdict.{IsYes}
use Rattle.verifier.specs.declared.made.Made.{Made}
use Rattle.verifier.specs.declared.verdict.Verdict.{Verdict}
use Rattle.text_verifier.specs.Answered.{IsJudged, IsMadeFor}
use Rattle.text_verifier.specs.Lacking.{lack_of}
use Rattle.text_verifier.specs.Texts.{HasTexts, Question, IsDigestText}
use Rattle.text_verifier.specs.declared.lack.Lack.{Lack}
use Rattle.commands.specs.ByteCounts.{SpellsBytes}
use Rattle.commands.specs.Ended.{is_done}
use Rattle.commands.specs.Got.{BeginsBlob, Writes}
use Rattle.commands.specs.Options.{IsServerOf, OnNamedServer, greatest_number}
use Rattle.commands.specs.Options.{number_or}
use Rattle.commands.specs.Places.{IsAskedOnce, IsConnected, IsOfBoth, IsOfFolder, IsOfServer}
use Rattle.commands.specs.Places.{LacksAtServer, LacksInFolder, LacksOfBoth, gets_alone}
use Rattle.commands.specs.Put.{PutsPath}
use Rattle.commands.specs.Told.{AppendsBeginning}
use Rattle.commands.specs.Trees.{BeginsLack, IsTreeGot}
use Rattle.commands.specs.Words.{AllValid, IsSaid, serve_words, server_words}
use Rattle.commands.specs.World.{Serving, Sight}
use Rattle.commands.specs.declared.ended.Ended.{Ended}
use Rattle.commands.specs.declared.ended.Ended.TheVariants.{Done, No}
use Rattle.commands.specs.declared.ended.Note.TheVariants.{Differs, NoStore}
use Rattle.commands.specs.declared.serving.ServeRequest.{ServeRequest}
use Rattle.commands.specs.declared.verifying.RecordedBuild.{RecordedBuild}
use Rattle.commands.specs.declared.verifying.RecordedBuild.TheVariants.{Both, Folder, Server}
use Rattle.command_lines.specs.CommandLine.{option_text}

-- the options name a store folder, and nothing of a server or of results
pub record NamesStore (options : List Row) : Type 0 where
  pub store : IsSome (first_of (codes "store") options)
  pub server : first_of (codes "server") options ≡ None
  pub prefix : first_of (codes "prefix") options ≡ None
  pub timeout : first_of (codes "timeout") options ≡ None
  pub results : first_of (codes "results") options ≡ None

-- the options name a server, with what is valid to say of it, and no folder
pub record NamesServer (options : List Row) : Type 0 where
  pub server : IsSome (first_of (codes "server") options)
  pub store : first_of (codes "store") options ≡ None
  pub results : first_of (codes "results") options ≡ None
  pub valid : AllValid (server_words options)

-- the options name a server for blobs, with what is valid to say of it, and a folder for results
pub record NamesResults (options : List Row) : Type 0 where
  pub server : IsSome (first_of (codes "server") options)
  pub store : first_of (codes "store") options ≡ None
  pub results : IsSome (first_of (codes "results") options)
  pub valid : AllValid (server_words options)

-- ---- verify

-- the folder, or the server, or both, that the options name
abbrev pub IsNamedPlace : List Row → RecordedBuild → Type 0
IsNamedPlace options (Folder folder) =
    NamesStore options × (string_bytes folder ≡ option_text options (codes "store"))
IsNamedPlace options (Server server) = NamesServer options × IsServerOf options server
IsNamedPlace options (Both server folder) = NamesResults options × IsServerOf options server
    × (string_bytes folder ≡ option_text options (codes "results"))

-- A source over the place that the options name told this. Nothing is put into it.
abbrev pub IsOfPlace : Sight → List Row → Telling → Type 0
IsOfPlace sees options told =
    (NamesStore options × IsOfFolder sees (option_text options (codes "store")) told)
    ⊎ ((NamesServer options
    × OnNamedServer options (λ server. IsOfServer gets_alone sees server told))
    ⊎ (NamesResults options × OnNamedServer options (λ server.
    IsOfBoth sees server (option_text options (codes "results")) told)))

-- The store folder that they name has no file of it, as the world told; or the server that they
-- name replied that it has no such blob or result; or one of both lacks it, whose part it is.
abbrev pub LacksAtPlace : Sight → List Row → Lack → Type 0
LacksAtPlace sees options lack =
    (NamesStore options × LacksInFolder sees (option_text options (codes "store")) lack)
    ⊎ ((NamesServer options
    × OnNamedServer options (λ server. LacksAtServer gets_alone sees server lack))
    ⊎ (NamesResults options × OnNamedServer options (λ server.
    LacksOfBoth sees server (option_text options (codes "results")) lack)))

-- The digests in the words, and the files that they name, as they were read, ask this question.
pub record AsksQuestion (sees : Sight) (options : List Row) (question : Question) : Type 0 where
  pub plan_bytes : List ℕ
  pub plan_read : sees.reads (option_text options (codes "plan")) plan_bytes
  pub noted_bytes : List ℕ
  pub noted_read : sees.reads (option_text options (codes "record")) noted_bytes
  pub texts : HasTexts (option_text options (codes "sources")) (option_text options (codes "claim"))
      plan_bytes noted_bytes question

-- The verdict is the one on that question, by what a source over the place that they name told.
-- A server was called at most once for each thing at which the verifier looks (how often a file of
-- a store is read isn't stated). What is missing by the verdict is lacked there.
pub record JudgesAsked (sees : Sight) (options : List Row) (verdict : Verdict Global)
    : Type 0 where
  pub question : Question
  pub asks : AsksQuestion sees options question
  pub told : Telling
  pub source : ∥ IsOfPlace sees options told ∥₁
  pub judged : IsJudged told question verdict
  pub few : IsSaid options (codes "server") → IsAskedOnce told question
  pub lacks : IfSome (lack_of question verdict) (λ lack. ∥ LacksAtPlace sees options lack ∥₁)

-- a verdict on what the options ask, and what builds make, where it says that this isn't the claim
pub record JudgesAnswer (sees : Sight) (options : List Row) (verdict : Verdict Global)
    (handed : Option (Made Global)) : Type 0 where
  pub judges : JudgesAsked sees options verdict
  pub made : IsMadeFor judges.told judges.question verdict handed

-- the world told that no folder is at the path
abbrev pub LacksFolder : Sight → List ℕ → Type 0
LacksFolder sees path = sees.leads path false ⊎ IsNothingAt sees.fails path

-- the world told that a folder is at the path, or couldn't tell what is there
abbrev pub MayHaveFolder : Sight → List ℕ → Type 0
MayHaveFolder sees path = sees.leads path true
    ⊎ ((e : FileError Global) × sees.fails path e × ¬ IsNotThere e)

-- a no has a note exactly where this store is a folder that isn't there
abbrev pub NotesFolder : Sight → Option (List ℕ) → Ended → Type 0
NotesFolder sees store (No (Some (NoStore path))) =
    (store ≡ Some (string_bytes path)) × LacksFolder sees (string_bytes path)
NotesFolder sees store (No (Some _)) = ⊥
NotesFolder sees store (No None) = IfSome store (MayHaveFolder sees)
NotesFolder sees store Done = Unit {0}

-- the folder that the options name, as a store or for results
abbrev pub named_folder : List Row → Option (List ℕ)
named_folder options =
    option_or (first_of (codes "store") options) (first_of (codes "results") options)

-- what a no says but for where a folder isn't what builds make
abbrev pub without_mismatch : Ended → Ended
without_mismatch (No (Some (Differs x))) = No None
without_mismatch ended = ended

-- a no has another note exactly where the folder that the options name isn't there
abbrev pub NotesStore : Sight → List Row → Ended → Type 0
NotesStore sees options ended =
    NotesFolder sees (named_folder options) (without_mismatch ended)

-- the verdict on what the options ask has this line, and comes to done where it is a yes
pub record AnswersVerdict (sees : Sight) (options : List Row) (line : List ℕ) (ended : Ended)
    : Type 0 where
  pub verdict : Verdict Global
  pub judged : JudgesAsked sees options verdict
  pub line_is : line ≡ report_line verdict
  pub done : IsTrue (is_done ended) ↔ IsYes verdict
  pub noted : NotesStore sees options ended

-- ---- the others

-- a connection to the server that the options name was opened, and stood so
abbrev pub IsConnectedTo : Sight → List Row → ConnectionValue → Type 0
IsConnectedTo sees options start = OnNamedServer options (λ server. IsConnected sees server start)

-- the options spell this digest, and a connection to the server that they name was opened
pub record StartsGet (sees : Sight) (options : List Row) (digest : DigestValue)
    (start : ConnectionValue) : Type 0 where
  pub words : AllValid (server_words options)
  pub spelled : IsDigestText (option_text options (codes "digest")) digest
  pub opened : IsConnectedTo sees options start

-- the blob was written, or with words of a folder the tree into that; or the server lacks it
abbrev pub IsGot : Sight → Option (List ℕ) → ConnectionValue → List ℕ → DigestValue
    → Option (List ℕ) → Option (List ℕ) → Ended → Type 0
IsGot sees None start address digest old new ended = Writes start address digest old new ended
IsGot sees (Some folder) start address digest old new ended =
    IsTreeGot sees start digest folder old new ended

pub record GetsAsked (sees : Sight) (options : List Row) (old new : Option (List ℕ)) (ended : Ended)
    : Type 0 where
  pub digest : DigestValue
  pub start : ConnectionValue
  pub starts : StartsGet sees options digest start
  pub got : IsGot sees (first_of (codes "into") options) start
      (option_text options (codes "server")) digest old new ended

-- Nothing was written, or a beginning of that blob; or with words of a folder, a beginning of the
-- line of a blob that the server lacks.
abbrev pub BeginsGot : Sight → Option (List ℕ) → ConnectionValue → DigestValue → Option (List ℕ)
    → Option (List ℕ) → Type 0
BeginsGot sees None start digest old new = BeginsBlob start digest old new
BeginsGot sees (Some folder) start digest old new = BeginsLack sees start digest folder old new

-- nothing was written, or a beginning of what the options ask for
abbrev pub GetsPart : Sight → List Row → Option (List ℕ) → Option (List ℕ) → Type 0
GetsPart sees options old new = (new ≡ old)
    ⊎ ((digest : DigestValue) × (start : ConnectionValue) × StartsGet sees options digest start
    × BeginsGot sees (first_of (codes "into") options) start digest old new)

-- the words are valid, and a connection to the server that they name was opened, and stood so
pub record StartsPut (sees : Sight) (options : List Row) (start : ConnectionValue) : Type 0 where
  pub valid : AllValid (server_words options)
  pub opened : IsConnectedTo sees options start

-- What was read at the path is put to that server, and the line of its digest was printed.
pub record PrintsDigest (sees : Sight) (options : List Row) (old new : Option (List ℕ))
    : Type 0 where
  pub start : ConnectionValue
  pub starts : StartsPut sees options start
  pub digest : DigestValue
  pub put : PutsPath sees start (option_text options (codes "path")) digest
  pub printed : Appends old new (digest_text digest ++ 10 ∷ [])

-- nothing was printed, or a beginning of such a line
abbrev pub BeginsDigest : Sight → List Row → Option (List ℕ) → Option (List ℕ) → Type 0
BeginsDigest sees options old new = (new ≡ old)
    ⊎ ((start : ConnectionValue) × (digest : DigestValue) × StartsPut sees options start
    × PutsPath sees start (option_text options (codes "path")) digest
    × AppendsBeginning old new (digest_text digest ++ 10 ∷ []))

-- ---- serve

-- How many connections are served at a time where nothing is said of it: one, where only so many are
-- served at all, and else 256.
abbrev pub usual_at_once : List Row → ℕ
usual_at_once options = if is_some (first_of (codes "connections") options) then 1 else 256

abbrev pub at_once_of : List Row → ℕ
at_once_of options = number_or (usual_at_once options) options (codes "at-once")

-- the options spell these limits on the bytes of blobs and of results
pub record SpellsLimits (options : List Row) (limit result_limit : ℕ) : Type 0 where
  pub blobs : SpellsBytes (option_text options (codes "limit")) limit
  pub results : SpellsBytes (option_text options (codes "result-limit")) result_limit

-- connections at this address to a cache of these limits, as the options say; without words of
-- that, as many as can be counted, and silent for 60 seconds
abbrev pub serving_of : List Row → ℕ → ℕ → SocketAddr → Serving
serving_of options limit result_limit address = record {
  address = address;
  cache = unused_cache limit result_limit;
  prefix = option_text options (codes "prefix");
  connections = number_or greatest_number options (codes "connections");
  at_once = at_once_of options;
  idle = number_or 60 options (codes "idle");
}

abbrev pub listening_line : SocketAddr → List ℕ
listening_line address = codes "listening " ++ socket_text address ++ codes "\n"

-- the words are valid, and a socket listens where they say, at this address
pub record StartsServe (sees : Sight) (options : List Row) (address : SocketAddr) : Type 0 where
  pub valid : AllValid (serve_words options)
  pub listens : sees.listens (option_text options (codes "listen")) address

-- the line of its address was printed, and the connections were served there, as they say
pub record ServesAsked (sees : Sight) (options : List Row) (old new : Option (List ℕ))
    : Type 0 where
  pub address : SocketAddr
  pub starts : StartsServe sees options address
  pub printed : Appends old new (listening_line address)
  pub limit : ℕ
  pub result_limit : ℕ
  pub limits : SpellsLimits options limit result_limit
  pub served : sees.serves (serving_of options limit result_limit address)

-- the line of an address where a socket so listens was printed
abbrev pub PrintsListening : Sight → List Row → Option (List ℕ) → Option (List ℕ) → Type 0
PrintsListening sees options old new = (address : SocketAddr)
    × StartsServe sees options address × Appends old new (listening_line address)

-- nothing was printed, or the line or a beginning of it, of an address where a socket so listens
abbrev pub BeginsListening : Sight → List Row → Option (List ℕ) → Option (List ℕ) → Type 0
BeginsListening sees options old new = (new ≡ old) ⊎ ((address : SocketAddr)
    × StartsServe sees options address × AppendsBeginning old new (listening_line address))

-- what the words of `serve` ask for is as they say
pub record IsServeRequest (options : List Row) (request : ServeRequest) : Type 0 where
  pub address : request.address.now ≡ option_text options (codes "listen")
  pub limits : SpellsLimits options request.limit request.result_limit
  pub prefix : request.prefix ≡ option_text options (codes "prefix")
  pub connections : request.connections ≡ number_or greatest_number options (codes "connections")
  pub at_once : request.at_once ≡ at_once_of options
  pub idle : request.idle ≡ number_or 60 options (codes "idle")
