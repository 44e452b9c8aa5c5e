-- What may be said of what a command reaches outside, by what was told of it.
use Rattle.std.specs.Prelude.{◌≡◌, ◌==◌, ℕ, Bool, not, true, bit_and, List, Option, Some}
use Rattle.std.specs.Prelude.{string_bytes}
use Rattle.std.specs.Fs.{metadata_mode}
use Rattle.std.specs.declared.alloc.Global.{Global}
use Rattle.std.specs.declared.fs.Metadata.{Metadata}
use Rattle.std.specs.declared.io.Error.{Error}
use Rattle.std.specs.declared.net.socket_addr.SocketAddr.{SocketAddr}
use Rattle.std.specs.declared.time.Duration.{Duration}
use Rattle.blob_digest.specs.Digest.{DigestValue, digest_of}
use Rattle.cache_server.specs.Cache.{CacheValue}
use Rattle.checkout.specs.Folder.{FolderValue}
use Rattle.remote.specs.Flow.{Flow, unknown_flow}
use Rattle.remote.specs.declared.files.FileError.{FileError}
use Rattle.service.specs.declared.error.NotAccepted.{NotAccepted}
use Rattle.commands.specs.declared.world.Found.{Found}
use Rattle.commands.specs.declared.world.Found.TheVariants.{File, Folder, Link}
use Rattle.commands.specs.declared.world.Listening.{Listening}
use Rattle.commands.specs.declared.world.Service.{Service}

-- Connections that are to be served: at which address, by which cache, under which prefix, how
-- many, how many of them at a time, and for how many seconds one may be silent (0: for ever).
pub record Serving : Type 0 where
  pub address : SocketAddr
  pub cache : CacheValue
  pub prefix : List ℕ
  pub connections : ℕ
  pub at_once : ℕ
  pub idle : ℕ

-- what stands at a path: a folder, a symbolic link to a text, or a file or what is none of these,
-- with its owner's executable bit
pub data FoundValue : Type 0 where
  a_folder : FoundValue
  a_link : List ℕ → FoundValue
  a_file : Bool → FoundValue

-- What was told and done. Only the calls that were told it and did it say so.
pub record Sight : Type 1 where
  -- the file at the path was read, and had these bytes
  pub reads : List ℕ → List ℕ → Type 0
  -- the file at the path was opened, and has these bytes, where they are known
  pub opens : List ℕ → Option (List ℕ) → Type 0
  -- the folder at the path was read, and had entries of these names
  pub lists : List ℕ → List (List ℕ) → Type 0
  -- what was found stands at the path, where a link isn't followed
  pub stands : List ℕ → FoundValue → Type 0
  -- a folder stands at the path, where links are followed, or none does
  pub leads : List ℕ → Bool → Type 0
  -- what stands at the path couldn't be read, for this
  pub fails : List ℕ → FileError Global → Type 0
  -- no folder at the path could be listed, for this
  pub unlisted : List ℕ → FileError Global → Type 0
  -- a stream was opened to the server at this address, with this limit on its silence, and stood so
  pub connects : List ℕ → Option Duration → Flow → Type 0
  -- none could be opened, for this
  pub refuses : List ℕ → Error → Type 0
  -- a file or nothing stands at the path, where links are followed, and its folder takes a new file
  pub takes : List ℕ → Type 0
  -- the bytes were written to the file at the path
  pub wrote : List ℕ → List ℕ → Type 0
  -- the folder had nothing in it, then this was written into it, and nothing else
  pub holds : FolderValue → Type 0
  -- nothing could be written at the path, for this
  pub unwritten : List ℕ → Error → Type 0
  -- a tree was written, or tried to be: at these paths, in this order, and nowhere else
  pub tries : List (List ℕ) → Type 0
  -- random bytes could be had
  pub random : Type 0
  -- no random bytes could be had, for this
  pub unrandom : Error → Type 0
  -- a socket listens at this place, at this address
  pub listens : List ℕ → SocketAddr → Type 0
  -- none could be bound there, for this
  pub unbound : List ℕ → Error → Type 0
  -- the connections were served
  pub serves : Serving → Type 0
  -- the connections weren't all served, for this
  pub unserved : Serving → NotAccepted → Type 0

-- nothing is known of it
abbrev pub sees_nothing : Sight
sees_nothing = record {
  reads = λ _ _. Unit {0};
  opens = λ _ _. Unit {0};
  lists = λ _ _. Unit {0};
  stands = λ _ _. Unit {0};
  leads = λ _ _. Unit {0};
  fails = λ _ _. Unit {0};
  unlisted = λ _ _. Unit {0};
  connects = λ _ _ _. Unit {0};
  refuses = λ _ _. Unit {0};
  takes = λ _. Unit {0};
  wrote = λ _ _. Unit {0};
  holds = λ _. Unit {0};
  unwritten = λ _ _. Unit {0};
  tries = λ _. Unit {0};
  random = Unit {0};
  unrandom = λ _. Unit {0};
  listens = λ _ _. Unit {0};
  unbound = λ _ _. Unit {0};
  serves = λ _. Unit {0};
  unserved = λ _ _. Unit {0};
}

-- a stream of which it is known that it can be opened anew, and nothing else
abbrev pub renewable_flow : Flow
renewable_flow = record unknown_flow { is_renewable = Some true }

-- what was found at a path
abbrev pub what_stands : Found → FoundValue
what_stands Folder = a_folder
what_stands (Link target) = a_link (string_bytes target)
what_stands (File executable) = a_file executable

-- the owner's executable bit of a file's mode
abbrev pub owner_bit : Metadata → Bool
owner_bit m = not (bit_and (metadata_mode m) 64 == 0)

-- the file at the path was read, and its bytes have this digest
abbrev pub ReadsDigest : Sight → List ℕ → DigestValue → Type 0
ReadsDigest sees path digest =
    (content : List ℕ) × sees.reads path content × (digest ≡ digest_of content)

-- the connections of this socket, as they are to be served
abbrev pub serving : Listening → Service → Serving
serving l s = record {
  address = l.address;
  cache = s.cache;
  prefix = s.prefix;
  connections = s.connections;
  at_once = s.at_once;
  idle = s.idle;
}
