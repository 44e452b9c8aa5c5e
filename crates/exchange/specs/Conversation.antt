-- A put and a get of one blob over a stream in memory: an example.
use Rattle.std.specs.Prelude.{ℕ, true, false, List, [], ◌∷◌, ◌++◌, codes, Some, None}
use Rattle.sha2.specs.Sha256.{sha256}
use Rattle.http_core.specs.declared.event.Area.TheVariants.{Ac, Cas}
use Rattle.http_core.specs.Event.{EventValue, Asked, Get, Put}
use Rattle.http_core.specs.Reply.{bare, reply_text}
use Rattle.http_core.specs.Request.{request_text}
use Rattle.cache_server.specs.Cache.{CacheValue, found_reply, unused_cache}
use Rattle.cache_server.specs.History.{HistoryEntry, Piece}
use Rattle.remote.specs.declared.fault.Fault.TheVariants.{Status}
use Rattle.remote.specs.Flow.{flow_of}
use Rattle.remote.specs.Line.{ConnectionValue}

abbrev pub blob : List ℕ
blob = codes "abc"

abbrev pub blob_hash : List ℕ
blob_hash = sha256 blob

abbrev pub prefix : List ℕ
prefix = codes "/main"

abbrev pub host : List ℕ
host = codes "cache"

abbrev pub cache : CacheValue
cache = unused_cache 1000 1000

-- a cache without room
abbrev pub tight_cache : CacheValue
tight_cache = unused_cache 0 0

abbrev pub put_event : EventValue
put_event = Asked (Put Cas blob_hash blob) false

abbrev pub get_event : EventValue
get_event = Asked (Get Cas blob_hash) false

-- what the client sends
abbrev pub put_request : List ℕ
put_request = request_text prefix host Cas blob_hash (Some blob)

abbrev pub get_request : List ℕ
get_request = request_text prefix host Cas blob_hash None

-- what comes to it
abbrev pub put_reply : List ℕ
put_reply = reply_text (bare 200) false

abbrev pub get_reply : List ℕ
get_reply = reply_text (found_reply (Some blob)) false

abbrev pub full_reply : List ℕ
full_reply = reply_text (bare 507) false

-- the client, once it has sent this and is still to read that
abbrev pub client : List ℕ → List ℕ → ConnectionValue
client sent coming = record {
  flow = flow_of (record { coming = coming; sent = sent; most = 1; until_failure = 0 });
  host = host;
  prefix = prefix;
  broken = false;
  shut = false;
  failures = 0;
  fault = None;
}

abbrev pub before : ConnectionValue
before = client [] (put_reply ++ get_reply)

abbrev pub between : ConnectionValue
between = client put_request get_reply

abbrev pub after : ConnectionValue
after = client (put_request ++ get_request) []

-- a result that refers to nothing is put, and then looked up
abbrev pub result_request : List ℕ
result_request = request_text prefix host Ac blob_hash (Some [])

abbrev pub lookup_request : List ℕ
lookup_request = request_text prefix host Ac blob_hash None

abbrev pub before_result : ConnectionValue
before_result = client [] (put_reply ++ put_reply)

abbrev pub after_result : ConnectionValue
after_result = client (result_request ++ lookup_request) []

-- the client that is refused for want of room
abbrev pub hopeful : ConnectionValue
hopeful = client [] full_reply

abbrev pub refused : ConnectionValue
refused = record (client put_request []) {
  broken = true;
  failures = 1;
  fault = Some (Status 507);
}

-- what comes over connection 0 of a server: both requests, or one
abbrev pub history : List HistoryEntry
history = Piece 0 (put_request ++ get_request) ∷ []

abbrev pub put_alone : List HistoryEntry
put_alone = Piece 0 put_request ∷ []
