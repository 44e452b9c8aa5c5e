-- Requests of a client, and what a server takes them for.
use Rattle.std.specs.Prelude.{◌≡◌, ℕ, ◌≤◌, true, false, List, [], ◌∷◌, ◌++◌, length, map, Option}
use Rattle.std.specs.Prelude.{Some, None, IfSome, is_some}
use Rattle.blob_digest.specs.Body.{greatest_blob}
use Rattle.blob_digest.specs.DigestValue.{IsHash}
use Rattle.http_core.specs.declared.event.Area.{Area}
use Rattle.http_core.specs.Event.{AskValue, Get, Put, EventValue, Asked, is_served}
use Rattle.http_core.specs.Host.{is_host}
use Rattle.http_core.specs.Prefix.{is_prefix}
use Rattle.http_core.specs.Request.{request_text}
use Rattle.remote.specs.Line.{ConnectionValue, IsReplied, Request}
use Rattle.remote.specs.Reply.{ReceivedReply}

-- A valid prefix, and a valid host that leaves room in a head for the rest of it.
pub record IsAddress (prefix host : List ℕ) : Type 0 where
  pub prefix_is : is_prefix prefix ≡ true
  pub host_is : is_host host ≡ true
  pub host_fits : length host ≤ 16000

-- A request that is served: it names an area that it may, under a hash, and its body isn't too
-- large.
pub record IsServable (request : Request) : Type 0 where
  pub area : is_served (is_some request.body) request.area ≡ true
  pub hash : IsHash request.hash
  pub fits : IfSome request.body (λ body. length body ≤ greatest_blob)

-- a GET, or a PUT of the body
abbrev pub ask_for : Area → List ℕ → Option (List ℕ) → AskValue
ask_for area hash None = Get area hash
ask_for area hash (Some body) = Put area hash body

-- what a server takes the request for: its answer doesn't close the session
abbrev pub event_for : Request → EventValue
event_for r = Asked (ask_for r.area r.hash r.body) false

-- the requests, as a client sends them one after another
abbrev pub requests_text : List ℕ → List ℕ → List Request → List ℕ
requests_text prefix host [] = []
requests_text prefix host (r ∷ requests) =
    request_text prefix host r.area r.hash r.body ++ requests_text prefix host requests

-- a request, and the reply that came to it
pub record Exchange : Type 0 where
  pub request : Request
  pub reply : ReceivedReply

-- the requests were made one after another, and each had its reply
abbrev pub Exchanges : ConnectionValue → List Exchange → ConnectionValue → Type 0
Exchanges old [] new = new ≡ old
Exchanges old (x ∷ exchanges) new =
    (mid : ConnectionValue) × IsReplied old mid x.request x.reply × Exchanges mid exchanges new

-- the requests alone, and the replies
abbrev pub requests_of : List Exchange → List Request
requests_of exchanges = map (λ x. x.request) exchanges

abbrev pub replies_of : List Exchange → List ReceivedReply
replies_of exchanges = map (λ x. x.reply) exchanges
