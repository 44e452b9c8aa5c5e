-- What exchanges sent and read over one stream.
use Rattle.std.proofs.Common.{◌≡◌, ℕ, ◌+◌, ◌≤◌, ◌⊎◌, inl, inr, Option, Some, None, List, [], ◌∷◌, ◌++◌, map, refl, sym, ◌∙◌, ap, append_assoc, arith}
use Rattle.std.specs.Io.KnownBytes.{Appends, Consumes}
use Rattle.std.proofs.lemmas.List.{append-nil}
use Rattle.http_core.specs.Request.{request_text}
use Rattle.remote.specs.Flow.{Flow, IsOneMore}
use Rattle.remote.specs.Line.{ConnectionValue, IsReplied, Request, request_bytes}
use Rattle.remote.specs.Reply.{IsReply, ReceivedReply, RoundTrip}
use Rattle.exchange.specs.Asking.{Exchange, Exchanges, requests_text}

-- the replies came one after another
abbrev pub Reads : List Exchange → List ℕ → List ℕ → Type 0
Reads [] coming rest = coming ≡ rest
Reads (x ∷ exchanges) coming rest =
    (text : List ℕ) × (more : List ℕ) × IsReply text x.reply × (coming ≡ text ++ more) × Reads exchanges more rest

pub appended : (a b : Option (List ℕ)) (bytes earlier : List ℕ) → Appends a b bytes → a ≡ Some earlier → b ≡ Some (earlier ++ bytes)
appended None b bytes earlier h e = absurd cc
appended (Some xs) None bytes earlier h e = absurd h
appended (Some xs) (Some ys) bytes earlier h e = let same : xs ≡ earlier = cc in cc

pub consumed : (a b : Option (List ℕ)) (bytes coming : List ℕ) → Consumes a b bytes → a ≡ Some coming → (more : List ℕ) × (b ≡ Some more) × (coming ≡ bytes ++ more)
consumed None b bytes coming h e = absurd cc
consumed (Some xs) None bytes coming h e = absurd h
consumed (Some xs) (Some ys) bytes coming h e = (ys, refl, (let same : xs ≡ coming = cc in cc))

some_is : (a b : ℕ) → Some a ≡ Some b → a ≡ b
some_is a b e = cc

pub some_list : (a b : List ℕ) → Some a ≡ Some b → a ≡ b
some_list a b e = cc

pub one_more : (a b : Option ℕ) (n : ℕ) → IsOneMore a b → a ≡ Some n → b ≡ Some (n + 1)
one_more None b n h e = absurd cc
one_more (Some m) b n h e = let same : m ≡ n = cc in h ∙ ap (λ z. Some (z + 1)) same

-- the stream of an exchange was opened as often as after it
trip_openings : (stream new : Flow) (bytes : List ℕ) (reply : ReceivedReply) → RoundTrip stream new bytes reply → new.openings ≡ stream.openings
trip_openings stream new bytes reply trip = trip.answers.read.stream.openings ∙ trip.asks.stream.openings

-- a stream is opened no less often later
one_later : (old mid : ConnectionValue) (r : Request) (reply : ReceivedReply) (n : ℕ) → IsReplied old mid r reply → old.flow.openings ≡ Some n
    → (mid.flow.openings ≡ Some n) ⊎ (mid.flow.openings ≡ Some (n + 1))
one_later old mid r reply n asks e = elim asks.next.is [
  | inl here ↦ inl (trip_openings asks.stream mid.flow (request_bytes old r) reply asks.trip ∙ ap (λ (f : Flow). f.openings) here.1 ∙ e)
  | inr anew ↦ inr (trip_openings asks.stream mid.flow (request_bytes old r) reply asks.trip ∙ one_more old.flow.openings asks.stream.openings n anew.1.once e)
]

all_later : (old new : ConnectionValue) (exchanges : List Exchange) (n m : ℕ) → Exchanges old exchanges new → old.flow.openings ≡ Some n → new.flow.openings ≡ Some m → n ≤ m
all_later old new [] n m is e f = let same : n ≡ m = some_is n m (sym e ∙ ap (λ (c : ConnectionValue). c.flow.openings) (sym is) ∙ f) in omega arith
all_later old new (x ∷ exchanges) n m (mid, asks, others) e f = elim (one_later old mid x.request x.reply n asks e) [
  | inl same ↦ all_later mid new exchanges n m others same f
  | inr more ↦ (let k : n + 1 ≤ m = all_later mid new exchanges (n + 1) m others more f in omega arith)
]

-- ---- one exchange

-- one exchange over a stream that wasn't opened anew
record IsTraced (old mid : ConnectionValue) (r : Request) (reply : ReceivedReply) (earlier coming : List ℕ) : Type 0 where
  pub text : List ℕ
  pub more : List ℕ
  pub is : IsReply text reply
  pub read : coming ≡ text ++ more
  pub left : mid.flow.coming ≡ Some more
  pub sent : mid.flow.sent ≡ Some (earlier ++ request_bytes old r)

one_traced : (old mid : ConnectionValue) (r : Request) (reply : ReceivedReply) (earlier coming : List ℕ) → (asks : IsReplied old mid r reply) → asks.stream ≡ old.flow
    → old.flow.sent ≡ Some earlier → old.flow.coming ≡ Some coming → IsTraced old mid r reply earlier coming
one_traced old mid r reply earlier coming asks same sent come =
    let trip = asks.trip in
    let between = trip.between in
    let went : between.sent ≡ Some (earlier ++ request_bytes old r) = appended asks.stream.sent between.sent (request_bytes old r) earlier trip.asks.sent (ap (λ (f : Flow). f.sent) same ∙ sent) in
    let back = consumed between.coming mid.flow.coming trip.answers.text coming trip.answers.read.coming (trip.asks.coming ∙ ap (λ (f : Flow). f.coming) same ∙ come) in
    record { text = trip.answers.text; more = back.0; is = trip.answers.is; read = back.2; left = back.1; sent = trip.answers.read.sent ∙ went }

-- ---- all

-- a stream that isn't opened anew until the end is the one that there was
same_stream : (old mid new : ConnectionValue) (x : Exchange) (exchanges : List Exchange) (n : ℕ) → (asks : IsReplied old mid x.request x.reply) → Exchanges mid exchanges new
    → old.flow.openings ≡ Some n → new.flow.openings ≡ Some n → asks.stream ≡ old.flow
same_stream old mid new x exchanges n asks others e f = elim asks.next.is [
  | inl here ↦ here.1
  | inr anew ↦ absurd (
      let more : mid.flow.openings ≡ Some (n + 1) = trip_openings asks.stream mid.flow (request_bytes old x.request) x.reply asks.trip ∙ one_more old.flow.openings asks.stream.openings n anew.1.once e in
      let k : n + 1 ≤ n = all_later mid new exchanges (n + 1) n others more f in
      omega arith
      )
]

pub record AreTraced (prefix host : List ℕ) (exchanges : List Exchange) (earlier after coming : List ℕ) : Type 0 where
  pub sent : after ≡ earlier ++ requests_text prefix host (map (λ (x : Exchange). x.request) exchanges)
  pub rest : List ℕ
  pub reads : Reads exchanges coming rest

pub all_traced : (prefix host : List ℕ) (old new : ConnectionValue) (exchanges : List Exchange) (n : ℕ) (earlier after coming : List ℕ) → old.prefix ≡ prefix → old.host ≡ host
    → Exchanges old exchanges new → old.flow.openings ≡ Some n → new.flow.openings ≡ Some n → old.flow.sent ≡ Some earlier → new.flow.sent ≡ Some after → old.flow.coming ≡ Some coming
    → AreTraced prefix host exchanges earlier after coming
all_traced prefix host old new [] n earlier after coming p h is e f sent went come = record {
  sent = some_list after earlier (sym went ∙ ap (λ (c : ConnectionValue). c.flow.sent) is ∙ sent) ∙ sym (append-nil earlier);
  rest = coming;
  reads = refl;
}
all_traced prefix host old new (x ∷ exchanges) n earlier after coming p h (mid, asks, others) e f sent went come =
    let same : asks.stream ≡ old.flow = same_stream old mid new x exchanges n asks others e f in
    let one = one_traced old mid x.request x.reply earlier coming asks same sent come in
    let bytes : List ℕ = request_text prefix host x.request.area x.request.hash x.request.body in
    let text : request_bytes old x.request ≡ bytes = λ i. request_text (p i) (h i) x.request.area x.request.hash x.request.body in
    let opened : mid.flow.openings ≡ Some n = trip_openings asks.stream mid.flow (request_bytes old x.request) x.reply asks.trip ∙ ap (λ (z : Flow). z.openings) same ∙ e in
    let rest = all_traced prefix host mid new exchanges n (earlier ++ bytes) after one.more (asks.server.prefix ∙ p) (asks.server.host ∙ h) others opened f (one.sent ∙ ap (λ z. Some (earlier ++ z)) text) went one.left in
    record {
      sent = rest.sent ∙ append_assoc earlier bytes (requests_text prefix host (map (λ (y : Exchange). y.request) exchanges));
      rest = rest.rest;
      reads = (one.text, one.more, one.is, one.read, rest.reads);
    }
