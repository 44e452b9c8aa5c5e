-- What refusals leave of a connection.
use Rattle.std.proofs.Common.{◌≡◌, ℕ, ◌+◌, ◌<◌, Bool, true, false, inr, List, ◌++◌, length, length-append, sym, ap, subst, ◌∙◌, arith}
use Rattle.http_core.specs.Block.{IsBlock, empty_line}
use Rattle.blob_source.specs.declared.source.FetchError.{FetchError}
use Rattle.blob_source.specs.declared.source.FetchError.TheVariants.{Failed, Memory}
use Rattle.remote.specs.declared.fault.Fault.{Fault}
use Rattle.remote.specs.declared.fault.Fault.TheVariants.{Status}
use Rattle.remote.specs.Line.{ConnectionValue, Request, IsSameServer, IsUncounted, IsNextStream, IsReplied, IsConnectionFault, ExplainsMemory, RefusesRequest, is_answer, request_bytes}
use Rattle.remote.specs.Flow.{Flow, SendsFront}
use Rattle.remote.proofs.Flows.{fronts_all, fronts_from, fronts_then}
use Rattle.remote.specs.Reply.{ReceivedReply, IsReply, RoundTrip, RoundTripForSome}
use Rattle.remote.specs.Steps.{CountsFault, Starves}

pub memory_failed : Memory ≡ Failed → ⊥
memory_failed h = cc

true_false : (b : Bool) → b ≡ false → b ≡ true → ⊥
true_false b f t = cc

same_server : {a b c : ConnectionValue} → IsSameServer a b → IsSameServer b c → IsSameServer a c
same_server h k = record { host = k.host ∙ h.host; prefix = k.prefix ∙ h.prefix }

uncounted : {a b c : ConnectionValue} → IsUncounted a b → IsUncounted b c → IsUncounted a c
uncounted h k = record { count = k.count ∙ h.count; fault = k.fault ∙ h.fault }

-- a connection that wasn't broken fails
pub refuses_fault : (old mid new : ConnectionValue) (request : Request) (fault : Fault) (e : FetchError) → old.broken ≡ false → IsUncounted old mid → IsSameServer old mid
    → SendsFront old.flow mid.flow (request_bytes old request) → IsConnectionFault old new request fault → CountsFault mid new fault e → RefusesRequest old new request e
refuses_fault old mid new request fault e open_ none server sent is h = record {
  broken = h.broken;
  failed = λ f. record { count = (h.failed f).0 ∙ ap (λ n. n + 1) none.count; fault = fault; kept = (h.failed f).1; is = is };
  unfailed = λ f. uncounted none (h.unfailed f);
  bounded = h.bounded;
  still = λ shut. absurd (true_false old.broken open_ shut);
  sent = fronts_then old.flow mid.flow new.flow (request_bytes old request) sent (ap (λ z. z.sent) h.flow);
  server = same_server server h.server;
}

-- memory was wanting
pub refuses_starved : (old mid new : ConnectionValue) (request : Request) (e : FetchError) → (old.broken ≡ true → mid.flow ≡ old.flow) → IsUncounted old mid → IsSameServer old mid
    → SendsFront old.flow mid.flow (request_bytes old request) → Starves mid new e → RefusesRequest old new request e
refuses_starved old mid new request e still none server sent h = record {
  broken = h.broken;
  failed = λ f. absurd (memory_failed (sym h.is ∙ f));
  unfailed = λ f. uncounted none h.uncounted;
  bounded = h.bounded;
  still = λ is. h.flow ∙ still is;
  sent = fronts_then old.flow mid.flow new.flow (request_bytes old request) sent (ap (λ z. z.sent) h.flow);
  server = same_server server h.server;
}

-- what was sent is the one request
sends_trip : {old mid : ConnectionValue} {request : Request} {reply : ReceivedReply} → IsReplied old mid request reply → SendsFront old.flow mid.flow (request_bytes old request)
sends_trip {old} {mid} {request} asks =
    fronts_from old.flow asks.stream mid.flow (request_bytes old request) asks.next.sent
    (fronts_all asks.stream asks.trip.between mid.flow (request_bytes old request) asks.trip.asks asks.trip.answers.read.sent)

-- the reply has a status that is no answer
pub refuses_status : (old mid new : ConnectionValue) (request : Request) (reply : ReceivedReply) (n : ℕ) (e : FetchError)
    → IsReplied old mid request reply → reply.status ≡ n → is_answer request.body n ≡ false → CountsFault mid new (Status n) e → RefusesRequest old new request e
refuses_status old mid new request reply n e asks is no_answer h =
    refuses_fault old mid new request (Status n) e asks.unbroken (record { count = asks.failures; fault = asks.fault }) asks.server
    (sends_trip asks)
    (record { unbroken = asks.unbroken; stream = asks.stream; next = asks.next; reply = reply; trip = subst (λ f. RoundTrip asks.stream f (request_bytes old request) reply) (sym h.flow) asks.trip; is = is; refused = no_answer }) h

-- what a reply brought isn't kept for lack of memory
pub refuses_unkept : (old mid new : ConnectionValue) (request : Request) (reply : ReceivedReply) (e : FetchError) → IsReplied old mid request reply → Starves mid new e → RefusesRequest old new request e
refuses_unkept old mid new request reply e asks h =
    refuses_starved old mid new request e (λ shut. absurd (true_false old.broken asks.unbroken shut)) (record { count = asks.failures; fault = asks.fault }) asks.server
    (sends_trip asks) h

-- ---- lack of memory

-- some of what came isn't kept
pub explains_unread : (old mid new : ConnectionValue) (stream : Flow) (request : Request) (e : FetchError) → old.broken ≡ false → IsNextStream old stream
    → RoundTripForSome stream mid.flow (request_bytes old request) → Starves mid new e → ExplainsMemory old new request e
explains_unread old mid new stream request e open_ next trip h = record {
  lacks = λ is. inr (record {
    unbroken = open_;
    stream = stream;
    next = next;
    is = inr (subst (λ f. RoundTripForSome stream f (request_bytes old request)) (sym h.flow) trip);
  });
}

some_block : {block : List ℕ} → IsBlock block → 0 < length block
some_block {block} is =
    let n : length block ≡ length (is.ends.0 ++ empty_line) = ap length is.ends.1 in
    let m : length (is.ends.0 ++ empty_line) ≡ length is.ends.0 + 4 = length-append is.ends.0 empty_line in
    omega (arith, n, m)

-- no reply is empty
some_reply : {text : List ℕ} {reply : ReceivedReply} → IsReply text reply → 0 < length text
some_reply {text} {reply} is =
    let n : length text ≡ length (is.block ++ reply.body) = ap length is.whole in
    let m : length (is.block ++ reply.body) ≡ length is.block + length reply.body = length-append is.block reply.body in
    let l : 0 < length is.block = some_block is.ends in
    omega (arith, n, m, l)

-- what a reply brought isn't kept
pub explains_unkept : (old mid new : ConnectionValue) (request : Request) (reply : ReceivedReply) (e : FetchError) → IsReplied old mid request reply → Starves mid new e → ExplainsMemory old new request e
explains_unkept old mid new request reply e asks h =
    let trip = asks.trip in
    explains_unread old mid new asks.stream request e asks.unbroken asks.next
    (record { between = trip.between; asks = trip.asks; answers = record { bytes = trip.answers.text; some = some_reply trip.answers.is; read = trip.answers.read } }) h
