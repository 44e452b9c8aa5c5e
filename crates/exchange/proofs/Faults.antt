-- What a client that is refused is told.
use Rattle.std.proofs.Common.{◌≡◌, ℕ, ◌+◌, ◌≤◌, inl, inr, false, Some, List, [], ◌∷◌, ◌++◌, length, map, refl, sym, ◌∙◌, ap, subst, append_assoc, arith}
use Rattle.std.specs.List.{AllByRecursion}
use Rattle.std.proofs.lemmas.List.{append_cancel_left, append-nil}
use Rattle.blob_digest.specs.Body.{greatest_blob}
use Rattle.http_core.specs.Event.{AskValue, EventValue, Asked}
use Rattle.http_core.specs.Reply.{ReplyValue, reply_text}
use Rattle.http_core.specs.ReplyHead.{IsReplyHead}
use Rattle.http_core.specs.Stream.{Cuts}
use Rattle.http_core.proofs.Blocks.{no_block_within, one_block}
use Rattle.http_core.proofs.Cutting.{cut_once}
use Rattle.cache_server.specs.Answering.{answered}
use Rattle.cache_server.specs.Cache.{CacheValue, applied}
use Rattle.remote.specs.Flow.{Flow}
use Rattle.remote.specs.declared.fault.Fault.{Fault}
use Rattle.remote.specs.declared.fault.Fault.TheVariants.{BadReply, Status}
use Rattle.remote.specs.Line.{ComesBadly, ComesStatus, ConnectionValue, IsConnectionFault, IsReplied, Request, request_bytes}
use Rattle.remote.specs.Reply.{BeginsNoReply, IsReply, ReceivedReply}
use Rattle.exchange.specs.Asking.{Exchange, IsAddress, IsServable, ask_for, event_for}
use Rattle.exchange.specs.Laws.{FaultsAreTold}
use Rattle.exchange.specs.Serving.{IsServed, Other, Own, Work, own_events, own_replies, own_text, reply_by}
use Rattle.exchange.proofs.Joining.{clients_read, first_event}
use Rattle.exchange.proofs.Machines.{step_plain}
use Rattle.exchange.proofs.Streams.{answers_read, requests_cut}
use Rattle.exchange.proofs.Tracing.{appended, consumed, one_more, some_list}

-- ---- a status

-- the connection, as it would be after the reply
abbrev replied : ConnectionValue → Flow → ReceivedReply → ConnectionValue
replied old flow reply = record old { flow = flow; shut = reply.close }

status_told : (old new : ConnectionValue) (request : Request) (opening : CacheValue) (work : List Work) (status : ℕ) → IsAddress old.prefix old.host → IsServable request
    → ComesStatus old new request status → IsServed old.prefix opening work old.flow new.flow → map (λ (r : ReceivedReply). r.status) (own_replies opening work) ≡ status ∷ []
status_told old new request opening work status a is c s =
    let x : Exchange = record { request = request; reply = c.reply } in
    let asks : IsReplied old (replied old new.flow c.reply) request c.reply =
    record { unbroken = c.unbroken; stream = c.stream; next = c.next; trip = c.trip; stays = c.unbroken; closes = refl; failures = refl; fault = refl; server = record { host = refl; prefix = refl } } in
    let told = (clients_read old (replied old new.flow c.reply) (x ∷ []) opening work a (is, tt) (replied old new.flow c.reply, asks, refl) s).1 in
    ap (map (λ (r : ReceivedReply). r.status)) told ∙ ap (λ z. z ∷ []) c.is

-- ---- no reply

-- what begins no reply isn't at the front of a stream that begins with one
begins_one : (text more answer rest : List ℕ) (reply : ReceivedReply) → BeginsNoReply text → IsReply answer reply → text ++ more ≡ answer ++ rest → ⊥
begins_one text more answer rest reply (inl (ends, none)) is e =
    let ahead : text ++ more ≡ is.block ++ (reply.body ++ rest) = e ∙ ap (λ z. z ++ rest) is.whole ∙ append_assoc is.block reply.body rest in
    let same : text ≡ is.block = one_block text more is.block (reply.body ++ rest) ends is.ends ahead in
    none _ (subst (λ z. IsReplyHead z _) (sym same) is.head)
begins_one text more answer rest reply (inr (long, open_)) is e =
    let ahead : text ++ more ≡ is.block ++ (reply.body ++ rest) = e ∙ ap (λ z. z ++ rest) is.whole ∙ append_assoc is.block reply.body rest in
    let fits = is.fits in
    no_block_within text more is.block (reply.body ++ rest) open_ is.ends ahead (omega arith)

-- a text that begins with a reply
record HasFirst (text : List ℕ) : Type 0 where
  pub answer : List ℕ
  pub rest : List ℕ
  pub reply : ReceivedReply
  pub is : IsReply answer reply
  pub whole : text ≡ answer ++ rest

no_front : (told later text more : List ℕ) → BeginsNoReply text → HasFirst told → text ++ more ≡ told ++ later → ⊥
no_front told later text more bad one e =
    begins_one text more one.answer (one.rest ++ later) one.reply bad one.is (e ∙ ap (λ z. z ++ later) one.whole ∙ append_assoc one.answer one.rest later)

-- a client that asks once is sent one reply first
one_told : (c : CacheValue) (work : List Work) (request : Request) → own_events work ≡ event_for request ∷ [] → AllByRecursion (λ (reply : ReceivedReply). length reply.body ≤ greatest_blob) (own_replies c work)
    → HasFirst (own_text c work)
unfolding own_text own_replies answered
one_told c [] request e all = absurd cc
one_told c (Other event ∷ work) request e all = one_told (answered c event).1 work request e all
one_told c (Own event ∷ work) request e (small, all) =
    let ask : AskValue = ask_for request.area request.hash request.body in
    let reply : ReplyValue = (applied c ask).0 in
    let same : event ≡ Asked ask false = first_event event (event_for request) (own_events work) [] e in
    let fits : length reply.body ≤ greatest_blob = subst (λ (z : EventValue). length (reply_by c z).body ≤ greatest_blob) same small in
    record {
      answer = reply_text reply false;
      rest = own_text (answered c event).1 work;
      reply = record { status = reply.status; body = reply.body; close = false };
      is = answers_read reply.status reply.body false (step_plain c.state ask) fits;
      whole = ap (λ (z : EventValue). (answered c z).0 ++ own_text (answered c event).1 work) same;
    }

none_bad : (old new : ConnectionValue) (request : Request) (opening : CacheValue) (work : List Work) → IsAddress old.prefix old.host → IsServable request
    → ComesBadly old new request → IsServed old.prefix opening work old.flow new.flow → AllByRecursion (λ (reply : ReceivedReply). length reply.body ≤ greatest_blob) (own_replies opening work) → ⊥
none_bad old new request opening work a is c s small = elim c.next.is [
  | inl here ↦ go here.1
  | inr anew ↦ (
      let more : new.flow.openings ≡ Some (s.openings + 1) = openings ∙ one_more old.flow.openings c.stream.openings s.openings anew.1.once s.opened_before in
      let no : s.openings + 1 ≡ s.openings = some_count (s.openings + 1) s.openings (sym more ∙ s.opened_after) in
      absurd (omega arith)
      )
]
  where
    some_count : (m n : ℕ) → Some m ≡ Some n → m ≡ n
    some_count m n e = cc

    openings : new.flow.openings ≡ c.stream.openings
    openings = c.trip.answers.read.stream.openings ∙ c.trip.asks.stream.openings

    go : c.stream ≡ old.flow → ⊥
    go same =
        let bytes : List ℕ = request_bytes old request in
        let went : c.trip.between.sent ≡ Some (s.earlier ++ bytes) = appended c.stream.sent c.trip.between.sent bytes s.earlier c.trip.asks.sent (ap (λ (f : Flow). f.sent) same ∙ s.sent_before) in
        let whole : s.earlier ++ s.stream ≡ s.earlier ++ bytes = some_list (s.earlier ++ s.stream) (s.earlier ++ bytes) (sym s.sent_after ∙ c.trip.answers.read.sent ∙ went) in
        let stream : s.stream ≡ bytes ++ [] = append_cancel_left s.earlier s.stream bytes whole ∙ sym (append-nil bytes) in
        let asked : Cuts old.prefix s.stream (event_for request ∷ []) (Some []) =
        subst (λ z. Cuts old.prefix z (event_for request ∷ []) (Some [])) (sym stream) (requests_cut old.prefix old.host (request ∷ []) a (is, tt)) in
        let events : own_events work ≡ event_for request ∷ [] = (cut_once old.prefix s.stream (own_events work) (event_for request ∷ []) s.left (Some []) s.cut asked).0 in
        let one = one_told opening work request events small in
        let back = consumed c.trip.between.coming new.flow.coming c.trip.answers.text (own_text opening work ++ s.later) c.trip.answers.read.coming (c.trip.asks.coming ∙ ap (λ (f : Flow). f.coming) same ∙ s.coming) in
        no_front (own_text opening work) s.later c.trip.answers.text back.0 c.trip.answers.bad one (sym back.2)

-- ---- both

same_fault : (a b : Fault) → Some a ≡ Some b → a ≡ b
same_fault a b e = cc

pub faults_told : FaultsAreTold
faults_told old new request opening work a is r s small =
    let counted = r.failed refl in (
      λ e. none_bad old new request opening work a is (subst (IsConnectionFault old new request) (same_fault counted.fault BadReply (sym counted.kept ∙ e)) counted.is) s small,
      λ status e. status_told old new request opening work status a is (subst (IsConnectionFault old new request) (same_fault counted.fault (Status status) (sym counted.kept ∙ e)) counted.is) s,
    )
