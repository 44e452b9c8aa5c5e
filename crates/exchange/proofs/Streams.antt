-- Streams of requests, and answers at the front of a stream.
use Rattle.std.proofs.Common.{◌≡◌, ℕ, ◌<◌, ◌≤◌, ◌==◌, inr, Bool, true, Option, Some, None, List, [], ◌∷◌, ◌++◌, length, refl, sym, ◌∙◌, ap, subst, append_assoc, length-append, arith}
use Rattle.std.specs.Prelude.{IfSome, is_some}
use Rattle.hex.specs.Hex.{encode_lower}
use Rattle.blob_digest.specs.Body.{greatest_blob}
use Rattle.blob_digest.specs.DigestValue.{IsHash}
use Rattle.blob_digest.proofs.HexTexts.{hash_text-encode}
use Rattle.http_core.specs.declared.event.Area.{Area}
use Rattle.http_core.specs.declared.event.Area.TheVariants.{Ac, Cas, Pin, Unpin}
use Rattle.http_core.specs.Event.{is_served}
use Rattle.http_core.specs.Block.{IsBlock}
use Rattle.http_core.specs.Reply.{head_text, reply_text}
use Rattle.http_core.specs.Request.{request_text}
use Rattle.http_core.specs.Rules.{area_text, target_text}
use Rattle.http_core.specs.Stream.{Cuts, IsRequest}
use Rattle.http_core.proofs.Blocks.{one_block}
use Rattle.http_core.proofs.Cutting.{empty_partial}
use Rattle.http_core.specs.ReplyHead.{IsReplyHead}
use Rattle.remote.specs.Line.{Request}
use Rattle.remote.specs.Reply.{IsReply, ReceivedReply}
use Rattle.remote.proofs.Replies.{one_reply}
use Rattle.exchange.specs.Asking.{IsAddress, IsServable, event_for, requests_text}
use Rattle.exchange.specs.Laws.{AnswersAreRead, MayHaveBody, RequestsAreUnderstood}
use Rattle.exchange.proofs.Bytes.{host_visible, prefix_short, target_visible}
use Rattle.exchange.proofs.Asking.{FitsHost, FitsTarget, get_completes, put_completes}
use Rattle.exchange.proofs.Replying.{IsPlainStatus, head_parts, is_reply_head, only_small, reply_block, reply_is_block}

-- ---- requests

area_short : (area : Area) → length (area_text area) ≤ 7
area_short Ac = omega arith
area_short Cas = omega arith
area_short Pin = omega arith
area_short Unpin = omega arith

area_some : (area : Area) → 0 < length (area_text area)
area_some Ac = omega arith
area_some Cas = omega arith
area_some Pin = omega arith
area_some Unpin = omega arith

fits_target : (prefix host : List ℕ) (area : Area) (hash : List ℕ) → IsAddress prefix host → IsHash hash → FitsTarget (target_text prefix area hash)
fits_target prefix host area hash a is =
    let text = (hash_text-encode hash is).len in
    let few = area_short area in
    let some = area_some area in
    let short = prefix_short prefix a.prefix_is in
    let e = length-append prefix (area_text area ++ encode_lower hash) in
    let f = length-append (area_text area) (encode_lower hash) in
    record { visible = target_visible prefix area hash a.prefix_is is; some = omega arith; few = omega arith }

fits_host : (prefix host : List ℕ) → IsAddress prefix host → FitsHost host
fits_host prefix host a = record { visible = host_visible host a.host_is; few = a.host_fits }

pub one_request : (prefix host : List ℕ) (r : Request) → IsAddress prefix host → IsServable r → IsRequest prefix (request_text prefix host r.area r.hash r.body) (event_for r)
one_request prefix host r a s = by r.body s.area s.fits
  where
    by : (body : Option (List ℕ)) → is_served (is_some body) r.area ≡ true → IfSome body (λ b. length b ≤ greatest_blob)
        → IsRequest prefix (request_text prefix host r.area r.hash body) (event_for (record { area = r.area; hash = r.hash; body = body }))
    by None served fits = get_completes prefix host r.area r.hash (fits_target prefix host r.area r.hash a s.hash) (fits_host prefix host a) s.hash served
    by (Some body) served fits = put_completes prefix host r.area r.hash body (fits_target prefix host r.area r.hash a s.hash) (fits_host prefix host a) s.hash served fits

pub nothing_cut : (prefix : List ℕ) → Cuts prefix [] [] (Some [])
unfolding Cuts
nothing_cut prefix = (empty_partial prefix, refl)

pub requests_cut : RequestsAreUnderstood
unfolding Cuts
requests_cut prefix host [] a all = (empty_partial prefix, refl)
requests_cut prefix host (r ∷ requests) a (is, all) =
    (request_text prefix host r.area r.hash r.body, requests_text prefix host requests, refl, inr (one_request prefix host r a is), inr (refl, requests_cut prefix host requests a all))

-- ---- replies

plain : (status : ℕ) → MayHaveBody status → IsPlainStatus status
plain status m = record { low = m.low; high = m.high; other = (let o = m.other in grind arith) }

pub answers_read : AnswersAreRead
unfolding reply_text
answers_read status body close m small =
    let block : List ℕ = head_text status (length body) close in
    let e : block ≡ reply_block status (length body) (status == 405) close = head_parts status (length body) close in
    let is : IsReplyHead (reply_block status (length body) (status == 405) close) (record { status = status; length = length body; close = close }) = is_reply_head status (length body) (status == 405) close (plain status m) small in
    record {
      block = block;
      whole = refl;
      ends = subst IsBlock (sym e) (reply_is_block status (length body) (status == 405) close);
      fits = subst (λ b. length b ≤ 16384) (sym e) is.fits;
      head = subst (λ b. IsReplyHead b (record { status = status; length = length body; close = close })) (sym e) is;
    }

-- what is read at the front of a stream that begins with an answer is that answer
pub record IsRead (reply told : ReceivedReply) (text answer : List ℕ) : Type 0 where
  pub same : reply ≡ told
  pub all : text ≡ answer

pub front_read : (status : ℕ) (body : List ℕ) (close : Bool) (rest text more : List ℕ) (reply : ReceivedReply) → MayHaveBody status → IsReply text reply
    → text ++ more ≡ reply_text (record { status = status; body = body }) close ++ rest
    → IsRead reply (record { status = status; body = body; close = close }) text (reply_text (record { status = status; body = body }) close)
unfolding reply_text
front_read status body close rest text more reply m is e =
    let n : ℕ = length body in
    let block : List ℕ = reply_block status n (status == 405) close in
    let parts : head_text status n close ≡ block = head_parts status n close in
    let ahead : is.block ++ (reply.body ++ more) ≡ block ++ (body ++ rest) =
    sym (append_assoc is.block reply.body more) ∙ ap (λ z. z ++ more) (sym is.whole) ∙ e ∙ append_assoc (head_text status n close) body rest ∙ ap (λ z. z ++ (body ++ rest)) parts in
    let same : is.block ≡ block = one_block is.block (reply.body ++ more) block (body ++ rest) is.ends (reply_is_block status n (status == 405) close) ahead in
    let small : n ≤ greatest_blob = only_small status n (status == 405) close _ (plain status m) (subst (λ b. IsReplyHead b _) same is.head) in
    let told = one_reply text more (reply_text (record { status = status; body = body }) close) rest reply (record { status = status; body = body; close = close }) is (answers_read status body close m small) e in
    record { same = told.1; all = told.0 }
