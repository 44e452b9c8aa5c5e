-- The head of a reply, as a client reads it (RFC 9112, sections 4, 6.3, 9; RFC 9110, section 8.6).
use Rattle.std.specs.Prelude.{◌≡◌, ℕ, ◌==◌, ◌≤◌, nat_lt, List, [], length, map, codes, Option}
use Rattle.std.specs.Prelude.{Some, None, if◌then◌else◌, option_map}
use Rattle.httparse.specs.Grammar.{ResponseHead, ReadsResponse, status_code}
use Rattle.httparse.specs.Spans.{name_and_value}
use Rattle.blob_digest.specs.Body.{greatest_blob}
use Rattle.http_core.specs.declared.reply_head.ReplyHead.{ReplyHead}
use Rattle.http_core.specs.declared.rules.Length.{Length}
use Rattle.http_core.specs.declared.rules.Length.TheVariants.{Absent, Bad, Is}
use Rattle.http_core.specs.Block.{IsBlock}
use Rattle.http_core.specs.Connection.{closes_of}
use Rattle.http_core.specs.Judging.{pairs}
use Rattle.http_core.specs.Rules.{count_of, length_of}

-- the block is the whole of this reply head, which has at most 64 fields
abbrev pub IsResponseOf : List ℕ → ResponseHead → Type 0
IsResponseOf block h = ReadsResponse block h [] × (length h.fields ≤ 64)

-- the length of a reply's body, if it is valid: 204 has none, and alone may leave it out
abbrev pub reply_length : ℕ → Length → Option ℕ
reply_length status Absent = if status == 204 then Some 0 else None
reply_length status Bad = None
reply_length status (Is size) =
    if nat_lt (if status == 204 then 0 else greatest_blob) size then None else Some size

-- What a head of version 1.minor, with the status and the fields, says of the reply, if it is
-- valid: of version 1.1, with no coding of the body, and with one valid length.
unfoldable pub reply_of : ℕ → ℕ → List (List ℕ × List ℕ) → Option ReplyHead
reply_of minor status fields =
    if minor == 0 then None
    else (if nat_lt 0 (count_of (codes "transfer-encoding") fields) then None
    else option_map (λ size. record { status = status; length = size; close = closes_of fields })
    (reply_length status (length_of fields)))

-- the block is cut as a head is, and is that of a reply with this head
pub record IsReplyHead (block : List ℕ) (head : ReplyHead) : Type 0 where
  pub ends : IsBlock block
  pub fits : length block ≤ 16384
  pub few : pairs block ≤ 66
  pub response : ResponseHead
  pub reads : IsResponseOf block response
  pub is : reply_of response.minor (status_code response) (map name_and_value response.fields)
      ≡ Some head
