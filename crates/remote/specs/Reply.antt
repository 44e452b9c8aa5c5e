-- Replies in a stream (RFC 9112, sections 6 and 9.3).
use Rattle.std.specs.Prelude.{◌≡◌, ℕ, ◌<◌, ◌≤◌, ◌⊎◌, Bool, List, ◌++◌, length}
use Rattle.http_core.specs.Block.{HasNoBlock, IsBlock}
use Rattle.http_core.specs.ReplyHead.{IsReplyHead}
use Rattle.http_core.specs.declared.reply_head.ReplyHead.{ReplyHead}
use Rattle.remote.specs.declared.reply.Reply.{Reply}
use Rattle.remote.specs.Flow.{Flow, MayHaveStopped, Sends, Receives, ReceivesSome}

pub record ReceivedReply : Type 0 where
  pub status : ℕ
  pub body : List ℕ
  pub close : Bool

abbrev pub reply_value : {A : Type 0} → Reply A → ReceivedReply
reply_value r = record { status = r.status; body = r.body.items; close = r.close }

-- The bytes, and none of them too many, are the reply: a block, whose head is valid, and a body of
-- the length that it says.
pub record IsReply (bytes : List ℕ) (reply : ReceivedReply) : Type 0 where
  pub block : List ℕ
  pub whole : bytes ≡ block ++ reply.body
  pub ends : IsBlock block
  pub fits : length block ≤ 16384
  pub head : IsReplyHead block
      (record { status = reply.status; length = length reply.body; close = reply.close })

-- the next reply in the stream was read, and nothing else
pub record NextReply (old new : Flow) (reply : ReceivedReply) : Type 0 where
  pub text : List ℕ
  pub is : IsReply text reply
  pub read : Receives old new text

-- the one request was sent, and then the next reply in the stream was read
pub record RoundTrip (old new : Flow) (request : List ℕ) (reply : ReceivedReply) : Type 0 where
  pub between : Flow
  pub asks : Sends old between request
  pub answers : NextReply between new reply

-- no reply begins so: a block without a valid head, or 16,384 bytes in which no block ends
abbrev pub BeginsNoReply : List ℕ → Type 0
BeginsNoReply bytes =
    (IsBlock bytes × ((head : ReplyHead) → IsReplyHead bytes head → ⊥))
    ⊎ ((length bytes ≡ 16384) × HasNoBlock bytes)

-- what was read begins no reply
pub record NextIsNoReply (old new : Flow) : Type 0 where
  pub text : List ℕ
  pub bad : BeginsNoReply text
  pub read : Receives old new text

-- the one request was sent, and then what begins no reply was read
pub record RoundTripForNone (old new : Flow) (request : List ℕ) : Type 0 where
  pub between : Flow
  pub asks : Sends old between request
  pub answers : NextIsNoReply between new

-- A valid head and less than the body that it asks for.
pub record IsHeadAndPart (bytes : List ℕ) : Type 0 where
  pub block : List ℕ
  pub body : List ℕ
  pub head : ReplyHead
  pub whole : bytes ≡ block ++ body
  pub ends : IsBlock block
  pub valid : IsReplyHead block head
  pub short : length body < head.length

-- replies begin so: no block ends in the bytes so far, or the body after the head isn't whole
abbrev pub IsPartOfReply : List ℕ → Type 0
IsPartOfReply bytes = ((length bytes < 16384) × HasNoBlock bytes) ⊎ IsHeadAndPart bytes

-- part of the next reply was read, and nothing else, and then no byte came
pub record NextInPart (old new : Flow) : Type 0 where
  pub text : List ℕ
  pub part : IsPartOfReply text
  pub read : Receives old new text
  pub stopped : MayHaveStopped new

-- the one request was sent, and then part of the next reply in the stream was read
pub record RoundTripInPart (old new : Flow) (request : List ℕ) : Type 0 where
  pub between : Flow
  pub asks : Sends old between request
  pub answers : NextInPart between new

-- the one request was sent, and then some bytes were read
pub record RoundTripForSome (old new : Flow) (request : List ℕ) : Type 0 where
  pub between : Flow
  pub asks : Sends old between request
  pub answers : ReceivesSome between new

-- a stream begins with one reply at most
abbrev pub NextIsOne : Type 0
NextIsOne =
    (a x b y : List ℕ) (r s : ReceivedReply) → IsReply a r → IsReply b s → a ++ x ≡ b ++ y
    → (a ≡ b) × (r ≡ s)
