-- Replies, as they are read.
use Rattle.std.proofs.Common.{◌≡◌, ℕ, ◌<◌, ◌≤◌, ◌++◌, List, [], inl, inr, length, append_assoc, refl, sym, ap, subst, ◌∙◌}
use Rattle.std.specs.Prelude.{Result, Ok, Err, IfErr, IsErrAnd}
use Rattle.http_core.specs.Block.{HasNoBlock, IsBlock}
use Rattle.http_core.specs.ReplyHead.{IsReplyHead}
use Rattle.http_core.specs.declared.reply_head.ReplyHead.{ReplyHead}
use Rattle.http_core.proofs.Blocks.{one_block}
use Rattle.http_core.proofs.Lists.{same_fronts}
use Rattle.http_core.proofs.Replies.{reply_head_once}
use Rattle.std.proofs.lemmas.List.{append_cancel_left}
use Rattle.remote.specs.Flow.{Flow, MayHaveStopped, Receives}
use Rattle.remote.specs.Reply.{ReceivedReply, IsReply, NextReply, NextInPart}
use Rattle.remote.specs.Steps.{ReceivesFewer}
use Rattle.remote.specs.declared.fault.Refusal.TheVariants.{Io, BadReply, Memory}
use Rattle.remote.proofs.Flows.{receives_then, receives_no_more}

-- a block was read, and then the body that its head asks for
pub next_reply : (old mid new : Flow) (block shown body : List ℕ) (head : ReplyHead) → Receives old mid block → Receives mid new body
    → IsBlock block → length block ≤ 16384 → shown ≡ block → IsReplyHead shown head → length body ≡ head.length
    → NextReply old new (record { status = head.status; body = body; close = head.close })
next_reply old mid new block shown body head first second ends fits same valid size = record {
  text = block ++ body;
  is = record {
    block = block;
    whole = refl;
    ends = ends;
    fits = fits;
    head = subst (λ n. IsReplyHead block (record { status = head.status; length = n; close = head.close })) (sym size) (subst (λ b. IsReplyHead b head) same valid);
  };
  read = receives_then old mid new block body first second;
}

head_of : ReceivedReply → ReplyHead
head_of r = record { status = r.status; length = length r.body; close = r.close }

value_of : ReplyHead → List ℕ → ReceivedReply
value_of h body = record { status = h.status; body = body; close = h.close }

-- at the front of a stream stands one reply at most
pub one_reply : (a x b y : List ℕ) (r s : ReceivedReply) → IsReply a r → IsReply b s → a ++ x ≡ b ++ y → (a ≡ b) × (r ≡ s)
unfolding head_of value_of
one_reply a x b y r s p q e =
    let f : p.block ++ (r.body ++ x) ≡ q.block ++ (s.body ++ y) = sym (append_assoc p.block r.body x) ∙ ap (λ z. z ++ x) (sym p.whole) ∙ e ∙ ap (λ z. z ++ y) q.whole ∙ append_assoc q.block s.body y in
    let k : p.block ≡ q.block = one_block p.block (r.body ++ x) q.block (s.body ++ y) p.ends q.ends f in
    let h : head_of r ≡ head_of s = reply_head_once p.block (head_of r) (head_of s) p.head (subst (λ z. IsReplyHead z (head_of s)) (sym k) q.head) in
    let g : p.block ++ (r.body ++ x) ≡ p.block ++ (s.body ++ y) = f ∙ ap (λ z. z ++ (s.body ++ y)) (sym k) in
    let l : length r.body ≡ length s.body = ap (λ z. z.length) h in
    let m : r.body ≡ s.body = same_fronts r.body x s.body y (append_cancel_left p.block (r.body ++ x) (s.body ++ y) g) l in
    (p.whole ∙ ap (λ z. z ++ r.body) k ∙ ap (λ z. q.block ++ z) m ∙ sym q.whole, ap (λ z. value_of z r.body) h ∙ ap (value_of (head_of s)) m)

pub bad_io : BadReply ≡ Io → ⊥
bad_io e = cc

pub bad_memory : BadReply ≡ Memory → ⊥
bad_memory e = cc

-- the stream failed within a body
pub reply_in_part : (old mid new : Flow) (block shown : List ℕ) (head : ReplyHead) (size : ℕ) → Receives old mid block → IsBlock block → shown ≡ block → IsReplyHead shown head → size ≡ head.length
    → ReceivesFewer mid new size → MayHaveStopped new → NextInPart old new
reply_in_part old mid new block shown head size first ends same valid is (body, short, second) stopped = record {
  text = block ++ body;
  part = inr (record {
    block = block;
    body = body;
    head = head;
    whole = refl;
    ends = ends;
    valid = subst (λ b. IsReplyHead b head) same valid;
    short = subst (λ n. length body < n) is short;
  });
  read = receives_then old mid new block body first second;
  stopped = stopped;
}

-- the stream failed within a block
pub block_in_part : (old mid new : Flow) (block : List ℕ) → Receives old mid block → Receives mid new [] → MayHaveStopped new → length block < 16384 → HasNoBlock block → NextInPart old new
block_in_part old mid new block first none stopped short open_ = record { text = block; part = inl (short, open_); read = receives_no_more old mid new block first none; stopped = stopped }

-- an error that is handed on
pub told : {T E : Type 0} (r : Result T E) (e : E) (P : E → Type 0) → IsErrAnd r (λ x. x ≡ e) → P e → IfErr r P
told (Ok x) e P h p = tt
told (Err x) e P h p = subst P (sym h) p
