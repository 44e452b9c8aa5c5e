-- A block has one reply head.
use Rattle.std.proofs.Common.{◌≡◌, ◌≤◌, length, ℕ, List, [], Option, Some, None, map, take, sym, ◌∙◌, ap}
use Rattle.std.specs.Prelude.{IfSome, IfNone}
use Rattle.httparse.specs.Grammar.{ResponseHead, status_code}
use Rattle.httparse.specs.Spans.{IsResponseAt, header_bytes, name_and_value}
use Rattle.httparse.proofs.GrammarLemmas.{response_unique}
use Rattle.http_core.specs.declared.reply_head.ReplyHead.{ReplyHead}
use Rattle.http_core.specs.declared.reply_head.ResponseParts.{ResponseParts}
use Rattle.http_core.specs.Block.{IsBlock}
use Rattle.http_core.specs.Judging.{pairs}
use Rattle.http_core.specs.ReplyHead.{IsReplyHead, IsResponseOf, reply_of}

same_parts : (m n a b : ℕ) (x y : List (List ℕ × List ℕ)) → m ≡ n → a ≡ b → x ≡ y → reply_of m a x ≡ reply_of n b y
same_parts m n a b x y e f g = ap (λ z. reply_of z a x) e ∙ ap (λ z. reply_of n z x) f ∙ ap (reply_of n b) g

-- what it says of the reply, if it is valid
abbrev pub said_by : ResponseHead → Option ReplyHead
said_by h = reply_of h.minor (status_code h) (map name_and_value h.fields)

abbrev pub said_at : List ℕ → ResponseParts → Option ReplyHead
said_at block x = reply_of x.spans.version x.spans.code (map (header_bytes block) (take x.spans.headers x.headers))

says : (block : List ℕ) (x : ResponseParts) (h : ResponseHead) → IsResponseAt block x.headers x.spans h → said_at block x ≡ said_by h
says block x h at = same_parts _ _ _ _ _ _ at.version at.code at.fields

abbrev pub Shows : List ℕ → ResponseParts → Type 0
Shows block x = (h : ResponseHead) × IsResponseOf block h × IsResponseAt block x.headers x.spans h

-- what is shown says what the block says
pub shown_says : (block : List ℕ) (x : ResponseParts) (head : ReplyHead) → Shows block x → IsReplyHead block head → said_at block x ≡ Some head
shown_says block x head (h, is, at) said =
    let same : h ≡ said.response = (response_unique block h said.response [] [] is.0 said.reads.0).0 in
    says block x h at ∙ ap said_by same ∙ said.is

-- what is shown is valid, where it says something
pub valid_head : (o : Option ReplyHead) (block : List ℕ) (x : ResponseParts) → IsBlock block → length block ≤ 16384 → pairs block ≤ 66 → Shows block x
    → o ≡ said_at block x → IfSome o (λ head. IsReplyHead block head)
valid_head None block x b fits few shown e = tt
valid_head (Some head) block x b fits few (h, is, at) e = record { ends = b; fits = fits; few = few; response = h; reads = is; is = sym (says block x h at) ∙ sym e }

pub invalid : (o : Option ReplyHead) (P : ReplyHead → Type 0) → ((head : ReplyHead) → P head → o ≡ Some head) → IfNone o ((head : ReplyHead) → P head → ⊥)
invalid None P f = λ head p. let e : None ≡ Some head = f head p in cc
invalid (Some x) P f = tt

some_is : (a b : ReplyHead) → Some a ≡ Some b → a ≡ b
some_is a b e = cc

-- a block has one reply head
pub reply_head_once : (block : List ℕ) (a b : ReplyHead) → IsReplyHead block a → IsReplyHead block b → a ≡ b
reply_head_once block a b p q =
    let same : p.response ≡ q.response = (response_unique block p.response q.response [] [] p.reads.0 q.reads.0).0 in
    some_is a b (sym p.is ∙ ap said_by same ∙ q.is)
