-- Why a connection goes no further for now.
use Rattle.std.proofs.Common.{◌≡◌, ℕ, Bool, Option, List, subst}
use Rattle.cache_server.specs.Server.{ServerValue}
use Rattle.service.specs.Sockets.{Cause, Why}
use Rattle.service.specs.Member.{AwaitsEvent, MemberValue, MovesOn, PausesFor}
use Rattle.service.specs.declared.turn.Turn.{Turn}
use Rattle.service.specs.declared.turn.Turn.TheVariants.{Waits}

module _ {S : Type 0} (full dry : S → Type 0) (held : Type 0) (m : MemberValue S) where
  pub pauses_waits : (t : Turn) → PausesFor full dry held t m → t ≡ Waits → AwaitsEvent full dry m
  pauses_waits t pauses is = subst (λ t. PausesFor full dry held t m) is pauses

-- that it is queued makes no difference
pub moves_queued : {S : Type 0} {most : ℕ} (spoke : ℕ → S → List ℕ → List ℕ → Type 0) (over : S → Cause → Type 0) (e : Option Why) (k : ℕ) (old new : ServerValue) (m after : MemberValue S) (queued : Bool)
    → MovesOn spoke over most e k old (record m { queued = queued }) new after → MovesOn spoke over most e k old m new after
moves_queued spoke over e k old new m after queued h = record {
  on = λ opening history entries stands talks. h.on opening history entries stands (record { read = talks.read; sent = talks.sent; said = talks.said; talks = talks.talks });
}
