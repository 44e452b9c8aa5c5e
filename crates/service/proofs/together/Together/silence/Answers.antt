use Rattle.std.proofs.Common.{◌≡◌, Bool, Option, Some, None, IfSome, IsTrue, sym}
use Rattle.cache_server.specs.Server.{IsOpenAt, ServerValue, session_at}
use Rattle.service.specs.Member.{MemberValue}
use Rattle.service.specs.Sockets.{Cause, Why}
use Rattle.service.specs.Talks.{IsReason}
use Rattle.std.specs.Prelude.{Ok, Err, ℕ, List}
use Rattle.std.proofs.Common.{inl, inr}
use Rattle.service.specs.Together.{MayEndAt, Members, member_at}
use Rattle.service.proofs.together.Together.silence.Goals as goal

-- why it may end, where the server says that no more can be answered
by_session : (over : Cause → Type 0) (P Q : Type 0) (left unsent : List ℕ) (why : Why) → (P → Q) → IsReason over P left unsent why → IsReason over Q left unsent why
by_session over P Q left unsent (Ok done) f (inl all) = inl all
by_session over P Q left unsent (Ok done) f (inr (shut, o, sent)) = inr (f shut, o, sent)
by_session over P Q left unsent (Err e) f h = h

at : {S : Type 0} (over : S → Cause → Type 0) (k : ℕ) (server : ServerValue) (members : Members S) (m : MemberValue S) (is_open : Bool) (r : Option Why)
    → member_at members k ≡ Some m → (IsOpenAt (session_at server k) → IsTrue is_open) → IfSome r (λ why. IsReason (over m.stream) (IsTrue is_open → ⊥) m.left m.unsent why)
    → IfSome r (λ why. MayEndAt over k server members why)
at over k server members m is_open (Some why) held told may = record { m = m; held = held; may = by_session (over m.stream) (IsTrue is_open → ⊥) (IsOpenAt (session_at server k) → ⊥) m.left m.unsent why (λ f o. f (told o)) may }
at over k server members m is_open None held told may = may

pub returns-in-Some-clause-may : goal.returns-in-Some-clause-may
returns-in-Some-clause-may g c = at g.S.Peer.over c.args.number c.args.server.now c.args.self.now.members.entries c.in-Some.member.now c.is_open-is_open.result c.silence.result (sym c.in-Some.ensures.value) c.is_open-is_open.ensures.1 c.silence.ensures.reason
