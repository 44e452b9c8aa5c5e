use Rattle.std.proofs.Common.{Some, None, refl, sym, subst}
use Rattle.std.specs.Prelude.{option_map}
use Rattle.http_core.specs.Event.{event_of}
use Rattle.cache_server.specs.Answer.{text_of}
use Rattle.cache_server.specs.Server.{ServerValue}
use Rattle.cache_server.specs.Sessions.{FeedsFirstAt}
use Rattle.cache_server.proofs.Turning.{first_answered, closes_fed, open_before}
use Rattle.cache_server.proofs.server.Server.turn.Goals as goal

pub returns-in-Err-clause-memory : goal.returns-in-Err-clause-memory
returns-in-Err-clause-memory g c =
    open_before c.args.self.now c.first.new.self c.args.connection c.args.piece.now c.in_ok-taken.taken (event_of c.in-Some.event)
    (subst (λ z. FeedsFirstAt c.args.self.now c.args.connection c.args.piece.now c.in_ok-taken.taken (option_map event_of z) c.first.new.self) c.in-Some.is c.in_ok-taken.ensures.ok)

pub returns-in_default-clause-ok : goal.returns-in_default-clause-ok
returns-in_default-clause-ok g c =
    first_answered c.args.self.now c.first.new.self c.first.new.self c.args.connection c.args.piece.now c.in_ok-taken.taken None None
    (subst (λ z. FeedsFirstAt c.args.self.now c.args.connection c.args.piece.now c.in_ok-taken.taken (option_map event_of z) c.first.new.self) c.in_default.is c.in_ok-taken.ensures.ok) refl refl refl

pub returns-in-Ok-clause-ok : goal.returns-in-Ok-clause-ok
returns-in-Ok-clause-ok g c =
    let mid : ServerValue = record { cache = c.self.inside.cache; prefix = c.self.inside.prefix; sessions = c.self.inside.sessions.entries } in
    let first : FeedsFirstAt c.args.self.now c.args.connection c.args.piece.now c.in_ok-taken.taken (Some (event_of c.in-Some.event)) c.first.new.self = subst (λ z. FeedsFirstAt c.args.self.now c.args.connection c.args.piece.now c.in_ok-taken.taken (option_map event_of z) c.first.new.self) c.in-Some.is c.in_ok-taken.ensures.ok in
    first_answered c.args.self.now mid _ c.args.connection c.args.piece.now c.in_ok-taken.taken (Some (event_of c.in-Some.event)) (Some (text_of c.in-Ok.answer))
    (subst (FeedsFirstAt c.args.self.now c.args.connection c.args.piece.now c.in_ok-taken.taken (Some (event_of c.in-Some.event))) (sym c.self.view_is) first) refl refl c.in-Ok.ensures.ok

pub returns-in-Err-clause-err : goal.returns-in-Err-clause-err
returns-in-Err-clause-err g c =
    let mid : ServerValue = record { cache = c.self.inside.cache; prefix = c.self.inside.prefix; sessions = c.self.inside.sessions.entries } in
    let served : ServerValue = record { cache = c.answer_to.new.self; prefix = c.self.inside.prefix; sessions = c.self.inside.sessions.entries } in
    closes_fed c.args.self.now mid served c.close.new.self c.args.connection c.args.piece.now c.in_ok-taken.taken (option_map event_of c.in_ok-taken.event)
    (subst (FeedsFirstAt c.args.self.now c.args.connection c.args.piece.now c.in_ok-taken.taken (option_map event_of c.in_ok-taken.event)) (sym c.self.view_is) c.in_ok-taken.ensures.ok) c.in-Err.ensures.err refl refl c.close.ensures
