use Rattle.std.proofs.Common.{◌≡◌, List, [], ◌∷◌, map, length, refl, rules, ap, sym, subst, arith}
use Rattle.http_core.specs.Event.{event_of}
use Rattle.cache_server.specs.Connection.{IsFoundBy}
use Rattle.cache_server.specs.Writing.{StopsTelling}
use Rattle.cache_server.proofs.Serving.{err_and}
use Rattle.cache_server.proofs.Telling.{TellsOn, told_first, told_more, told_so_far, told_stops}
use Rattle.cache_server.proofs.answering.answer_all.Goals as goal

pub loop-event-init : goal.loop-event-init
loop-event-init g c = record { can = tt; ends = tt; pieces = λ whole. whole; told = told_first c.args.cache.now (map event_of c.args.events.items) (map event_of c.into_iter-event-iterator.result.rest.items) (g.W.Outgoing.contents c.args.writer.now) (ap (map event_of) (sym c.into_iter-event-iterator.ensures.into_iter_gives.0)) }

pub loop-event-preserved : goal.loop-event-preserved
loop-event-preserved g c =
    let left = c.next.new.self.rest.items in
    let steps : c.loop-event.event-iterator.rest.items ≡ c.in-Some.event ∷ left = search rules in
    let contents = g.W.Outgoing.contents in
    let on = subst (λ z. TellsOn c.args.cache.now (map event_of c.args.events.items) (map event_of z) (contents c.args.writer.now) (contents c.loop-event.writer) c.loop-event.cache) steps c.loop-event.invariant.told in
    let told = c.in_ok-answer_event.ensures.ok in
    record {
      can = tt;
      ends = tt;
      told = told_more c.args.cache.now c.loop-event.cache c.answer_event.new.cache (map event_of c.args.events.items) (map event_of left) (event_of c.in-Some.event) told.0 (contents c.args.writer.now) (contents c.loop-event.writer) (contents c.answer_event.new.writer) on told.1 told.2;
      pieces = λ whole. c.answer_event.ensures.pieces (c.loop-event.invariant.pieces whole);
    }

pub returns-in_err-answer_event-clause-err : goal.returns-in_err-answer_event-clause-err
returns-in_err-answer_event-clause-err g c =
    let left = c.next.new.self.rest.items in
    let steps : c.loop-event.event-iterator.rest.items ≡ c.in-Some.event ∷ left = search rules in
    let contents = g.W.Outgoing.contents in
    let on = subst (λ z. TellsOn c.args.cache.now (map event_of c.args.events.items) (map event_of z) (contents c.args.writer.now) (contents c.loop-event.writer) c.loop-event.cache) steps c.loop-event.invariant.told in
    let e = c.in_err-answer_event.field-0.0 in
    err_and (StopsTelling c.args.cache.now (map event_of c.args.events.items) (contents c.args.writer.now) (contents c.answer_event.new.writer) c.answer_event.new.cache) c.from_residual.result e c.from_residual.ensures.1
    (told_stops c.args.cache.now c.loop-event.cache c.answer_event.new.cache (map event_of c.args.events.items) (map event_of left) (event_of c.in-Some.event) (contents c.args.writer.now) (contents c.loop-event.writer) (contents c.answer_event.new.writer) e on c.in_err-answer_event.ensures.err)

nothing_left : {X : Type 0} (xs : List X) → length xs ≡ 0 → xs ≡ []
nothing_left [] e = refl
nothing_left (x ∷ xs) e = absurd (omega (arith, e))

pub returns-clause-ok : goal.returns-clause-ok
returns-clause-ok g c =
    let none = nothing_left c.loop-event.event-iterator.rest.items (omega (arith, c.in-None.ensures.steps.0, c.loop-event.event-iterator.rest.ok.0)) in
    let on = subst (λ z. TellsOn c.args.cache.now (map event_of c.args.events.items) (map event_of z) (g.W.Outgoing.contents c.args.writer.now) (g.W.Outgoing.contents c.loop-event.writer) c.loop-event.cache) none c.loop-event.invariant.told in
    told_so_far c.args.cache.now c.loop-event.cache c.loop-event.cache (map event_of c.args.events.items) [] (g.W.Outgoing.contents c.args.writer.now) (g.W.Outgoing.contents c.loop-event.writer) on refl

pub returns-in_err-answer_event-clause-fault : goal.returns-in_err-answer_event-clause-fault
returns-in_err-answer_event-clause-fault g c =
    err_and (IsFoundBy ⊥ (g.W.Outgoing.broken c.answer_event.new.writer)) c.from_residual.result c.in_err-answer_event.field-0.0 c.from_residual.ensures.1 c.in_err-answer_event.ensures.fault
