use Rattle.std.proofs.Common.{◌≡◌, ap, ◌∙◌, subst, arith, ◌++◌, ◌∷◌, [], map, take, ◌+◌}
use Rattle.std.specs.Prelude.{option_map, option_to_list}
use Rattle.http_core.specs.Event.{EventValue, event_of}
use Rattle.http_core.specs.Session.{Stands, Feeds}
use Rattle.http_core.proofs.Pieces.{on_err, piece_fed, piece_done, valid_more, events_pushed, nothing_more}
use Rattle.http_core.proofs.session.Session.cut.Goals as goal

some_is_none : {X : Type 0} (x : EventValue) → x ∷ [] ≡ [] → X
some_is_none x e = cc

pub returns-in_err-taken-clause-memory : goal.returns-in_err-taken-clause-memory
returns-in_err-taken-clause-memory g c =
    on_err c.from_residual.result (record { opened = λ shut. c.in_err-taken.ensures.memory.opened (c.loop-at.invariant.closed shut).0; some = omega (arith, c.loop-at-test.true) })

pub returns-in_err-push-clause-memory : goal.returns-in_err-push-clause-memory
returns-in_err-push-clause-memory g c =
    let fed : Feeds c.loop-at.self (take c.in_ok-taken.taken c.split_at.result.1.now) (event_of c.in-Some.event ∷ []) c.take_first.new.self = subst (λ z. Feeds c.loop-at.self (take c.in_ok-taken.taken c.split_at.result.1.now) (option_to_list (option_map event_of z)) c.take_first.new.self) c.in-Some.is c.in_ok-taken.ensures.ok.feeds in
    on_err c.from_residual-in_err-push.result (record { opened = λ shut. some_is_none (event_of c.in-Some.event) (fed.closed (c.loop-at.invariant.closed shut).0).1; some = omega (arith, c.loop-at-test.true) })

pub loop-at-preserved-in-Continue-branch-2 : goal.loop-at-preserved-in-Continue-branch-2
loop-at-preserved-in-Continue-branch-2 g c =
    let fed : Feeds c.loop-at.self (take c.in_ok-taken.taken c.split_at.result.1.now) (event_of c.in-Some.event ∷ []) c.take_first.new.self = subst (λ z. Feeds c.loop-at.self (take c.in_ok-taken.taken c.split_at.result.1.now) (option_to_list (option_map event_of z)) c.take_first.new.self) c.in-Some.is c.in_ok-taken.ensures.ok.feeds in
    record {
      within = omega (arith, c.in_ok-taken.ensures.ok.within, c.split_at.ensures.back_len);
      prefix = c.in_ok-taken.ensures.prefix ∙ c.loop-at.invariant.prefix;
      closed = λ shut. some_is_none (event_of c.in-Some.event) (fed.closed (c.loop-at.invariant.closed shut).0).1;
      valid = valid_more c.loop-at.events.items c.push.new.self.items c.in-Some.event c.in_ok-push.ensures.items c.loop-at.invariant.valid fed.valid.0;
      stands = λ stream before h. subst (λ z. Stands c.take_first.new.self (stream ++ take (c.loop-at.at + c.in_ok-taken.taken) c.args.piece.now) (before ++ z)) (events_pushed c.loop-at.events.items c.push.new.self.items c.in-Some.event c.in_ok-push.ensures.items)
          (piece_fed c.loop-at.self c.take_first.new.self stream c.args.piece.now c.split_at.result.1.now c.loop-at.at c.in_ok-taken.taken before (map event_of c.loop-at.events.items) (event_of c.in-Some.event ∷ []) c.split_at.ensures.back fed (c.loop-at.invariant.stands stream before h));
    }

pub loop-at-preserved : goal.loop-at-preserved
loop-at-preserved g c =
    let fed : Feeds c.loop-at.self (take c.in_ok-taken.taken c.split_at.result.1.now) [] c.take_first.new.self = subst (λ z. Feeds c.loop-at.self (take c.in_ok-taken.taken c.split_at.result.1.now) (option_to_list (option_map event_of z)) c.take_first.new.self) c.in_default.is c.in_ok-taken.ensures.ok.feeds in
    record {
      within = omega (arith, c.in_ok-taken.ensures.ok.within, c.split_at.ensures.back_len);
      prefix = c.in_ok-taken.ensures.prefix ∙ c.loop-at.invariant.prefix;
      closed = λ shut. ((fed.closed (c.loop-at.invariant.closed shut).0).0, (c.loop-at.invariant.closed shut).1);
      valid = c.loop-at.invariant.valid;
      stands = λ stream before h. subst (λ z. Stands c.take_first.new.self (stream ++ take (c.loop-at.at + c.in_ok-taken.taken) c.args.piece.now) (before ++ z)) (nothing_more c.loop-at.events.items)
          (piece_fed c.loop-at.self c.take_first.new.self stream c.args.piece.now c.split_at.result.1.now c.loop-at.at c.in_ok-taken.taken before (map event_of c.loop-at.events.items) [] c.split_at.ensures.back fed (c.loop-at.invariant.stands stream before h));
    }

pub returns-clause-ok : goal.returns-clause-ok
returns-clause-ok g c = record {
  valid = c.loop-at.invariant.valid;
  stands = λ stream before h. piece_done c.loop-at.self stream c.args.piece.now c.loop-at.at (before ++ map event_of c.loop-at.events.items) (omega (arith, c.loop-at-test.false)) (c.loop-at.invariant.stands stream before h);
  closed = λ shut. let k = c.loop-at.invariant.closed shut in (k.0, ap (λ es. map event_of es) k.1);
  prefix = c.loop-at.invariant.prefix;
}
