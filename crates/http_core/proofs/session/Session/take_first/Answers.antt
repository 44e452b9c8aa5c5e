use Rattle.std.proofs.Common.{◌≡◌, ◌≢◌, ℕ, subst, inl, inr, true, Some, None, rules, arith, refl, ◌∙◌, ◌++◌, List, [], take, length, sym}
use Rattle.std.specs.Prelude.{option_map, option_to_list}
use Rattle.std.proofs.lemmas.List.{append-nil, take_all}
use Rattle.http_core.specs.Event.{EventValue, event_of, IsValid}
use Rattle.std.specs.List.{AllByRecursion}
use Rattle.http_core.specs.Session.{SessionValue, Stands, Closed}
use Rattle.http_core.proofs.Standing.{Moves}
use Rattle.http_core.proofs.Pieces.{on_err, first_event_at, moves_further, holds_first, holds_last, piece_on, piece_closed, piece_done, not_open}
use Rattle.http_core.proofs.session.Session.take_first.Goals as goal
use Rattle.http_core.proofs.session.Session.take_first.Goals.{then-loop-at-test+else-is_open, else-loop-at-test}

-- all of a piece, without an event
whole : (s : SessionValue) (stream piece : List ℕ) (before : List EventValue) → Stands s (stream ++ piece) before → Stands s (stream ++ take (length piece) piece) (before ++ [])
whole s stream piece before h =
    subst (λ z. Stands s (stream ++ take (length piece) piece) z) (sym (append-nil before)) (subst (λ z. Stands s (stream ++ z) before) (sym (take_all (length piece) piece (omega arith))) h)

pub returns-in_err-taken-clause-memory : goal.returns-in_err-taken-clause-memory
returns-in_err-taken-clause-memory g c =
    let open_ : c.loop-at.self.state ≢ Closed = c.is_open.ensures.0 (search (rules, c.if-is_open.true)) in
    on_err c.from_residual.result (record { opened = λ shut. open_ (c.loop-at.invariant.closed shut); some = omega (arith, c.loop-at-test.true) })

pub returns-in-Some-clause-ok : goal.returns-in-Some-clause-ok
returns-in-Some-clause-ok g c =
    let open_ : c.loop-at.self.state ≢ Closed = c.is_open.ensures.0 (search (rules, c.if-is_open.true)) in
    let moves : Moves c.loop-at.self (take c.in_ok-taken.taken c.split_at.result.1.now) (Some (event_of c.in-Some.event)) c.advance.new.self = subst (λ z. Moves c.loop-at.self (take c.in_ok-taken.taken c.split_at.result.1.now) (option_map event_of z) c.advance.new.self) c.in-Some.is c.in_ok-taken.ensures.takes.moves in
    record {
      within = omega (arith, c.in_ok-taken.ensures.takes.within, c.split_at.ensures.back_len);
      some = λ n. omega (arith, c.in_ok-taken.ensures.takes.some);
      all = λ e. cc;
      feeds = record {
        stands = λ stream before h. first_event_at c.loop-at.self c.advance.new.self stream c.args.piece.now c.split_at.result.1.now c.loop-at.at c.in_ok-taken.taken before (event_of c.in-Some.event) c.in_ok-taken.ensures.prefix open_ c.split_at.ensures.back moves (c.loop-at.invariant.stands stream before h);
        closed = λ shut. absurd (open_ (c.loop-at.invariant.closed shut));
        valid = subst (λ z. AllByRecursion IsValid (option_to_list (option_map event_of z))) c.in-Some.is c.in_ok-taken.ensures.takes.valid;
        prefix = c.in_ok-taken.ensures.prefix ∙ c.loop-at.invariant.prefix;
      };
      moves = λ rest h. moves_further c.loop-at.self c.advance.new.self c.args.self.now.prefix rest c.args.piece.now c.split_at.result.1.now c.loop-at.at c.in_ok-taken.taken (Some (event_of c.in-Some.event)) c.loop-at.invariant.prefix c.split_at.ensures.back moves (c.loop-at.invariant.holds rest h);
    }

pub loop-at-preserved : goal.loop-at-preserved
loop-at-preserved g c = record {
  within = omega (arith, c.in_ok-taken.ensures.takes.within, c.split_at.ensures.back_len);
  prefix = c.in_ok-taken.ensures.prefix ∙ c.loop-at.invariant.prefix;
  closed = λ shut. absurd (c.is_open.ensures.0 (search (rules, c.if-is_open.true)) (c.loop-at.invariant.closed shut));
  holds = λ rest h. let moves : Moves c.loop-at.self (take c.in_ok-taken.taken c.split_at.result.1.now) None c.advance.new.self = subst (λ z. Moves c.loop-at.self (take c.in_ok-taken.taken c.split_at.result.1.now) (option_map event_of z) c.advance.new.self) c.in_default.is c.in_ok-taken.ensures.takes.moves in
      moves_further c.loop-at.self c.advance.new.self c.args.self.now.prefix rest c.args.piece.now c.split_at.result.1.now c.loop-at.at c.in_ok-taken.taken None c.loop-at.invariant.prefix c.split_at.ensures.back moves (c.loop-at.invariant.holds rest h);
  stands = λ stream before h. let open_ : c.loop-at.self.state ≢ Closed = c.is_open.ensures.0 (search (rules, c.if-is_open.true)) in let moves : Moves c.loop-at.self (take c.in_ok-taken.taken c.split_at.result.1.now) None c.advance.new.self = subst (λ z. Moves c.loop-at.self (take c.in_ok-taken.taken c.split_at.result.1.now) (option_map event_of z) c.advance.new.self) c.in_default.is c.in_ok-taken.ensures.takes.moves in
      piece_on c.loop-at.self c.advance.new.self stream c.args.piece.now c.split_at.result.1.now c.loop-at.at c.in_ok-taken.taken before c.in_ok-taken.ensures.prefix open_ c.split_at.ensures.back moves (c.loop-at.invariant.stands stream before h);
}

pub returns-clause-ok : goal.returns-clause-ok
returns-clause-ok g c = record {
  within = omega arith;
  some = λ n. n;
  all = λ e. refl;
  feeds = record {
    stands = λ stream before h. whole c.loop-at.self stream c.args.piece.now before (elim c.loop-at-test.branch [
      | then-loop-at-test+else-is_open w ↦ let shut : c.loop-at.self.state ≡ Closed = not_open c.loop-at.self.state (λ o. let t : w.is_open.result ≡ true = search (rules, w.is_open.ensures.1 o) in let f = w.if-is_open.false in cc) in piece_closed c.loop-at.self stream c.args.piece.now c.loop-at.at before shut (c.loop-at.invariant.stands stream before h)
      | else-loop-at-test w ↦ piece_done c.loop-at.self stream c.args.piece.now c.loop-at.at before (omega (arith, w.loop-at-test.false)) (c.loop-at.invariant.stands stream before h)
    ]);
    closed = λ shut. (c.loop-at.invariant.closed shut, refl);
    valid = tt;
    prefix = c.loop-at.invariant.prefix;
  };
  moves = λ rest h. holds_last c.args.self.now.prefix c.args.piece.now rest c.loop-at.self.state c.loop-at.at (elim c.loop-at-test.branch [
    | then-loop-at-test+else-is_open w ↦ inl (not_open c.loop-at.self.state (λ o. let t : w.is_open.result ≡ true = search (rules, w.is_open.ensures.1 o) in let f = w.if-is_open.false in cc))
    | else-loop-at-test w ↦ inr (omega (arith, w.loop-at-test.false))
  ]) (c.loop-at.invariant.holds rest h);
}

pub loop-at-init : goal.loop-at-init
loop-at-init g c = record {
  within = omega arith;
  prefix = refl;
  closed = λ shut. shut;
  holds = λ rest h. holds_first c.args.self.now.prefix c.args.piece.now rest c.args.self.now.state h;
  stands = λ stream before h. subst (λ z. Stands c.args.self.now z before) (sym (append-nil stream)) h;
}
