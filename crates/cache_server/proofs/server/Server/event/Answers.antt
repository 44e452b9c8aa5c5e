use Rattle.std.proofs.Common.{◌≡◌, ◌+◌, Bool, true, false, [], ◌++◌, take, drop, refl, sym, ◌∙◌, subst, arith, Option, Some, None, IsSome, Result, Ok, Err, OnOk, OnErr}
use Rattle.std.specs.Prelude.{option_map, unwrap_or, is_err}
use Rattle.std.proofs.lemmas.List.{take-append-drop, take_all}
use Rattle.cache_server.specs.Answer.{AnswerValue, text_of}
use Rattle.cache_server.specs.Server.{IsOpenAt}
use Rattle.cache_server.proofs.Serving.{on_err}
use Rattle.cache_server.proofs.Standing.{HasFed, stands_closed}
use Rattle.cache_server.proofs.Turning.{is_there, fed_none, fed_join, fed_turn, taken_more, opened_stands, opened_answers, opened_breaks, opened_before, open_within, open_answered}
use Rattle.cache_server.proofs.server.Server.event.Goals as goal

pub returns-in_err-open-clause-err : goal.returns-in_err-open-clause-err
returns-in_err-open-clause-err g c =
    on_err c.from_residual.result (λ opening history stands. stands_closed opening c.args.self.now c.open.new.self c.args.connection c.args.piece.now history c.in_err-open.ensures.err stands)

pub loop-at-init : goal.loop-at-init
loop-at-init g c = record {
  within = omega arith;
  fed = subst (λ t. HasFed c.open.new.self c.args.connection [] t c.open.new.self) (sym c.new-text.ensures.items) (fed_none c.open.new.self c.args.connection c.in_ok-open.ensures.ok.session c.in_ok-open.ensures.ok.at);
}

pub turn-requires : goal.turn-requires
turn-requires g c = is_there _ c.loop-at.invariant.fed.after c.loop-at.invariant.fed.at

was_pushed : {T E : Type 0} (r : Result T E) (b : Bool) (P : Type 0) → OnOk r P → b ≡ is_err r → b ≡ false → P
was_pushed (Ok x) b P p e f = p
was_pushed (Err d) b P p e f = let no : true ≡ false = sym e ∙ f in absurd cc

pub loop-at-preserved : goal.loop-at-preserved
loop-at-preserved g c =
    let turn = c.in_ok-taken.ensures.ok in
    let at = c.loop-at.at in
    let rest = c.split_at.result.1.now in
    let taken = c.in_ok-taken.taken in
    let fed = fed_join c.open.new.self c.loop-at.self c.turn.new.self c.args.connection (take at c.args.piece.now) (take taken rest) c.loop-at.text.items (unwrap_or (option_map text_of c.in_ok-taken.answer) []) c.loop-at.invariant.fed
    (fed_turn c.loop-at.self c.args.connection c.loop-at.invariant.fed.after rest taken (option_map text_of c.in_ok-taken.answer) c.turn.new.self c.loop-at.invariant.fed.at turn) in
    let bytes = taken_more c.args.piece.now at taken (at + taken) rest c.split_at.ensures.back refl in
    record {
      within = omega (arith, turn.takes.within, c.split_at.ensures.back_len);
      fed = subst (λ z. HasFed c.open.new.self c.args.connection z c.push_text.new.text.items c.turn.new.self) bytes (subst (λ z. HasFed c.open.new.self c.args.connection (take at c.args.piece.now ++ take taken rest) z c.turn.new.self) (sym (was_pushed c.push_text.result c.is_err.result _ c.push_text.ensures.text c.is_err.ensures.value c.if-is_err.false)) fed);
    }

pub returns-in_err-taken-clause-err : goal.returns-in_err-taken-clause-err
returns-in_err-taken-clause-err g c =
    on_err c.from_residual-in_err-taken.result (λ opening history stands. opened_breaks opening c.args.self.now c.open.new.self c.turn.new.self c.args.connection history c.in_ok-open.ensures.ok stands c.loop-at.self c.args.piece.now (take c.loop-at.at c.args.piece.now) (drop c.loop-at.at c.args.piece.now) c.loop-at.text.items
    (sym (take-append-drop c.loop-at.at c.args.piece.now)) c.loop-at.invariant.fed c.in_err-taken.ensures.err)

pub returns-then-is_err-clause-err : goal.returns-then-is_err-clause-err
returns-then-is_err-clause-err g c opening history stands =
    let turn = c.in_ok-taken.ensures.ok in
    let at = c.loop-at.at in
    let rest = c.split_at.result.1.now in
    let taken = c.in_ok-taken.taken in
    let fed = fed_join c.open.new.self c.loop-at.self c.turn.new.self c.args.connection (take at c.args.piece.now) (take taken rest) c.loop-at.text.items (unwrap_or (option_map text_of c.in_ok-taken.answer) []) c.loop-at.invariant.fed
    (fed_turn c.loop-at.self c.args.connection c.loop-at.invariant.fed.after rest taken (option_map text_of c.in_ok-taken.answer) c.turn.new.self c.loop-at.invariant.fed.at turn) in
    let bytes = taken_more c.args.piece.now at taken (at + taken) rest c.split_at.ensures.back refl in
    opened_breaks opening c.args.self.now c.open.new.self c.close.new.self c.args.connection history c.in_ok-open.ensures.ok stands c.turn.new.self c.args.piece.now (take (at + taken) c.args.piece.now) (drop (at + taken) c.args.piece.now)
    (c.loop-at.text.items ++ unwrap_or (option_map text_of c.in_ok-taken.answer) []) (sym (take-append-drop (at + taken) c.args.piece.now))
    (subst (λ z. HasFed c.open.new.self c.args.connection z (c.loop-at.text.items ++ unwrap_or (option_map text_of c.in_ok-taken.answer) []) c.turn.new.self) bytes fed) c.close.ensures

pub returns-clause-ok : goal.returns-clause-ok
returns-clause-ok g c opening history stands =
    let whole : take c.loop-at.at c.args.piece.now ≡ c.args.piece.now = take_all c.loop-at.at c.args.piece.now (omega (arith, c.loop-at-test.false)) in
    opened_stands opening c.args.self.now c.open.new.self c.loop-at.self c.args.connection history c.in_ok-open.ensures.ok stands c.args.piece.now c.loop-at.text.items
    (subst (λ z. HasFed c.open.new.self c.args.connection z c.loop-at.text.items c.loop-at.self) whole c.loop-at.invariant.fed)

pub returns-clause-answers : goal.returns-clause-answers
returns-clause-answers g c opening history stands =
    let whole : take c.loop-at.at c.args.piece.now ≡ c.args.piece.now = take_all c.loop-at.at c.args.piece.now (omega (arith, c.loop-at-test.false)) in
    opened_answers opening c.args.self.now c.open.new.self c.loop-at.self c.args.connection history c.in_ok-open.ensures.ok stands c.args.piece.now c.loop-at.text.items
    (subst (λ z. HasFed c.open.new.self c.args.connection z c.loop-at.text.items c.loop-at.self) whole c.loop-at.invariant.fed)

-- ---- a closed connection wants no memory

was_wanting : {T E : Type 0} (r : Result T E) (b : Bool) (P : Type 0) → OnErr r P → b ≡ is_err r → b ≡ true → P
was_wanting (Ok x) b P p e f = let no : false ≡ true = sym e ∙ f in absurd cc
was_wanting (Err d) b P p e f = p

some_text : (o : Option AnswerValue) → IsSome o → IsSome (option_map text_of o)
some_text None s = s
some_text (Some answer) s = refl

pub returns-in_err-open-clause-memory : goal.returns-in_err-open-clause-memory
returns-in_err-open-clause-memory g c = on_err c.from_residual.result (subst IsOpenAt (sym c.in_err-open.ensures.none) tt)

pub returns-in_err-taken-clause-memory : goal.returns-in_err-taken-clause-memory
returns-in_err-taken-clause-memory g c =
    on_err c.from_residual-in_err-taken.result (opened_before c.args.self.now c.open.new.self c.args.connection c.in_ok-open.ensures.ok
    (open_within c.open.new.self c.loop-at.self c.args.connection (take c.loop-at.at c.args.piece.now) c.loop-at.text.items c.loop-at.invariant.fed c.in_err-taken.ensures.memory))

pub returns-then-is_err-clause-memory : goal.returns-then-is_err-clause-memory
returns-then-is_err-clause-memory g c =
    let some = was_wanting c.push_text.result c.is_err.result (IsSome c.in_ok-taken.answer) c.push_text.ensures.memory c.is_err.ensures.value c.if-is_err.true in
    opened_before c.args.self.now c.open.new.self c.args.connection c.in_ok-open.ensures.ok
    (open_within c.open.new.self c.loop-at.self c.args.connection (take c.loop-at.at c.args.piece.now) c.loop-at.text.items c.loop-at.invariant.fed
    (open_answered c.loop-at.self c.turn.new.self c.args.connection c.split_at.result.1.now c.in_ok-taken.taken (option_map text_of c.in_ok-taken.answer) c.in_ok-taken.ensures.ok (some_text c.in_ok-taken.answer some)))

pub returns-in_err-open-clause-others : goal.returns-in_err-open-clause-others
returns-in_err-open-clause-others g c = c.in_err-open.ensures.err.kept.others

pub returns-in_err-taken-clause-others : goal.returns-in_err-taken-clause-others
returns-in_err-taken-clause-others g c j other = c.in_err-taken.ensures.err.kept.others j other ∙ c.loop-at.invariant.fed.others j other ∙ c.in_ok-open.ensures.ok.kept.others j other

pub returns-then-is_err-clause-others : goal.returns-then-is_err-clause-others
returns-then-is_err-clause-others g c j other = c.close.ensures.kept.others j other ∙ c.in_ok-taken.ensures.ok.others j other ∙ c.loop-at.invariant.fed.others j other ∙ c.in_ok-open.ensures.ok.kept.others j other

pub returns-clause-others : goal.returns-clause-others
returns-clause-others g c j other = c.loop-at.invariant.fed.others j other ∙ c.in_ok-open.ensures.ok.kept.others j other

pub returns-in_err-open-clause-prefix : goal.returns-in_err-open-clause-prefix
returns-in_err-open-clause-prefix g c = c.in_err-open.ensures.err.kept.prefix

pub returns-in_err-taken-clause-prefix : goal.returns-in_err-taken-clause-prefix
returns-in_err-taken-clause-prefix g c = c.in_err-taken.ensures.err.kept.prefix ∙ c.loop-at.invariant.fed.prefix ∙ c.in_ok-open.ensures.ok.kept.prefix

pub returns-then-is_err-clause-prefix : goal.returns-then-is_err-clause-prefix
returns-then-is_err-clause-prefix g c = c.close.ensures.kept.prefix ∙ c.in_ok-taken.ensures.ok.prefix ∙ c.loop-at.invariant.fed.prefix ∙ c.in_ok-open.ensures.ok.kept.prefix

pub returns-clause-prefix : goal.returns-clause-prefix
returns-clause-prefix g c = c.loop-at.invariant.fed.prefix ∙ c.in_ok-open.ensures.ok.kept.prefix
