use Rattle.std.proofs.Common.{[], take, refl, sym, ◌∙◌, subst}
use Rattle.std.specs.Prelude.{option_map, unwrap_or}
use Rattle.std.proofs.lemmas.Result.{IfOk-weaker, on_err_weaker}
use Rattle.cache_server.specs.Answer.{text_of}
use Rattle.cache_server.specs.Server.{IsOpenAt, session_at}
use Rattle.cache_server.specs.Sessions.{ClosesAt}
use Rattle.cache_server.specs.Turn.{AnswersOne}
use Rattle.cache_server.proofs.Serving.{on_err}
use Rattle.cache_server.proofs.Standing.{stands_closed}
use Rattle.cache_server.proofs.Turning.{is_there, fed_none, fed_turn, opened_stands, opened_answer, opened_breaks, one_answer, was_open, keeps_join, of_result}
use Rattle.cache_server.proofs.server.Server.next.Goals as goal

pub turn-requires : goal.turn-requires
turn-requires g c = is_there _ c.in_ok-open.ensures.ok.session c.in_ok-open.ensures.ok.at

pub returns-in_err-open-clause-err : goal.returns-in_err-open-clause-err
returns-in_err-open-clause-err g c =
    on_err c.from_residual.result (λ opening history stands. stands_closed opening c.args.self.now c.open.new.self c.args.connection c.args.piece.now history c.in_err-open.ensures.err stands)

pub returns-in_err-open-clause-kept : goal.returns-in_err-open-clause-kept
returns-in_err-open-clause-kept g c = on_err c.from_residual.result c.in_err-open.ensures.err.kept

pub returns-in_err-open-clause-memory : goal.returns-in_err-open-clause-memory
returns-in_err-open-clause-memory g c = on_err c.from_residual.result (subst IsOpenAt (sym c.in_err-open.ensures.none) tt)

pub returns-clause-kept : goal.returns-clause-kept
returns-clause-kept g c =
    on_err_weaker c.turn.result (λ closes. keeps_join c.args.self.now c.open.new.self c.turn.new.self c.args.connection c.in_ok-open.ensures.ok.kept closes.kept) c.turn.ensures.err

pub returns-clause-memory : goal.returns-clause-memory
returns-clause-memory g c =
    on_err_weaker c.turn.result (λ o. was_open c.args.self.now.prefix (session_at c.args.self.now c.args.connection) (session_at c.open.new.self c.args.connection) c.in_ok-open.ensures.ok.session c.in_ok-open.ensures.ok.held c.in_ok-open.ensures.ok.at o) c.turn.ensures.memory

pub returns-clause-one : goal.returns-clause-one
returns-clause-one g c =
    IfOk-weaker c.turn.result _ _ (λ x t. one_answer c.args.self.now c.open.new.self c.turn.new.self c.args.connection c.args.piece.now x.0 (option_map text_of x.1) c.in_ok-open.ensures.ok t) c.turn.ensures.ok

pub returns-clause-answers : goal.returns-clause-answers
returns-clause-answers g c =
    IfOk-weaker c.turn.result _ _ (λ x t opening history stands. opened_answer opening c.args.self.now c.open.new.self c.turn.new.self c.args.connection history c.in_ok-open.ensures.ok stands c.args.piece.now x.0 (option_map text_of x.1) t) c.turn.ensures.ok

pub returns-clause-ok : goal.returns-clause-ok
returns-clause-ok g c =
    IfOk-weaker c.turn.result _ _ (λ x t opening history stands. opened_stands opening c.args.self.now c.open.new.self c.turn.new.self c.args.connection history c.in_ok-open.ensures.ok stands (take x.0 c.args.piece.now) (unwrap_or (option_map text_of x.1) [])
    (fed_turn c.open.new.self c.args.connection c.in_ok-open.ensures.ok.session c.args.piece.now x.0 (option_map text_of x.1) c.turn.new.self c.in_ok-open.ensures.ok.at t)) c.turn.ensures.ok

pub returns-clause-err : goal.returns-clause-err
returns-clause-err g c =
    on_err_weaker c.turn.result (λ closes opening history stands. opened_breaks opening c.args.self.now c.open.new.self c.turn.new.self c.args.connection history c.in_ok-open.ensures.ok stands c.open.new.self c.args.piece.now [] c.args.piece.now [] refl
    (fed_none c.open.new.self c.args.connection c.in_ok-open.ensures.ok.session c.in_ok-open.ensures.ok.at) closes) c.turn.ensures.err

pub returns-in_err-open-clause-prefix : goal.returns-in_err-open-clause-prefix
returns-in_err-open-clause-prefix g c = c.in_err-open.ensures.err.kept.prefix

pub returns-clause-prefix : goal.returns-clause-prefix
returns-clause-prefix g c =
    of_result (λ (x : _). AnswersOne c.open.new.self c.args.connection c.args.piece.now x.0 (option_map text_of x.1) c.turn.new.self) (ClosesAt c.open.new.self c.args.connection c.turn.new.self) c.turn.result c.turn.ensures.ok c.turn.ensures.err
    (λ x t. (one_answer c.args.self.now c.open.new.self c.turn.new.self c.args.connection c.args.piece.now x.0 (option_map text_of x.1) c.in_ok-open.ensures.ok t).prefix)
    (λ closes. closes.kept.prefix ∙ c.in_ok-open.ensures.ok.kept.prefix)
