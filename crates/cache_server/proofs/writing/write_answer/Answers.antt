use Rattle.std.proofs.Common.{◌≡◌, ◌++◌, ap, ◌∙◌, subst}
use Rattle.std.proofs.lemmas.Result.{on_ok_weaker, on_err_weaker}
use Rattle.std.specs.Io.KnownBytes.{Appends}
use Rattle.std.proofs.KnownBytes.{Appends-trans}
use Rattle.cache_server.specs.Answer.{text_of}
use Rattle.cache_server.specs.Writing.{WritesSome}
use Rattle.cache_server.proofs.Serving.{on_err}
use Rattle.cache_server.proofs.Telling.{writes_front, writes_on}
use Rattle.cache_server.proofs.writing.write_answer.Goals as goal

pub returns-in_err-write_out-clause-err : goal.returns-in_err-write_out-clause-err
returns-in_err-write_out-clause-err g c =
    let before = g.W.Outgoing.contents c.args.writer.now in
    let after = g.W.Outgoing.contents c.write_out.new.writer in
    let answer = c.args.answer.now in
    on_err c.from_residual.result (subst (λ z. WritesSome before after (z ++ answer.body)) c.head.ensures (writes_front before after c.head.result.now answer.body c.in_err-write_out.ensures.err))

pub returns-clause-ok : goal.returns-clause-ok
returns-clause-ok g c =
    let before = g.W.Outgoing.contents c.args.writer.now in
    let mid = g.W.Outgoing.contents c.write_out.new.writer in
    let after = g.W.Outgoing.contents c.write_out-2.new.writer in
    let answer = c.args.answer.now in
    let text : c.head.result.now ++ c.body.result.now ≡ text_of answer = ap (λ z. z ++ c.body.result.now) c.head.ensures ∙ ap (λ z. answer.head ++ z) c.body.ensures in
    on_ok_weaker c.write_out-2.result (λ p. subst (Appends before after) text (Appends-trans before mid after c.head.result.now c.body.result.now c.in_ok-write_out.ensures.ok p)) c.write_out-2.ensures.ok

pub returns-clause-err : goal.returns-clause-err
returns-clause-err g c =
    let before = g.W.Outgoing.contents c.args.writer.now in
    let mid = g.W.Outgoing.contents c.write_out.new.writer in
    let after = g.W.Outgoing.contents c.write_out-2.new.writer in
    let answer = c.args.answer.now in
    let text : c.head.result.now ++ c.body.result.now ≡ text_of answer = ap (λ z. z ++ c.body.result.now) c.head.ensures ∙ ap (λ z. answer.head ++ z) c.body.ensures in
    on_err_weaker c.write_out-2.result (λ w. subst (WritesSome before after) text (writes_on before mid after c.head.result.now c.body.result.now c.in_ok-write_out.ensures.ok w)) c.write_out-2.ensures.err
