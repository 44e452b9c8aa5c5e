use Rattle.std.proofs.Common.{◌≡◌, true, false, length}
use Rattle.std.specs.Prelude.{◌==◌}
use Rattle.cache_server.proofs.Telling.{told_nothing, flush_failed}
use Rattle.cache_server.proofs.answering.answer_and_flush.Goals as goal

pub returns-then-is_empty-clause-ok : goal.returns-then-is_empty-clause-ok
returns-then-is_empty-clause-ok g c =
    let none : (length c.args.events.items == 0) ≡ true = cc in
    told_nothing c.args.events.items c.args.cache.now (g.W.Outgoing.contents c.args.writer.now) none

pub returns-in-Err-flush-clause-err : goal.returns-in-Err-flush-clause-err
returns-in-Err-flush-clause-err g c =
    let some : (length c.args.events.items == 0) ≡ false = cc in
    let contents = g.W.Outgoing.contents in
    flush_failed c.args.events.items c.args.cache.now c.answer_all.new.cache (contents c.args.writer.now) (contents c.answer_all.new.writer) (contents c.flush.new.self)
    c.in-Ok.ensures.ok c.flush.ensures.bytes some
