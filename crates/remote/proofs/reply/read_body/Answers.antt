use Rattle.std.proofs.Common.{arith, ◌∙◌}
use Rattle.remote.specs.Flow.{Receives}
use Rattle.remote.specs.Steps.{Interrupts, InterruptsBody}
use Rattle.remote.specs.declared.fault.Refusal.{Refusal}
use Rattle.remote.proofs.Flows.{receives_no_more, some_after}
use Rattle.remote.proofs.Replies.{told}
use Rattle.remote.proofs.reply.read_body.Goals as goal

pub returns-in_err-receive_piece-clause-err : goal.returns-in_err-receive_piece-clause-err
returns-in_err-receive_piece-clause-err g c =
    let flow = g.S.Stream.flow in
    let old = flow c.args.stream.now in
    let mid = flow c.loop-buffer.stream in
    let new = flow c.receive_piece.new.stream in
    let body = c.loop-buffer.body.items in
    let reads : Receives old mid body = c.loop-buffer.invariant.read in
    let ends : (e : Refusal) → Interrupts mid new e → InterruptsBody old new c.args.size e = λ e i. record {
      other = i.other;
      part = λ is. (body, omega (arith, c.loop-buffer-test.true, c.len-in-loop-buffer.ensures), receives_no_more old mid new body reads (i.none is));
      stopped = i.stopped;
      some = λ is. some_after old mid new body reads (i.some is);
      sent = i.sent ∙ reads.sent;
    } in
    told c.from_residual.result c.in_err-receive_piece.field-0.0 (InterruptsBody old new c.args.size) c.from_residual.ensures.1 (ends c.in_err-receive_piece.field-0.0 c.in_err-receive_piece.ensures.err)
