use Rattle.std.proofs.Common.{◌≡◌, ◌+◌, ◌<◌, length, length-append, arith, sym, ap, subst, ◌∙◌}
use Rattle.http_core.specs.Block.{HasNoBlock}
use Rattle.remote.specs.Flow.{Receives}
use Rattle.remote.proofs.Endings.{ends_last_more, none_ended}
use Rattle.remote.proofs.Flows.{receives_then, some_after}
use Rattle.remote.proofs.reply.read_block.Goals as goal
use Rattle.remote.specs.Steps.{Interrupts, ReadsNone, WantsMore}
use Rattle.remote.specs.declared.fault.Refusal.{Refusal}
use Rattle.remote.proofs.Replies.{block_in_part, told}

pub loop-missing-preserved : goal.loop-missing-preserved
loop-missing-preserved g c =
    let flow = g.S.Stream.flow in
    let before = c.loop-missing.block.items in
    let after = c.receive_piece.new.bytes.items in
    let adds = c.in_ok-receive_piece.ensures.ok in
    let size : length after ≡ length before + length adds.bytes = ap length adds.is ∙ length-append before adds.bytes in
    record {
      read = subst (Receives (flow c.args.stream.now) (flow c.receive_piece.new.stream)) (sym adds.is)
          (receives_then (flow c.args.stream.now) (flow c.loop-missing.stream) (flow c.receive_piece.new.stream) before adds.bytes c.loop-missing.invariant.read adds.read);
      last = ends_last_more before adds.bytes after c.loop-missing.missing c.loop-missing.invariant.last c.loop-missing.invariant.wants c.loop-missing-test.true (omega (arith, adds.few, c.min.ensures)) adds.is;
      wants = subst (λ z. WantsMore z c.wanting-missing-in-loop-missing.result) c.deref-in-loop-missing.ensures.value c.wanting-missing-in-loop-missing.ensures;
      fits = omega (arith, adds.few, c.min.ensures, c.len-room.ensures, c.loop-missing.invariant.fits, size);
    }

pub returns-in_err-receive_piece-clause-err : goal.returns-in_err-receive_piece-clause-err
returns-in_err-receive_piece-clause-err g c =
    let flow = g.S.Stream.flow in
    let old = flow c.args.stream.now in
    let mid = flow c.loop-missing.stream in
    let new = flow c.receive_piece.new.stream in
    let block = c.loop-missing.block.items in
    let reads : Receives old mid block = c.loop-missing.invariant.read in
    let some = c.if-room-eq0.false in
    let room = c.len-room.ensures in
    let short : length block < 16384 = omega (arith, some, room) in
    let open_ : HasNoBlock block = none_ended block c.loop-missing.missing c.loop-missing.invariant.last c.loop-missing.invariant.wants c.loop-missing-test.true in
    let ends : (e : Refusal) → Interrupts mid new e → ReadsNone old new e = λ e i. record {
      bad = λ is. absurd (i.other is);
      part = λ is. block_in_part old mid new block reads (i.none is) (i.stopped is) short open_;
      some = λ is. some_after old mid new block reads (i.some is);
      sent = i.sent ∙ reads.sent;
    } in
    told c.from_residual.result c.in_err-receive_piece.field-0.0 (ReadsNone old new) c.from_residual.ensures.1 (ends c.in_err-receive_piece.field-0.0 c.in_err-receive_piece.ensures.err)
