use Rattle.std.proofs.Common.{inl, refl, subst, ◌∙◌}
use Rattle.http_core.specs.ReplyHead.{IsReplyHead}
use Rattle.http_core.specs.declared.reply_head.ReplyHead.{ReplyHead}
use Rattle.remote.specs.Flow.{Receives}
use Rattle.remote.specs.Steps.{InterruptsBody, ReadsNone}
use Rattle.remote.proofs.Flows.{some_after}
use Rattle.remote.proofs.Replies.{bad_io, bad_memory, next_reply, reply_in_part, told}
use Rattle.remote.proofs.reply.read_reply.Goals as goal

pub returns-clause-ok : goal.returns-clause-ok
returns-clause-ok g c =
    next_reply (g.S.Stream.flow c.args.stream.now) (g.S.Stream.flow c.read_block.new.stream) (g.S.Stream.flow c.read_body.new.stream) c.in_ok-block.block.items c.deref.result.now c.in_ok-body.body.items c.in-Some.head
    c.in_ok-block.ensures.read c.in_ok-body.ensures.read c.in_ok-block.ensures.block c.in_ok-block.ensures.fits c.deref.ensures.value c.in-Some.ensures.some c.in_ok-body.ensures.body

pub returns-in_default-clause-err : goal.returns-in_default-clause-err
returns-in_default-clause-err g c =
    let block = c.in_ok-block.block.items in
    let none : (head : ReplyHead) → IsReplyHead block head → ⊥ = subst (λ z. (head : ReplyHead) → IsReplyHead z head → ⊥) c.deref.ensures.value c.in_default.ensures.none in
    record {
      bad = λ _. record { text = block; bad = inl (c.in_ok-block.ensures.block, none); read = c.in_ok-block.ensures.read };
      part = λ is. absurd (bad_io is);
      some = λ is. absurd (bad_memory is);
      sent = c.in_ok-block.ensures.read.sent;
    }

pub returns-in_err-body-clause-err : goal.returns-in_err-body-clause-err
returns-in_err-body-clause-err g c =
    let flow = g.S.Stream.flow in
    let old = flow c.args.stream.now in
    let mid = flow c.read_block.new.stream in
    let new = flow c.read_body.new.stream in
    let head = c.in-Some.head in
    let reads : Receives old mid c.in_ok-block.block.items = c.in_ok-block.ensures.read in
    let i : InterruptsBody mid new head.length c.in_err-body.field-0.0 = c.in_err-body.ensures.err in
    let ends : ReadsNone old new c.in_err-body.field-0.0 = record {
      bad = λ is. absurd (i.other is);
      some = λ is. some_after old mid new c.in_ok-block.block.items reads (i.some is);
      part = λ is. reply_in_part old mid new c.in_ok-block.block.items c.deref.result.now head head.length reads c.in_ok-block.ensures.block c.deref.ensures.value c.in-Some.ensures.some refl (i.part is) (i.stopped is);
      sent = i.sent ∙ reads.sent;
    } in
    told c.from_residual-in_err-body.result c.in_err-body.field-0.0 (ReadsNone old new) c.from_residual-in_err-body.ensures.1 ends
