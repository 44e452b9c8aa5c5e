use Rattle.std.proofs.Common.{◌≡◌, false, subst, inl, inr, rules}
use Rattle.std.proofs.lemmas.Result.{err_from_is_err_and}
use Rattle.action_messages.specs.Command.{IsCommand, command_bytes}
use Rattle.action_messages.specs.Frame.{IsFrame, frame_bytes}
use Rattle.plan.specs.Values.{StepValue}
use Rattle.blob_source.specs.Told.{IsTold, IsFault}
use Rattle.tree.specs.Memo.{AsksNoOther, LooksAtBlob}
use Rattle.tree.proofs.Leaving.{others_then}
use Rattle.tree.proofs.LookupOnce.{told_or_fault}
use Rattle.runs.proofs.Meanings.{frame_still}
use Rattle.blob_source.proofs.Asking.{ok_no_error}
use Rattle.blob_source.proofs.Calling.{called_no}
use Rattle.runs.proofs.Fetching.{opening_ok, opening_exit}
use Rattle.runs.specs.Calls.{IsUntold}
use Rattle.runs.proofs.opening.read_step.Goals as goal

pub returns-in_err-command-clause-faulty : goal.returns-in_err-command-clause-faulty
returns-in_err-command-clause-faulty g c =
    let p = err_from_is_err_and c.from_residual-in_err-command.result c.from_residual-in_err-command.ensures.1 in
    let tells = g.S.BlobSource.tells c.read_message-2.new.source in
    rw (p.1, p.2) (inr (
      c.in_ok-frame.frame,
      frame_still (g.S.BlobSource.tells c.read_message.new.source).blobs (g.S.BlobSource.tells c.read_message-2.new.source).blobs c.args.step.now.frame c.in_ok-frame.frame c.read_message-2.ensures.called.asked.blobs (subst (λ (s : StepValue). IsTold IsFrame frame_bytes (g.S.BlobSource.tells c.read_message.new.source).blobs s.frame c.in_ok-frame.frame) c.step.view_is c.in_ok-frame.ensures.told),
      inr (search rules, subst (λ d. IsUntold c.args.number (IsFault IsCommand command_bytes tells.blobs d) c.in_err-command.field-0.0) c.command_digest.ensures.value c.in_err-command.ensures.faulty),
    ))

pub returns-in_err-command-clause-called : goal.returns-in_err-command-clause-called
returns-in_err-command-clause-called g c = opening_ok c.in_ok-frame.ensures.called (opening_exit c.from_residual-in_err-command.ensures.1 c.in_err-command.ensures.called)

pub returns-clause-told : goal.returns-clause-told
returns-clause-told g c = record {
  frame = frame_still (g.S.BlobSource.tells c.read_message.new.source).blobs (g.S.BlobSource.tells c.read_message-2.new.source).blobs c.args.step.now.frame c.in_ok-frame.frame c.read_message-2.ensures.called.asked.blobs (subst (λ (s : StepValue). IsTold IsFrame frame_bytes (g.S.BlobSource.tells c.read_message.new.source).blobs s.frame c.in_ok-frame.frame) c.step.view_is c.in_ok-frame.ensures.told);
  command = subst (λ d. IsTold IsCommand command_bytes (g.S.BlobSource.tells c.read_message-2.new.source).blobs d c.in_ok-command.command) c.command_digest.ensures.value c.in_ok-command.ensures.told;
}

pub returns-clause-called : goal.returns-clause-called
returns-clause-called g c = opening_ok c.in_ok-frame.ensures.called (called_no (λ f. ok_no_error f.1) (λ f. ok_no_error f.1) c.in_ok-command.ensures.called)

pub returns-in_err-command-clause-untold : goal.returns-in_err-command-clause-untold
returns-in_err-command-clause-untold g c f fault = absurd (told_or_fault IsFrame frame_bytes (g.S.BlobSource.tells c.read_message-2.new.source).blobs c.args.step.now.frame c.in_ok-frame.frame f
    (frame_still (g.S.BlobSource.tells c.read_message.new.source).blobs (g.S.BlobSource.tells c.read_message-2.new.source).blobs c.args.step.now.frame c.in_ok-frame.frame c.read_message-2.ensures.called.asked.blobs (subst (λ (s : StepValue). IsTold IsFrame frame_bytes (g.S.BlobSource.tells c.read_message.new.source).blobs s.frame c.in_ok-frame.frame) c.step.view_is c.in_ok-frame.ensures.told)) fault)

pub returns-clause-untold : goal.returns-clause-untold
returns-clause-untold g c f fault = absurd (told_or_fault IsFrame frame_bytes (g.S.BlobSource.tells c.read_message-2.new.source).blobs c.args.step.now.frame c.in_ok-frame.frame f
    (frame_still (g.S.BlobSource.tells c.read_message.new.source).blobs (g.S.BlobSource.tells c.read_message-2.new.source).blobs c.args.step.now.frame c.in_ok-frame.frame c.read_message-2.ensures.called.asked.blobs (subst (λ (s : StepValue). IsTold IsFrame frame_bytes (g.S.BlobSource.tells c.read_message.new.source).blobs s.frame c.in_ok-frame.frame) c.step.view_is c.in_ok-frame.ensures.told)) fault)

pub returns-in_err-command-clause-only : goal.returns-in_err-command-clause-only
returns-in_err-command-clause-only g c =
    let tells = g.S.BlobSource.tells in
    let mid = tells c.read_message.new.source in
    let new = tells c.read_message-2.new.source in
    let told = subst (λ (s : StepValue). IsTold IsFrame frame_bytes mid.blobs s.frame c.in_ok-frame.frame) c.step.view_is c.in_ok-frame.ensures.told in
    let cached : c.in_ok-frame.frame.do_not_cache ≡ false = search rules in
    others_then (λ a h. inl h) (λ a h. inr (c.in_ok-frame.frame, frame_still mid.blobs new.blobs c.args.step.now.frame c.in_ok-frame.frame c.read_message-2.ensures.called.asked.blobs told, cached, h))
    (subst (λ (s : StepValue). AsksNoOther (LooksAtBlob s.frame) (tells c.args.source.now) mid) c.step.view_is c.read_message.ensures.only)
    (subst (λ d. AsksNoOther (LooksAtBlob d) mid new) c.command_digest.ensures.value c.read_message-2.ensures.only)

pub returns-clause-only : goal.returns-clause-only
returns-clause-only g c =
    let tells = g.S.BlobSource.tells in
    let mid = tells c.read_message.new.source in
    let new = tells c.read_message-2.new.source in
    let told = subst (λ (s : StepValue). IsTold IsFrame frame_bytes mid.blobs s.frame c.in_ok-frame.frame) c.step.view_is c.in_ok-frame.ensures.told in
    let cached : c.in_ok-frame.frame.do_not_cache ≡ false = search rules in
    others_then (λ a h. inl h) (λ a h. inr (c.in_ok-frame.frame, frame_still mid.blobs new.blobs c.args.step.now.frame c.in_ok-frame.frame c.read_message-2.ensures.called.asked.blobs told, cached, h))
    (subst (λ (s : StepValue). AsksNoOther (LooksAtBlob s.frame) (tells c.args.source.now) mid) c.step.view_is c.read_message.ensures.only)
    (subst (λ d. AsksNoOther (LooksAtBlob d) mid new) c.command_digest.ensures.value c.read_message-2.ensures.only)
