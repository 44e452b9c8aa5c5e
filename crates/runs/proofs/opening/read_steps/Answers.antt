use Rattle.std.proofs.Common.{refl, ◌≡◌, ◌+◌, ◌∷◌, [], ◌++◌, ap, rules, arith}
use Rattle.std.specs.Prelude.{Err}
use Rattle.std.proofs.lemmas.Result.{err_from_is_err_and}
use Rattle.blob_source.proofs.Asking.{ok_no_error}
use Rattle.blob_source.proofs.Calling.{called_none, called_no, called_on}
use Rattle.runs.proofs.Fetching.{opening_on, opening_exit, opening_memory}
use Rattle.runs.proofs.Meanings.{told_none, told_next, open_fault, opening_next, opening_last, stops_here, stops_behind}
use Rattle.runs.proofs.opening.read_steps.Goals as goal

pub returns-in_err-meaning-clause-faulty : goal.returns-in_err-meaning-clause-faulty
returns-in_err-meaning-clause-faulty g c =
    let p = err_from_is_err_and c.from_residual.result c.from_residual.ensures.1 in
    let old = g.S.BlobSource.tells c.loop-number.source in
    let tells = g.S.BlobSource.tells c.read_step.new.source in
    rw (p.1, p.2) (open_fault old.blobs tells.blobs c.args.steps.now c.loop-number.number c.loop-number.frames.items c.loop-number.commands.items c.index-steps-number.result c.in_err-meaning.field-0.0 c.loop-number-test.true c.index-steps-number.is c.loop-number.invariant.told c.read_step.ensures.called.asked.blobs c.in_err-meaning.ensures.faulty)

pub loop-number-init : goal.loop-number-init
loop-number-init g c = record {
  called = called_none (λ n. n);
  few = omega arith;
  only = record { blobs = λ d not. refl; results = λ d not. refl };
  told = rw (c.new-frames.ensures.items, c.new-commands.ensures.items) (told_none (g.S.BlobSource.tells c.args.source.now).blobs c.args.steps.now);
}

pub returns-in_err-meaning-clause-called : goal.returns-in_err-meaning-clause-called
returns-in_err-meaning-clause-called g c = called_on c.loop-number.invariant.called (opening_exit c.from_residual.ensures.1 c.in_err-meaning.ensures.called)

pub returns-in_err-push-clause-called : goal.returns-in_err-push-clause-called
returns-in_err-push-clause-called g c = opening_memory c.from_residual-in_err-push.ensures.1 (λ n. n) (opening_on c.loop-number.invariant.called c.in_ok-meaning.ensures.called)

pub returns-in_err-push-2-clause-called : goal.returns-in_err-push-2-clause-called
returns-in_err-push-2-clause-called g c = opening_memory c.from_residual-in_err-push-2.ensures.1 (λ n. n) (opening_on c.loop-number.invariant.called c.in_ok-meaning.ensures.called)

pub returns-clause-called : goal.returns-clause-called
returns-clause-called g c = called_no (λ n. n) (λ f. ok_no_error f.1) c.loop-number.invariant.called

pub loop-number-preserved : goal.loop-number-preserved
loop-number-preserved g c =
    let old = g.S.BlobSource.tells c.loop-number.source in
    let tells = g.S.BlobSource.tells c.read_step.new.source in
    let frames : c.push.new.self.items ≡ c.loop-number.frames.items ++ c.in_ok-meaning.meaning.frame ∷ [] = search rules in
    let commands : c.push-in-loop-number.new.self.items ≡ c.loop-number.commands.items ++ c.in_ok-meaning.meaning.command ∷ [] = search rules in
    record {
      called = opening_on c.loop-number.invariant.called c.in_ok-meaning.ensures.called;
      few = omega (arith, c.loop-number.invariant.few, c.in_ok-meaning.ensures.few);
      only = opening_next c.args.steps.now c.loop-number.number c.loop-number.frames.items c.loop-number.commands.items c.index-steps-number.result c.loop-number-test.true c.index-steps-number.is c.loop-number.invariant.told c.read_step.ensures.called.asked.blobs c.loop-number.invariant.only c.read_step.ensures.only;
      told = rw (frames, commands) (told_next old.blobs tells.blobs c.args.steps.now c.loop-number.number c.loop-number.frames.items c.loop-number.commands.items c.index-steps-number.result c.in_ok-meaning.meaning.frame c.in_ok-meaning.meaning.command c.loop-number-test.true c.index-steps-number.is c.loop-number.invariant.told c.read_step.ensures.called.asked.blobs (c.in_ok-meaning.ensures).told c.in_ok-meaning.ensures.cached);
    }

pub returns-in_err-meaning-clause-last : goal.returns-in_err-meaning-clause-last
returns-in_err-meaning-clause-last g c =
    let p = err_from_is_err_and c.from_residual.result c.from_residual.ensures.1 in
    let tells = g.S.BlobSource.tells in
    rw (p.1, p.2) (opening_last (tells c.read_step.new.source).blobs c.args.steps.now c.loop-number.number c.index-steps-number.result c.in_err-meaning.field-0.0 (tells c.args.source.now).calls (tells c.loop-number.source).calls (tells c.read_step.new.source).calls c.loop-number-test.true c.loop-number.invariant.few c.in_err-meaning.ensures.few (λ j e. c.in_err-meaning.ensures.frame j (ap Err e)) c.in_err-meaning.ensures.faulty)

pub returns-in_err-meaning-clause-frame : goal.returns-in_err-meaning-clause-frame
returns-in_err-meaning-clause-frame g c =
    let tells = g.S.BlobSource.tells in
    stops_here c.args.steps.now c.loop-number.number c.loop-number.frames.items c.loop-number.commands.items c.index-steps-number.result (tells c.args.source.now) (tells c.loop-number.source) (tells c.read_step.new.source)
    c.loop-number-test.true c.index-steps-number.is c.loop-number.invariant.told c.read_step.ensures.called.asked.blobs c.loop-number.invariant.few c.in_err-meaning.ensures.few c.in_err-meaning.ensures.untold

pub returns-in_err-push-clause-frame : goal.returns-in_err-push-clause-frame
returns-in_err-push-clause-frame g c =
    let tells = g.S.BlobSource.tells in
    stops_behind c.args.steps.now (c.loop-number.number + 1) (c.loop-number.frames.items ++ c.in_ok-meaning.meaning.frame ∷ []) (c.loop-number.commands.items ++ c.in_ok-meaning.meaning.command ∷ []) (tells c.args.source.now) (tells c.read_step.new.source)
    (told_next (tells c.loop-number.source).blobs (tells c.read_step.new.source).blobs c.args.steps.now c.loop-number.number c.loop-number.frames.items c.loop-number.commands.items c.index-steps-number.result c.in_ok-meaning.meaning.frame c.in_ok-meaning.meaning.command
    c.loop-number-test.true c.index-steps-number.is c.loop-number.invariant.told c.read_step.ensures.called.asked.blobs c.in_ok-meaning.ensures.told c.in_ok-meaning.ensures.cached)
    (omega (arith, c.loop-number.invariant.few, c.in_ok-meaning.ensures.few))

pub returns-in_err-push-2-clause-frame : goal.returns-in_err-push-2-clause-frame
returns-in_err-push-2-clause-frame g c =
    let tells = g.S.BlobSource.tells in
    stops_behind c.args.steps.now (c.loop-number.number + 1) (c.loop-number.frames.items ++ c.in_ok-meaning.meaning.frame ∷ []) (c.loop-number.commands.items ++ c.in_ok-meaning.meaning.command ∷ []) (tells c.args.source.now) (tells c.read_step.new.source)
    (told_next (tells c.loop-number.source).blobs (tells c.read_step.new.source).blobs c.args.steps.now c.loop-number.number c.loop-number.frames.items c.loop-number.commands.items c.index-steps-number.result c.in_ok-meaning.meaning.frame c.in_ok-meaning.meaning.command
    c.loop-number-test.true c.index-steps-number.is c.loop-number.invariant.told c.read_step.ensures.called.asked.blobs c.in_ok-meaning.ensures.told c.in_ok-meaning.ensures.cached)
    (omega (arith, c.loop-number.invariant.few, c.in_ok-meaning.ensures.few))

pub returns-clause-frame : goal.returns-clause-frame
returns-clause-frame g c =
    let tells = g.S.BlobSource.tells in
    stops_behind c.args.steps.now c.loop-number.number c.loop-number.frames.items c.loop-number.commands.items (tells c.args.source.now) (tells c.loop-number.source) c.loop-number.invariant.told c.loop-number.invariant.few

pub returns-in_err-meaning-clause-only : goal.returns-in_err-meaning-clause-only
returns-in_err-meaning-clause-only g c =
    opening_next c.args.steps.now c.loop-number.number c.loop-number.frames.items c.loop-number.commands.items c.index-steps-number.result c.loop-number-test.true c.index-steps-number.is c.loop-number.invariant.told c.read_step.ensures.called.asked.blobs c.loop-number.invariant.only c.read_step.ensures.only

pub returns-in_err-push-clause-only : goal.returns-in_err-push-clause-only
returns-in_err-push-clause-only g c =
    opening_next c.args.steps.now c.loop-number.number c.loop-number.frames.items c.loop-number.commands.items c.index-steps-number.result c.loop-number-test.true c.index-steps-number.is c.loop-number.invariant.told c.read_step.ensures.called.asked.blobs c.loop-number.invariant.only c.read_step.ensures.only

pub returns-in_err-push-2-clause-only : goal.returns-in_err-push-2-clause-only
returns-in_err-push-2-clause-only g c =
    opening_next c.args.steps.now c.loop-number.number c.loop-number.frames.items c.loop-number.commands.items c.index-steps-number.result c.loop-number-test.true c.index-steps-number.is c.loop-number.invariant.told c.read_step.ensures.called.asked.blobs c.loop-number.invariant.only c.read_step.ensures.only

pub returns-clause-only : goal.returns-clause-only
returns-clause-only g c = c.loop-number.invariant.only
