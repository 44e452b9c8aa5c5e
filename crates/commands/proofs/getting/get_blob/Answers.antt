use Rattle.std.proofs.Common.{rules, [], ◌≡◌, ◌≢◌, Some, None, Ok, Option, Result, ℕ, inr, refl, subst, sym, string_bytes}
use Rattle.std.specs.declared.alloc.Global.{Global}
use Rattle.std.specs.declared.vec.Vec.{Vec}
use Rattle.blob_digest.specs.Digest.{digest_of, empty_digest}
use Rattle.blob_source.specs.declared.source.FetchError.{FetchError}
use Rattle.remote.specs.Line.{RefusesRequest}
use Rattle.remote.specs.Remote.{blobs_of, connection_of}
use Rattle.commands.specs.Faults.{TellsFailure, kept_failure}
use Rattle.commands.specs.GetRefused.{FailsGetBlob}
use Rattle.commands.specs.GetRefused.FailsGetBlob.{in_bytes, in_reply}
use Rattle.commands.specs.Places.{RefusesAt, gets_alone, request_of}
use Rattle.commands.specs.declared.failure.Method.TheVariants.{GetBlob}
use Rattle.commands.proofs.Failures.{get_refused}
use Rattle.commands.proofs.Refused.{or_weaker}
use Rattle.commands.proofs.Tellings.{got_first}
use Rattle.commands.proofs.getting.get_blob.Goals as goal

pub returns-then-has_digest-clause-right : goal.returns-then-has_digest-clause-right
returns-then-has_digest-clause-right g c =
    let flow = g.S.Stream.flow in
    let old = c.args.client.now.remote in
    let new = c.fetch.new.self.remote in
    let digest = c.args.digest.now in
    let is : ◌≡◌ {A = Result (Option (Vec ℕ Global)) FetchError} c.fetch.result (Ok (Some c.in-Ok-Some.bytes)) = cc in
    record {
      right = subst (λ b. digest_of b ≡ digest) c.deref.ensures.value (c.has_digest.ensures.0 c.if-has_digest.true);
      came = inr (got_first digest g.K.Opened.start (connection_of flow old) (connection_of flow new) (blobs_of old) (blobs_of new) c.fetch.result (Some c.in-Ok-Some.bytes)
          c.requires.start c.fetch.ensures.asked (c.requires.fresh.blobs digest) is);
    }

pub returns-in-Ok-None-clause-none : goal.returns-in-Ok-None-clause-none
returns-in-Ok-None-clause-none g c =
    let flow = g.S.Stream.flow in
    let old = c.args.client.now.remote in
    let new = c.fetch.new.self.remote in
    let digest = c.args.digest.now in
    let is : ◌≡◌ {A = Result (Option (Vec ℕ Global)) FetchError} c.fetch.result (Ok None) = cc in
    got_first digest g.K.Opened.start (connection_of flow old) (connection_of flow new) (blobs_of old) (blobs_of new) c.fetch.result None
    c.requires.start c.fetch.ensures.asked (c.requires.fresh.blobs digest) is

pub returns-in_ok-blob_error-in-Ok-Some-clause-fault : goal.returns-in_ok-blob_error-in-Ok-Some-clause-fault
returns-in_ok-blob_error-in-Ok-Some-clause-fault g c =
    let flow = g.S.Stream.flow in
    let old = c.args.client.now.remote in
    let new = c.fetch.new.self.remote in
    let digest = c.args.digest.now in
    let is : ◌≡◌ {A = Result (Option (Vec ℕ Global)) FetchError} c.fetch.result (Ok (Some c.in-Ok-Some.bytes)) = cc in
    let other : digest_of c.in-Ok-Some.bytes.items ≢ digest = λ same.
    let yes = c.has_digest.ensures.1 (subst (λ b. digest_of b ≡ digest) (sym c.deref.ensures.value) same) in
    let no = c.if-has_digest.false in
    cc (yes, no) in
    let some : digest ≢ empty_digest = search rules in
    inr (in_bytes some (record {
      bytes = c.in-Ok-Some.bytes.items;
      came = got_first digest g.K.Opened.start (connection_of flow old) (connection_of flow new) (blobs_of old) (blobs_of new) c.fetch.result (Some c.in-Ok-Some.bytes)
          c.requires.start c.fetch.ensures.asked (c.requires.fresh.blobs digest) is;
      other = other;
    }) c.in_ok-blob_error-in-Ok-Some.ensures)

pub returns-in_ok-error-in-Err-clause-fault : goal.returns-in_ok-error-in-Err-clause-fault
returns-in_ok-error-in-Err-clause-fault g c =
    let flow = g.S.Stream.flow in
    let old = c.args.client.now in
    let new = c.fetch.new.self in
    let start = g.K.Opened.start in
    let after = connection_of flow new.remote in
    let address = string_bytes c.args.server.now.address in
    let digest = c.args.digest.now in
    let refusal = c.in-Err.refusal in
    let e = c.in_ok-error-in-Err.field-0 in
    let some : digest ≢ empty_digest = search rules in
    let kept = subst (λ r. new.failure ≡ kept_failure old.failure GetBlob digest r after.fault) c.in-Err.is c.fetch.ensures.kept in
    or_weaker (RefusesAt gets_alone start address GetBlob digest []) (FailsGetBlob start address digest) e (in_reply some)
    (get_refused (Option (Vec ℕ Global)) start after address digest old.failure after.fault refusal e
    (subst (λ s. RefusesRequest s after (request_of GetBlob digest.hash []) refusal) (sym c.requires.start) c.in-Err.ensures.asked.refused) refl
    (subst (λ f. TellsFailure address f refusal e) kept c.in_ok-error-in-Err.ensures.error))
