use Rattle.std.proofs.Common.{◌≡◌, ◌∙◌, ap, rules, subst}
use Rattle.blob_digest.specs.Digest.{digest_of}
use Rattle.http_core.specs.declared.event.Area.TheVariants.{Cas}
use Rattle.blob_source.specs.Sink.{HasRight, KeepsRight, PutsAt}
use Rattle.blob_source.proofs.Asking.{ok_no_error}
use Rattle.blob_source.proofs.Puts.{right_put}
use Rattle.remote.specs.Line.{ConnectionValue, line_value}
use Rattle.remote.specs.Steps.{KeepsNothing}
use Rattle.remote.specs.Table.{told_by}
use Rattle.remote.proofs.Storing.{puts_kept, stores_unkept}
use Rattle.remote.proofs.remote.RemoteBlobSink.put_blob.Goals as goal

pub returns-in_err-keep_bytes-clause-stored : goal.returns-in_err-keep_bytes-clause-stored
returns-in_err-keep_bytes-clause-stored g c =
    let flow = g.S.Stream.flow in
    let sent = c.in_ok-digest.ensures.sent in
    let mid = line_value flow c.send_blob.new.self.line in
    let new = line_value flow c.keep_bytes.new.line in
    stores_unkept Cas (digest_of c.args.bytes.now) c.args.bytes.now (line_value flow c.args.self.now.line) mid new c.args.self.now.blobs c.keep_bytes.new.table
    c.from_residual-in_err-keep_bytes.result c.in_err-keep_bytes.field-0.0 sent.taken
    (subst (λ t. KeepsNothing t c.keep_bytes.new.table mid new c.in_err-keep_bytes.field-0.0) sent.blobs c.in_err-keep_bytes.ensures.err) c.from_residual-in_err-keep_bytes.ensures.1

pub returns-clause-called : goal.returns-clause-called
returns-clause-called g c =
    let sent = c.in_ok-digest.ensures.sent in
    let mid = c.send_blob.new.self.blobs in
    let new = c.keep_bytes.new.table in
    let d = digest_of c.args.bytes.now in
    let kept = c.in_ok-keep_bytes.ensures.ok in
    let puts : PutsAt d c.args.bytes.now (told_by mid) (told_by new) =
    subst (λ d. PutsAt d c.args.bytes.now (told_by mid) (told_by new)) c.in_ok-digest.ensures.named (puts_kept mid new c.in_ok-digest.digest c.args.bytes.now kept.keeps) in
    let none : HasRight (told_by mid) d → ⊥ = λ right.
    (let is = c.if-has_right.ensures.1 (subst (HasRight (told_by mid)) (search (rules, c.in_ok-digest.ensures.named)) right) in cc) in
    let stays : c.keep_bytes.new.line.failures ≡ c.send_blob.new.self.line.failures = ap (λ (z : ConnectionValue). z.failures) kept.connection in
    let counts = sent.called.asked in
    record {
      asked = record {
        blobs = subst (λ t. PutsAt d c.args.bytes.now (told_by t) (told_by new)) sent.blobs puts;
        right = subst (λ t. KeepsRight (told_by t) (told_by new)) sent.blobs (right_put none puts);
        results = ap told_by sent.results;
        puts = sent.puts;
        counts = record { calls = counts.calls; risen = counts.risen; failures = rw stays counts.failures; bounded = rw stays counts.bounded };
      };
      failed = λ f. absurd (ok_no_error f);
      unfailed = λ _. stays ∙ sent.called.unfailed ok_no_error;
    }
