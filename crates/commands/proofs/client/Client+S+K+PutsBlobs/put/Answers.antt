use Rattle.std.proofs.Common.{◌≡◌, IfErr, OnOk, string_bytes, refl, subst, sym}
use Rattle.std.proofs.Math.Logic.{∥∥₁_map, ∥∥₁_map₂}
use Rattle.blob_digest.specs.Digest.{digest_of}
use Rattle.http_core.specs.declared.event.Area.TheVariants.{Ac, Cas}
use Rattle.remote.specs.Line.{RefusesRequest, put}
use Rattle.remote.specs.Remote.{connection_of, telling_of}
use Rattle.remote.specs.Table.{told_by}
use Rattle.commands.specs.Faults.{TellsFailure, kept_failure}
use Rattle.commands.specs.Places.{CameAllOver, KeepsRefused, puts_blobs}
use Rattle.commands.specs.declared.failure.Method.TheVariants.{PutBlob}
use Rattle.commands.specs.Put.{PutsNext}
use Rattle.commands.proofs.Failures.{blob_refused, keeps_after}
use Rattle.commands.proofs.Tellings.{LacksAllOver, comes_by_blob, same_put}
use Rattle.commands.proofs.client.Client+S+K+PutsBlobs.put.Goals as goal

-- what is told stays, and the connection comes on
pub invariant_of-self : goal.invariant_of-self
invariant_of-self g c =
    let start = g.K.Opened.start in
    let flow = g.S.Stream.flow in
    let old = connection_of flow c.args.self.now.remote in
    let new = connection_of flow c.send_blob-put.new.self in
    let told = telling_of c.args.self.now.remote in
    let telling = telling_of c.send_blob-put.new.self in
    let bytes = c.args.bytes.now in
    let sent = c.send_blob-put.ensures.sent in
    let kept = subst (λ x. c.keep_failure.new.kept ≡ kept_failure c.args.self.now.failure PutBlob x c.send_blob-put.result c.last_fault-fault.result)
    c.digest_put-digest.ensures c.keep_failure.ensures in
    record {
      over = ∥∥₁_map c.args.self.now.over (λ over. let on = same_put told.puts telling.puts telling.calls new sent.puts
          (comes_by_blob puts_blobs start (digest_of bytes).hash bytes old new told.puts told.calls telling.calls sent.called.asked.calls c.send_blob-put.result sent.taken sent.refused refl (over.came, over.puts, over.few)) in record {
            came = on.0;
            puts = on.1;
            few = on.2;
            failures = refl;
            blobs = subst (λ t. CameAllOver puts_blobs start Cas (told_by t)) (sym sent.blobs) over.blobs;
            results = subst (λ t. CameAllOver puts_blobs start Ac (told_by t)) (sym sent.results) over.results;
          });
      lacked = ∥∥₁_map c.args.self.now.lacked (λ lacked. record {
        blobs = subst (LacksAllOver puts_blobs start Cas) (sym sent.blobs) lacked.blobs;
        results = subst (LacksAllOver puts_blobs start Ac) (sym sent.results) lacked.results;
      });
      refused = subst (λ f. ∥ KeepsRefused puts_blobs start new f ∥₁) (sym kept)
          (∥∥₁_map₂ c.args.self.now.over c.args.self.now.refused (λ over before. keeps_after puts_blobs start old new c.args.self.now.failure PutBlob (digest_of bytes) bytes
          c.send_blob-put.result c.last_fault-fault.result sent.refused sent.called.unfailed (sym c.last_fault-fault.ensures) refl refl over.came before));
    }

pub returns-in-Ok-clause-taken : goal.returns-in-Ok-clause-taken
returns-in-Ok-clause-taken g c =
    let flow = g.S.Stream.flow in
    subst (λ r. OnOk r (PutsNext (connection_of flow c.args.self.now.remote) (connection_of flow c.send_blob-put.new.self) c.args.bytes.now)) c.in-Ok.is c.send_blob-put.ensures.sent.taken

pub returns-in_ok-error-in-Err-clause-refused : goal.returns-in_ok-error-in-Err-clause-refused
returns-in_ok-error-in-Err-clause-refused g c =
    let flow = g.S.Stream.flow in
    let address = string_bytes c.args.server.now.address in
    let bytes = c.args.bytes.now in
    let refusal = c.in-Err.refusal in
    let e = c.in_ok-error-in-Err.field-0 in
    let kept = subst (λ r. c.keep_failure.new.kept ≡ kept_failure c.args.self.now.failure PutBlob (digest_of bytes) r c.last_fault-fault.result) c.in-Err.is
    (subst (λ x. c.keep_failure.new.kept ≡ kept_failure c.args.self.now.failure PutBlob x c.send_blob-put.result c.last_fault-fault.result)
    c.digest_put-digest.ensures c.keep_failure.ensures) in
    let old = connection_of flow c.args.self.now.remote in
    let new = connection_of flow c.send_blob-put.new.self in
    blob_refused old new address bytes c.args.self.now.failure c.last_fault-fault.result refusal e
    (subst (λ r. IfErr r (RefusesRequest old new (put Cas (digest_of bytes).hash bytes))) c.in-Err.is c.send_blob-put.ensures.sent.refused)
    (sym c.last_fault-fault.ensures) (subst (λ f. TellsFailure address f refusal e) kept c.in_ok-error-in-Err.ensures.error)
