use Rattle.std.proofs.Common.{◌≡◌, inl, refl, subst, sym}
use Rattle.std.proofs.Math.Logic.{∥∥₁_map, ∥∥₁_map₂}
use Rattle.blob_digest.specs.Digest.{digest_of}
use Rattle.http_core.specs.declared.event.Area.TheVariants.{Ac, Cas}
use Rattle.remote.specs.Remote.{blobs_of, connection_of, telling_of}
use Rattle.remote.specs.Table.{told_by}
use Rattle.commands.specs.Faults.{kept_failure}
use Rattle.commands.specs.Places.{CameAllOver, KeepsRefused, puts_too}
use Rattle.commands.specs.declared.failure.Method.TheVariants.{PutBlob}
use Rattle.commands.proofs.Failures.{keeps_after}
use Rattle.commands.proofs.Taken.{taken_by_put}
use Rattle.commands.proofs.Tellings.{LacksAllOver, blob_there, came_by_put, comes_by_blob, lacks_by_put, same_put}
use Rattle.commands.proofs.client.ClientPutsTooBlobSinkGlobal.put_blob.Goals as goal

pub invariant_of-self : goal.invariant_of-self
invariant_of-self g c =
    let start = g.K.Opened.start in
    let flow = g.S.Stream.flow in
    let old = c.args.self.now.remote in
    let new = c.put_blob-put.new.self in
    let d = digest_of c.args.bytes.now in
    let bytes = c.args.bytes.now in
    let put = c.put_blob-put.ensures in
    let kept = subst (λ x. c.keep_failure.new.kept ≡ kept_failure c.args.self.now.failure PutBlob x c.put_blob-put.result c.last_fault-fault.result)
    c.digest_put-digest.ensures c.keep_failure.ensures in
    record {
      over = ∥∥₁_map c.args.self.now.over (λ over. let on = same_put (telling_of old).puts (telling_of new).puts (telling_of new).calls _ put.called.asked.puts
          (comes_by_blob puts_too start d.hash bytes (connection_of flow old) (connection_of flow new) (telling_of old).puts (telling_of old).calls (telling_of new).calls put.called.asked.counts.calls c.put_blob-put.result put.stored.taken put.stored.refused (inl refl) (over.came, over.puts, over.few)) in record {
            came = on.0;
            puts = on.1;
            few = on.2;
            failures = refl;
            blobs = came_by_put start Cas d bytes (connection_of flow old) (connection_of flow new) (blobs_of old) (blobs_of new) c.put_blob-put.result put.stored (inl refl) over.came
                put.called.asked.blobs over.blobs;
            results = subst (λ t. CameAllOver puts_too start Ac (told_by t)) (sym put.untouched) over.results;
          });
      lacked = ∥∥₁_map c.args.self.now.lacked (λ lacked. record {
        blobs = lacks_by_put puts_too start Cas d bytes (connection_of flow old) (connection_of flow new) (blobs_of old) (blobs_of new) c.put_blob-put.result put.stored
            (blob_there bytes (told_by (blobs_of old)) (told_by (blobs_of new)) c.put_blob-put.result put.held) lacked.blobs;
        results = subst (LacksAllOver puts_too start Ac) (sym put.untouched) lacked.results;
      });
      refused = subst (λ f. ∥ KeepsRefused puts_too start (connection_of flow new) f ∥₁) (sym kept)
          (∥∥₁_map₂ c.args.self.now.over c.args.self.now.refused (λ over before. keeps_after puts_too start (connection_of flow old) (connection_of flow new)
          c.args.self.now.failure PutBlob d bytes c.put_blob-put.result c.last_fault-fault.result put.stored.refused put.called.unfailed (sym c.last_fault-fault.ensures) refl (inl refl) over.came before));
    }

pub returns-clause-taken : goal.returns-clause-taken
returns-clause-taken g c =
    let flow = g.S.Stream.flow in
    let old = c.args.self.now.remote in
    let new = c.put_blob-put.new.self in
    taken_by_put puts_too g.K.Opened.start (connection_of flow old) (connection_of flow new) c.args.bytes.now c.put_blob-put.result c.put_blob-put.ensures.stored.taken
    (∥∥₁_map c.args.self.now.over (λ over. over.came))
