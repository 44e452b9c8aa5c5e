use Rattle.std.proofs.Common.{inr, refl, subst, sym}
use Rattle.std.proofs.Math.Logic.{∥∥₁_map, ∥∥₁_map₂}
use Rattle.http_core.specs.declared.event.Area.TheVariants.{Ac, Cas}
use Rattle.remote.specs.Remote.{connection_of, results_of, telling_of}
use Rattle.remote.specs.Table.{told_by}
use Rattle.commands.specs.Places.{CameAllOver, KeepsRefused, puts_too}
use Rattle.commands.specs.declared.failure.Method.TheVariants.{PutResult}
use Rattle.commands.proofs.Failures.{keeps_after}
use Rattle.commands.proofs.Tellings.{LacksAllOver, came_by_put, comes_by_result, lacks_by_put, result_there}
use Rattle.commands.proofs.client.ClientPutsTooBlobSinkGlobal.put_result.Goals as goal

pub invariant_of-self : goal.invariant_of-self
invariant_of-self g c =
    let start = g.K.Opened.start in
    let flow = g.S.Stream.flow in
    let old = c.args.self.now.remote in
    let new = c.put_result-put.new.self in
    let d = c.args.digest.now in
    let bytes = c.args.bytes.now in
    let put = c.put_result-put.ensures in
    let kept = c.keep_failure.ensures in
    record {
      over = ∥∥₁_map c.args.self.now.over (λ over. let on = comes_by_result puts_too start d bytes (connection_of flow old) (connection_of flow new) (telling_of old).puts (telling_of new).puts
          (telling_of old).calls (telling_of new).calls put.called.asked.counts.calls c.put_result-put.result put.stored.taken put.stored.refused (inr (d.hash, refl)) put.listed put.unlisted (over.came, over.puts, over.few) in record {
            came = on.0;
            puts = on.1;
            few = on.2;
            failures = refl;
            results = came_by_put start Ac d bytes (connection_of flow old) (connection_of flow new) (results_of old) (results_of new) c.put_result-put.result put.stored (inr (d.hash, refl)) over.came
                put.called.asked.results over.results;
            blobs = subst (λ t. CameAllOver puts_too start Cas (told_by t)) (sym put.untouched) over.blobs;
          });
      lacked = ∥∥₁_map c.args.self.now.lacked (λ lacked. record {
        results = lacks_by_put puts_too start Ac d bytes (connection_of flow old) (connection_of flow new) (results_of old) (results_of new) c.put_result-put.result put.stored
            (result_there d bytes (told_by (results_of new)) c.put_result-put.result put.held) lacked.results;
        blobs = subst (LacksAllOver puts_too start Cas) (sym put.untouched) lacked.blobs;
      });
      refused = subst (λ f. ∥ KeepsRefused puts_too start (connection_of flow new) f ∥₁) (sym kept)
          (∥∥₁_map₂ c.args.self.now.over c.args.self.now.refused (λ over before. keeps_after puts_too start (connection_of flow old) (connection_of flow new)
          c.args.self.now.failure PutResult d bytes c.put_result-put.result c.last_fault-fault.result put.stored.refused put.called.unfailed (sym c.last_fault-fault.ensures) tt (inr (d.hash, refl)) over.came before));
    }
