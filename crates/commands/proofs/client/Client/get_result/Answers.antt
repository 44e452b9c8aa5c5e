use Rattle.std.proofs.Common.{[], refl, subst, sym}
use Rattle.std.proofs.Math.Logic.{∥∥₁_map, ∥∥₁_map₂}
use Rattle.http_core.specs.declared.event.Area.TheVariants.{Ac, Cas}
use Rattle.remote.specs.Remote.{connection_of, results_of, telling_of}
use Rattle.remote.specs.Table.{told_by}
use Rattle.commands.specs.Places.{CameAllOver, KeepsRefused}
use Rattle.commands.specs.declared.failure.Method.TheVariants.{GetResult}
use Rattle.commands.proofs.Failures.{keeps_after}
use Rattle.commands.proofs.Tellings.{LacksAllOver, came_on, comes_on, lacks_now, lacks_on, same_put}
use Rattle.commands.proofs.client.Client.get_result.Goals as goal

pub invariant_of-self : goal.invariant_of-self
invariant_of-self g c =
    let access = g.U.Permit.access in
    let start = g.K.Opened.start in
    let flow = g.S.Stream.flow in
    let old = c.args.self.now.remote in
    let new = c.result-found.new.self in
    let d = c.args.digest.now in
    let is = c.result-found.ensures in
    record {
      over = ∥∥₁_map c.args.self.now.over (λ over. let on = same_put (telling_of old).puts (telling_of new).puts (telling_of new).calls _ is.called.asked.puts
          (comes_on access start Ac d c.requires.asks (connection_of flow old) (connection_of flow new) (results_of old) (results_of new) (telling_of old).puts (telling_of old).calls (telling_of new).calls is.called.asked.counts.calls c.result-found.result is.asked (over.came, over.puts, over.few)) in record {
            came = on.0;
            puts = on.1;
            few = on.2;
            failures = refl;
            results = came_on access start Ac d c.requires.asks (connection_of flow old) (connection_of flow new) (results_of old) (results_of new) c.result-found.result is.asked over.came
                is.told is.called.asked.results over.results;
            blobs = subst (λ t. CameAllOver access start Cas (told_by t)) (sym is.untouched) over.blobs;
          });
      lacked = ∥∥₁_map₂ c.args.self.now.over c.args.self.now.lacked (λ over lacked. record {
        results = lacks_on access start Ac d c.requires.asks (connection_of flow old) (connection_of flow new) (results_of old) (results_of new) c.result-found.result is.asked over.came
            is.told lacked.results;
        blobs = subst (LacksAllOver access start Cas) (sym is.untouched) lacked.blobs;
      });
      refused = subst (λ f. ∥ KeepsRefused access start (connection_of flow new) f ∥₁) (sym c.keep_failure.ensures)
          (∥∥₁_map₂ c.args.self.now.over c.args.self.now.refused (λ over kept. keeps_after access start (connection_of flow old) (connection_of flow new)
          c.args.self.now.failure GetResult d [] c.result-found.result c.last_fault-fault.result is.asked.refused is.called.unfailed (sym c.last_fault-fault.ensures) refl c.requires.asks over.came kept));
    }

pub returns-clause-lacked : goal.returns-clause-lacked
returns-clause-lacked g c =
    let flow = g.S.Stream.flow in
    let old = c.args.self.now.remote in
    let new = c.result-found.new.self in
    lacks_now g.U.Permit.access g.K.Opened.start Ac c.args.digest.now c.requires.asks (connection_of flow old) (connection_of flow new) (results_of old) (results_of new) c.result-found.result
    c.result-found.ensures.asked (∥∥₁_map c.args.self.now.over (λ over. over.came)) c.result-found.ensures.told (∥∥₁_map c.args.self.now.lacked (λ lacked. lacked.results))
