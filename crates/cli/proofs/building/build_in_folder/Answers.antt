use Rattle.std.proofs.Common.{◌≡◌, ◌∙◌, inl, inr, refl, rules, string_bytes, subst, sym}
use Rattle.std.proofs.Math.Logic.{∥∥₁_map}
use Rattle.builder.specs.Faults.{IsStoreFailure, fault_of}
use Rattle.remote.specs.Remote.{connection_of, telling_of}
use Rattle.cli.proofs.Builds.{server_stops, stops_of, told_as}
use Rattle.cli.proofs.Within.{run_below}
use Rattle.commands.proofs.Exits.{exit_by}
use Rattle.commands.proofs.Tellings.{nothing_by}
use Rattle.blob_source.specs.Memory.{TellsNothing}
use Rattle.cli.specs.Refused.{FailsTelling}
use Rattle.cli.proofs.building.build_in_folder.Goals as goal

pub end_steps-requires : goal.end_steps-requires
end_steps-requires g c = record { idle = c.tell_build-told.ensures.told.order.alive ∙ c.steps-runner.ensures.idle }

pub returns-in-Ok-clause-told : goal.returns-in-Ok-clause-told
returns-in-Ok-clause-told g c =
    let asked = c.args.asked.now in
    let work : string_bytes c.in_ok-work.work ≡ string_bytes asked.work = search rules in
    let remote = c.tell_build-told.new.sink.remote in record {
      by = told_as g.K.Opened.start asked.plan asked.sources asked.jobs _ _
          (subst (λ r. TellsNothing (telling_of r)) (sym c.new-client.ensures.remote) (nothing_by c.args.remote c.requires.fresh))
          (∥∥₁_map c.tell_build-told.new.sink.over (λ over. (connection_of g.S.Stream.flow remote, over))) _ _
          (run_below (g.P.Workplace.below c.args.workplace c.args.errors) work c.steps-runner.ensures.yields c.steps-runner.ensures.unstarted (λ started h. c.steps-runner.ensures.no_more started (c.tell_build-told.ensures.no_more started (c.end_steps.ensures.ran started h)))) c.tell_build-told.result c.tell_build-told.ensures.told.came c.tell_build-told.ensures.told.order.fetched _ c.in-Ok.is;
      holds = c.in_ok-put_root-in-Ok.ensures.held;
    }

-- memory ran out
pub returns-in_err-work-clause-fault : goal.returns-in_err-work-clause-fault
returns-in_err-work-clause-fault g c =
    let asked = c.args.asked.now in
    exit_by (FailsTelling g.K.Opened.start (string_bytes asked.server.address) (g.P.Workplace.below c.args.workplace c.args.errors (string_bytes asked.work)) asked.jobs asked.plan asked.sources) _
    c.from_residual.ensures.1 (inl refl)

-- a request failed
pub returns-in_err-put_root-in-Ok-clause-fault : goal.returns-in_err-put_root-in-Ok-clause-fault
returns-in_err-put_root-in-Ok-clause-fault g c =
    let asked = c.args.asked.now in
    let address = string_bytes asked.server.address in
    let processes = g.P.Workplace.below c.args.workplace c.args.errors (string_bytes asked.work) in
    let work : string_bytes c.in_ok-work.work ≡ string_bytes asked.work = search rules in
    let remote = c.tell_build-told.new.sink.remote in
    exit_by (FailsTelling g.K.Opened.start address processes asked.jobs asked.plan asked.sources) _ c.from_residual-in_err-put_root-in-Ok.ensures.1
    (server_stops g.K.Opened.start asked.plan asked.sources asked.jobs _ _
    (subst (λ r. TellsNothing (telling_of r)) (sym c.new-client.ensures.remote) (nothing_by c.args.remote c.requires.fresh))
    (∥∥₁_map c.tell_build-told.new.sink.over (λ over. (connection_of g.S.Stream.flow remote, over))) _ _
    (run_below (g.P.Workplace.below c.args.workplace c.args.errors) work c.steps-runner.ensures.yields c.steps-runner.ensures.unstarted (λ started h. c.steps-runner.ensures.no_more started (c.tell_build-told.ensures.no_more started (c.end_steps.ensures.ran started h))))
    c.tell_build-told.result c.tell_build-told.ensures.told.came c.tell_build-told.ensures.told.order.fetched
    address _ _ c.in-Ok.is c.in_err-put_root-in-Ok.ensures.whole c.in_err-put_root-in-Ok.ensures.fault)

pub returns-in-Fetch-clause-fault : goal.returns-in-Fetch-clause-fault
returns-in-Fetch-clause-fault g c =
    let asked = c.args.asked.now in
    let work : string_bytes c.in_ok-work.work ≡ string_bytes asked.work = search rules in
    let remote = c.tell_build-told.new.sink.remote in
    let fails : IsStoreFailure (fault_of c.in-Err.error) = subst IsStoreFailure (sym c.in-Fetch.is ∙ c.fault_of.ensures) tt in
    server_stops g.K.Opened.start asked.plan asked.sources asked.jobs _ _
    (subst (λ r. TellsNothing (telling_of r)) (sym c.new-client.ensures.remote) (nothing_by c.args.remote c.requires.fresh))
    (∥∥₁_map c.tell_build-told.new.sink.over (λ over. (connection_of g.S.Stream.flow remote, over))) _ _
    (run_below (g.P.Workplace.below c.args.workplace c.args.errors) work c.steps-runner.ensures.yields c.steps-runner.ensures.unstarted (λ started h. c.steps-runner.ensures.no_more started (c.tell_build-told.ensures.no_more started (c.end_steps.ensures.ran started h))))
    c.tell_build-told.result c.tell_build-told.ensures.told.came c.tell_build-told.ensures.told.order.fetched
    (string_bytes asked.server.address) _ _ c.in-Err.is fails c.in_ok-error-in-Fetch.ensures.over

-- a process came to nothing
pub returns-in-Some-clause-fault : goal.returns-in-Some-clause-fault
returns-in-Some-clause-fault g c =
    let asked = c.args.asked.now in
    let work : string_bytes c.in_ok-work.work ≡ string_bytes asked.work = search rules in
    let remote = c.tell_build-told.new.sink.remote in
    inr (inl (stops_of g.K.Opened.start asked.plan asked.sources asked.jobs _ _
    (subst (λ r. TellsNothing (telling_of r)) (sym c.new-client.ensures.remote) (nothing_by c.args.remote c.requires.fresh))
    (∥∥₁_map c.tell_build-told.new.sink.over (λ over. (connection_of g.S.Stream.flow remote, over))) _ _
    (run_below (g.P.Workplace.below c.args.workplace c.args.errors) work c.steps-runner.ensures.yields c.steps-runner.ensures.unstarted (λ started h. c.steps-runner.ensures.no_more started (c.tell_build-told.ensures.no_more started (c.end_steps.ensures.ran started h))))
    c.tell_build-told.result c.tell_build-told.ensures.told.came c.tell_build-told.ensures.told.order.fetched
    c.in-Err.error c.in-Some.stopped _ c.in-Err.is c.in-Some.ensures.some c.in_ok-process_error-in-Some.ensures))
