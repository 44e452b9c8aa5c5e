use Rattle.std.proofs.Common.{inl, inr, string_bytes}
use Rattle.std.proofs.Math.Logic.{∥∥₁_map}
use Rattle.std.proofs.lemmas.Result.{IfErr-weaker}
use Rattle.remote.specs.Remote.{connection_of}
use Rattle.commands.specs.Faults.{OrMemory}
use Rattle.commands.specs.Places.{FailsOfParts, FailsToConnect, IsOfBoth, IsToldByParts, LacksOfBoth, LacksOfParts}
use Rattle.commands.specs.Refusal.{FailsOfBoth}
use Rattle.commands.proofs.Exits.{exit_by}
use Rattle.commands.proofs.Placed.{fails_of_parts, lacked_of_parts, of_parts, place_weaker}
use Rattle.commands.proofs.Refused.{or_weaker}
use Rattle.commands.proofs.verifying.judge_both.Goals as goal

pub returns-in_err-remote-clause-fault : goal.returns-in_err-remote-clause-fault
returns-in_err-remote-clause-fault g c =
    let sees = g.W.World.sees c.args.world.now in
    let server = c.args.server.now in
    let folder = string_bytes c.args.folder in
    exit_by (OrMemory (λ e. ∥ FailsOfBoth sees server folder e ∥₁)) _ c.from_residual.ensures.1
    (or_weaker (FailsToConnect sees (string_bytes server.address)) (λ e. ∥ FailsOfBoth sees server folder e ∥₁) _ (λ fails. ∣ inr (inl fails) ∣₁) c.in_err-remote.ensures.fault)

pub returns-clause-answered : goal.returns-clause-answered
returns-clause-answered g c =
    let sees = g.W.World.sees c.args.world.now in
    let server = c.args.server.now in
    let folder = string_bytes c.args.folder in
    let start = connection_of g.W.Link.Stream.flow c.in_ok-remote.remote in
    let opened = c.in_ok-remote.ensures.opened in
    place_weaker c.args.case.now c.judge_parts.result (IsToldByParts start sees folder) (IsOfBoth sees server folder) (LacksOfParts start sees folder) (LacksOfBoth sees server folder)
    (of_parts sees server start opened folder) (lacked_of_parts sees server start opened folder) c.judge_parts.ensures.answered

pub returns-clause-fault : goal.returns-clause-fault
returns-clause-fault g c =
    let sees = g.W.World.sees c.args.world.now in
    let server = c.args.server.now in
    let folder = string_bytes c.args.folder in
    let address = string_bytes server.address in
    let start = connection_of g.W.Link.Stream.flow c.in_ok-remote.remote in
    IfErr-weaker c.judge_parts.result (OrMemory (λ e. ∥ FailsOfParts start sees folder address e ∥₁)) (OrMemory (λ e. ∥ FailsOfBoth sees server folder e ∥₁))
    (λ e. or_weaker (λ x. ∥ FailsOfParts start sees folder address x ∥₁) (λ x. ∥ FailsOfBoth sees server folder x ∥₁) e
    (λ is. ∥∥₁_map is (fails_of_parts sees server start c.in_ok-remote.ensures.opened folder e))) c.judge_parts.ensures.fault
