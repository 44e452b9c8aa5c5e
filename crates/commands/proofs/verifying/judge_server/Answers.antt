use Rattle.std.proofs.Common.{inl, inr, string_bytes}
use Rattle.std.proofs.Math.Logic.{∥∥₁_map}
use Rattle.std.proofs.lemmas.Result.{IfErr-weaker}
use Rattle.remote.specs.Remote.{connection_of}
use Rattle.commands.specs.Faults.{OrMemory}
use Rattle.commands.specs.Places.{FailsOver, FailsToConnect, IsOfServer, IsToldOver, LacksAtServer, LacksIt, gets_alone}
use Rattle.commands.specs.Refusal.{FailsServer}
use Rattle.commands.proofs.Exits.{exit_by}
use Rattle.commands.proofs.Placed.{place_weaker}
use Rattle.commands.proofs.Refused.{or_weaker}
use Rattle.commands.proofs.verifying.judge_server.Goals as goal

pub returns-in_err-remote-clause-fault : goal.returns-in_err-remote-clause-fault
returns-in_err-remote-clause-fault g c =
    let sees = g.W.World.sees c.args.world.now in
    let server = c.args.server.now in
    exit_by (OrMemory (λ e. ∥ FailsServer gets_alone sees server e ∥₁)) _ c.from_residual.ensures.1
    (or_weaker (FailsToConnect sees (string_bytes server.address)) (λ e. ∥ FailsServer gets_alone sees server e ∥₁) _ (λ fails. ∣ inl fails ∣₁) c.in_err-remote.ensures.fault)

pub returns-clause-answered : goal.returns-clause-answered
returns-clause-answered g c =
    let sees = g.W.World.sees c.args.world.now in
    let server = c.args.server.now in
    let start = connection_of g.W.Link.Stream.flow c.in_ok-remote.remote in
    let opened = c.in_ok-remote.ensures.opened in
    place_weaker c.args.case.now c.judge_over.result (IsToldOver gets_alone start) (IsOfServer gets_alone sees server) (LacksIt gets_alone start) (LacksAtServer gets_alone sees server)
    (λ told over. record { start = start; opened = opened; over = over }) (λ l lacks. record { start = start; opened = opened; lacks = lacks }) c.judge_over.ensures.answered

pub returns-clause-fault : goal.returns-clause-fault
returns-clause-fault g c =
    let sees = g.W.World.sees c.args.world.now in
    let server = c.args.server.now in
    let address = string_bytes server.address in
    let start = connection_of g.W.Link.Stream.flow c.in_ok-remote.remote in
    IfErr-weaker c.judge_over.result (OrMemory (λ e. ∥ FailsOver gets_alone start address e ∥₁)) (OrMemory (λ e. ∥ FailsServer gets_alone sees server e ∥₁))
    (λ e. or_weaker (λ x. ∥ FailsOver gets_alone start address x ∥₁) (λ x. ∥ FailsServer gets_alone sees server x ∥₁) e
    (λ is. ∥∥₁_map is (λ fails. inr (start, c.in_ok-remote.ensures.opened, fails)))) c.judge_over.ensures.fault
