use Rattle.std.proofs.Common.{inl, inr}
use Rattle.commands.specs.Evidence.{FailsStated, options_in}
use Rattle.commands.specs.Faults.{OrMemory}
use Rattle.commands.specs.Refusal.{FailsDigests}
use Rattle.commands.specs.Stages.{SpellsDigests}
use Rattle.commands.specs.Verified.{FailsSpelled}
use Rattle.commands.proofs.Asked.{ok_spelled, ok_stated, stated}
use Rattle.commands.proofs.Exits.{err_weaker, exit_by}
use Rattle.commands.proofs.Refused.{or_weaker}
use Rattle.commands.proofs.staging.stated_digests.Goals as goal

pub returns-in_err-stated-clause-fault : goal.returns-in_err-stated-clause-fault
returns-in_err-stated-clause-fault g c =
    let outside = g.V.World.sees c.args.outside.now in
    let sees = g.W.World.sees c.args.world.now in
    let rows = g.M.Options.rows c.args.said.now in
    exit_by (OrMemory (FailsSpelled outside sees rows c.args.evidence.now)) _ c.from_residual.ensures.1
    (or_weaker (FailsStated outside sees rows c.args.evidence.now) (FailsSpelled outside sees rows c.args.evidence.now) _ inl c.in_err-stated.ensures.fault)

pub returns-clause-stated : goal.returns-clause-stated
returns-clause-stated g c =
    let outside = g.V.World.sees c.args.outside.now in
    let sees = g.W.World.sees c.args.world.now in
    let rows = g.M.Options.rows c.args.said.now in
    let made = options_in (g.M.Options.rows c.in_ok-stated.stated.options.said.now) c.in_ok-stated.stated.options in
    ok_stated outside sees rows c.args.evidence.now made (λ d o. SpellsDigests o d.sources d.claim) c.typed_digests.result c.in_ok-stated.ensures.stated
    (ok_spelled made c.typed_digests.result c.typed_digests.ensures.sources c.typed_digests.ensures.claim)

pub returns-clause-fault : goal.returns-clause-fault
returns-clause-fault g c =
    let outside = g.V.World.sees c.args.outside.now in
    let sees = g.W.World.sees c.args.world.now in
    let rows = g.M.Options.rows c.args.said.now in
    let made = options_in (g.M.Options.rows c.in_ok-stated.stated.options.said.now) c.in_ok-stated.stated.options in
    err_weaker c.typed_digests.result (FailsDigests made) (OrMemory (FailsSpelled outside sees rows c.args.evidence.now))
    (λ e fails. inr (inr (stated outside sees rows c.args.evidence.now made (λ o. FailsDigests o e) c.in_ok-stated.ensures.stated fails))) c.typed_digests.ensures.fault
