use Rattle.std.proofs.Common.{◌∷◌, arith, inr, subst}
use Rattle.commands.specs.Faults.{OrMemory}
use Rattle.commands.specs.Printed.{JudgesAsked}
use Rattle.commands.specs.Stages.{FailsClaimOf, FailsStages, LeadsTo, stage_options, stages_asked}
use Rattle.commands.specs.Stages.FailsStages.{in_claim, in_stage}
use Rattle.commands.specs.Stages.LeadsTo.{begin, next}
use Rattle.commands.proofs.Exits.{exit_by}
use Rattle.commands.proofs.Refused.{or_weaker}
use Rattle.commands.proofs.staging.judge_stages.Goals as goal

pub loop-stage-init : goal.loop-stage-init
loop-stage-init g c = (begin, omega arith)

pub returns-in_err-claim-clause-fault : goal.returns-in_err-claim-clause-fault
returns-in_err-claim-clause-fault g c =
    let sees = g.W.World.sees c.args.world.now in
    let asked = stages_asked (g.M.Options.rows c.args.said.now) c.args.evidence.now c.args.stages.now c.args.digests.now.sources c.args.digests.now.claim in
    let stage = c.in-Some.stage.now in
    let left = c.in-Some.left.now in
    let reached : LeadsTo sees asked (stage ∷ left) c.loop-stage.sources c.loop-stage.steps = subst (λ r. LeadsTo sees asked r c.loop-stage.sources c.loop-stage.steps) c.in-Some.ensures.cases.0 c.loop-stage.invariant.0 in
    exit_by (OrMemory (FailsStages sees asked)) _ c.from_residual.ensures.1
    (or_weaker (FailsClaimOf sees c.args.evidence.now stage left) (FailsStages sees asked) _ (in_claim stage left c.loop-stage.sources c.loop-stage.steps reached) c.in_err-claim.ensures.fault)

pub returns-in_err-more-clause-fault : goal.returns-in_err-more-clause-fault
returns-in_err-more-clause-fault g c =
    let sees = g.W.World.sees c.args.world.now in
    let asked = stages_asked (g.M.Options.rows c.args.said.now) c.args.evidence.now c.args.stages.now c.args.digests.now.sources c.args.digests.now.claim in
    let stage = c.in-Some.stage.now in
    let left = c.in-Some.left.now in
    let reached : LeadsTo sees asked (stage ∷ left) c.loop-stage.sources c.loop-stage.steps = subst (λ r. LeadsTo sees asked r c.loop-stage.sources c.loop-stage.steps) c.in-Some.ensures.cases.0 c.loop-stage.invariant.0 in
    exit_by (OrMemory (FailsStages sees asked)) _ c.from_residual-in_err-more.ensures.1
    (inr (in_stage stage (record {
      left = left;
      sources = c.loop-stage.sources;
      before = c.loop-stage.steps;
      reached = reached;
      claim = c.in_ok-claim.claim;
      claim_is = c.in_ok-claim.ensures.found;
      says = c.in_err-more.ensures.fault;
    })))

pub loop-stage-preserved : goal.loop-stage-preserved
loop-stage-preserved g c =
    let sees = g.W.World.sees c.args.world.now in
    let asked = stages_asked (g.M.Options.rows c.args.said.now) c.args.evidence.now c.args.stages.now c.args.digests.now.sources c.args.digests.now.claim in
    let stage = c.in-Some.stage.now in
    let left = c.in-Some.left.now in
    let split = c.in-Some.ensures.cases.0 in
    let long = c.in-Some.ensures.cases.1 in
    let within = c.loop-stage.invariant.1 in
    let reached : LeadsTo sees asked (stage ∷ left) c.loop-stage.sources c.loop-stage.steps = subst (λ r. LeadsTo sees asked r c.loop-stage.sources c.loop-stage.steps) split c.loop-stage.invariant.0 in (
      next stage left c.loop-stage.sources c.in_ok-claim.claim c.in-Yes.root c.loop-stage.steps c.in-Yes.more reached c.in_ok-claim.ensures.found
          (subst (JudgesAsked sees (stage_options (g.M.Options.rows c.args.said.now) c.args.evidence.now stage c.loop-stage.sources c.in_ok-claim.claim)) c.in-Yes.is c.in_ok-more.ensures.judged),
      omega (arith, within, long),
    )
