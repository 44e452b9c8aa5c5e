use Rattle.std.proofs.Common.{refl, subst, sym}
use Rattle.std.specs.Prelude.{◌↔◌, IsTrue, Some}
use Rattle.report.specs.Line.{IsYesOfStages}
use Rattle.commands.specs.Printed.{NotesFolder}
use Rattle.commands.specs.Stages.{AsksStages, FailsStages, stages_asked}
use Rattle.commands.specs.Verified.{FailsInside, FailsSpelled}
use Rattle.commands.specs.Verified.FailsInside.{in_memory, in_plans, in_spelled}
use Rattle.commands.specs.Verified.OnPlans.{of_stages}
use Rattle.commands.proofs.Exits.{exit_by}
use Rattle.commands.proofs.Refused.{or_memory}
use Rattle.commands.proofs.staging.verify_stages.Goals as goal

pub returns-in_err-digests-clause-refused : goal.returns-in_err-digests-clause-refused
returns-in_err-digests-clause-refused g c =
    let outside = g.V.World.sees c.args.outside.now in
    let sees = g.W.World.sees c.args.world.now in
    let rows = g.M.Options.rows c.args.said.now in
    let evidence = c.args.evidence.now in
    exit_by (FailsInside outside sees rows evidence) _ c.from_residual.ensures.1
    (or_memory (FailsSpelled outside sees rows evidence) (FailsInside outside sees rows evidence) _ in_memory (in_spelled c.args.stages.now c.requires) c.in_err-digests.ensures.fault)

pub returns-in_err-verdict-clause-refused : goal.returns-in_err-verdict-clause-refused
returns-in_err-verdict-clause-refused g c =
    let outside = g.V.World.sees c.args.outside.now in
    let sees = g.W.World.sees c.args.world.now in
    let rows = g.M.Options.rows c.args.said.now in
    let evidence = c.args.evidence.now in
    let digests = c.in_ok-digests.digests in
    let asked = stages_asked rows evidence c.args.stages.now digests.sources digests.claim in
    let asks : AsksStages outside sees asked = record { lists = c.requires; states = c.in_ok-digests.ensures.stated } in
    exit_by (FailsInside outside sees rows evidence) _ c.from_residual-in_err-verdict.ensures.1
    (or_memory (FailsStages sees asked) (FailsInside outside sees rows evidence) _ in_memory (λ fails. in_plans (of_stages c.args.stages.now digests.sources digests.claim asks fails)) c.in_err-verdict.ensures.fault)

pub returns-clause-answered : goal.returns-clause-answered
returns-clause-answered g c =
    let outside = g.V.World.sees c.args.outside.now in
    let sees = g.W.World.sees c.args.world.now in
    let rows = g.M.Options.rows c.args.said.now in
    let digests = c.in_ok-digests.digests in
    let verdict = c.in_ok-verdict.verdict in
    let asked = stages_asked rows c.args.evidence.now c.args.stages.now digests.sources digests.claim in
    let asks : AsksStages outside sees asked = record { lists = c.requires; states = c.in_ok-digests.ensures.stated } in
    of_stages c.args.stages.now digests.sources digests.claim asks (record {
      verdict = verdict;
      judged = c.in_ok-verdict.ensures.judged;
      line_is = c.in_ok-line.ensures.value;
      done = subst (λ b. IsTrue b ↔ IsYesOfStages verdict) (sym c.ended_of-ended.ensures.done) c.is_yes_of_stages.ensures;
      noted = subst (λ p. NotesFolder sees (Some p) c.ended_of-ended.result) c.in_ok-entries.ensures c.ended_of-ended.ensures.noted;
    })
