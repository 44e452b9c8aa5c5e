use Rattle.std.proofs.Common.{◌∙◌, ℕ, subst}
use Rattle.commands.specs.Faults.{OrMemory}
use Rattle.commands.specs.Stages.{FailsListed, FailsThere, IsNoStage, TellsOfStages, plan_path}
use Rattle.commands.specs.Stages.FailsListed.{beside, in_line, unseen}
use Rattle.commands.specs.declared.stages.StagesFault.TheVariants.{Line, PlanBeside}
use Rattle.commands.proofs.Exits.{exit_by}
use Rattle.commands.proofs.Refused.{or_weaker}
use Rattle.commands.proofs.stages.listed_stages.Goals as goal

pub returns-in_err-has_plan-clause-refused : goal.returns-in_err-has_plan-clause-refused
returns-in_err-has_plan-clause-refused g c =
    let sees = g.W.World.sees c.args.world.now in
    let evidence = c.args.evidence.now in
    let text = c.in-Ok.text.items in
    let read = subst (λ p. sees.reads p text) (c.as_str.ensures.value ∙ c.in_ok-list.ensures) c.in-Ok.ensures.read in
    exit_by (OrMemory (FailsListed sees evidence)) _ c.from_residual-in_err-has_plan.ensures.1
    (or_weaker (FailsThere sees (plan_path evidence)) (FailsListed sees evidence) _ (unseen text read) c.in_err-has_plan.ensures.fault)

pub returns-then-branch-clause-refused : goal.returns-then-branch-clause-refused
returns-then-branch-clause-refused g c =
    let sees = g.W.World.sees c.args.world.now in
    let evidence = c.args.evidence.now in
    let text = c.in-Ok.text.items in
    let read = subst (λ p. sees.reads p text) (c.as_str.ensures.value ∙ c.in_ok-list.ensures) c.in-Ok.ensures.read in
    let found = c.in_ok-has_plan.ensures.stands c.if-branch.true in
    or_weaker (TellsOfStages c.as_str-then-branch.result.now PlanBeside) (FailsListed sees evidence) c.stages_error.result
    (λ tells. beside text found.0 read found.1 (subst (λ p. TellsOfStages p PlanBeside c.stages_error.result) (c.as_str-then-branch.ensures.value ∙ c.in_ok-list.ensures) tells)) c.stages_error.ensures

pub returns-in_err-read_stages-clause-refused : goal.returns-in_err-read_stages-clause-refused
returns-in_err-read_stages-clause-refused g c =
    let sees = g.W.World.sees c.args.world.now in
    let evidence = c.args.evidence.now in
    let text = c.in-Ok.text.items in
    let error = c.in_err-read_stages.field-0.0 in
    let read = subst (λ p. sees.reads p text) (c.as_str.ensures.value ∙ c.in_ok-list.ensures) c.in-Ok.ensures.read in
    let path = c.as_str-2.ensures.value ∙ c.in_ok-list.ensures in
    exit_by (OrMemory (FailsListed sees evidence)) _ c.from_residual-in_err-read_stages.ensures.1
    (or_weaker (λ e. (line : ℕ) × IsNoStage c.deref-2.result.now line × TellsOfStages c.as_str-2.result.now (Line line) e) (FailsListed sees evidence) error
    (λ h. in_line text h.0 read (c.in_ok-has_plan.ensures.lacks c.if-branch.false) (subst (λ t. IsNoStage t h.0) c.deref-2.ensures.value h.1) (subst (λ p. TellsOfStages p (Line h.0) error) path h.2))
    c.in_err-read_stages.ensures.fault)
