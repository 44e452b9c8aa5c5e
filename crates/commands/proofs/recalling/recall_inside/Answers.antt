use Rattle.std.proofs.Common.{[], ◌∙◌, sym}
use Rattle.commands.specs.Compared.{FailsRecall}
use Rattle.commands.specs.Compared.FailsRecall.{in_digests, in_list, in_memory, in_stages}
use Rattle.commands.specs.Evidence.{FailsStated}
use Rattle.commands.specs.Stages.{FailsListed}
use Rattle.commands.proofs.Exits.{exit_by}
use Rattle.commands.proofs.OfTwo.{none_listed, stages_listed}
use Rattle.commands.proofs.Refused.{or_memory}
use Rattle.commands.proofs.recalling.recall_inside.Goals as goal

pub returns-in_err-listed_stages-clause-refused : goal.returns-in_err-listed_stages-clause-refused
returns-in_err-listed_stages-clause-refused g c =
    let sees = g.W.World.sees c.args.world.now in
    let fails = FailsRecall sees c.args.evidence.now in
    exit_by fails _ c.from_residual.ensures.1 (or_memory (FailsListed sees c.args.evidence.now) fails _ in_memory in_list c.in_err-listed_stages.ensures.refused)

pub returns-then-is_some-clause-refused : goal.returns-then-is_some-clause-refused
returns-then-is_some-clause-refused g c =
    let listed = stages_listed (λ (v : _). v.items) (g.W.World.sees c.args.world.now) c.args.evidence.now c.in_ok-listed_stages.field-0 c.in_ok-listed_stages.ensures.listed (sym c.is_some.ensures ∙ c.if-is_some.true) in
    in_stages listed.0 listed.1 (c.in_ok-stages_refused.ensures {u = tt})

pub returns-in_err-stated-clause-refused : goal.returns-in_err-stated-clause-refused
returns-in_err-stated-clause-refused g c =
    let sees = g.W.World.sees c.args.world.now in
    let fails = FailsRecall sees c.args.evidence.now in
    let none = none_listed (λ (v : _). v.items) sees c.args.evidence.now c.in_ok-listed_stages.field-0 c.in_ok-listed_stages.ensures.listed (sym c.is_some.ensures ∙ c.if-is_some.false) in
    exit_by fails _ c.from_residual-in_err-stated.ensures.1 (or_memory (FailsStated sees sees [] c.args.evidence.now) fails _ in_memory (in_digests none) c.in_err-stated.ensures.fault)
