use Rattle.std.proofs.Common.{subst}
use Rattle.commands.specs.Printed.{IsNamedPlace}
use Rattle.commands.specs.Refusal.{FailsAtPlace, FailsToJudge}
use Rattle.commands.specs.Refusal.FailsToJudge.{in_digests, in_memory, in_place, in_plan, in_record, in_words}
use Rattle.commands.specs.Words.{FailsFirst, place_words}
use Rattle.commands.proofs.Exits.{exit_by}
use Rattle.commands.proofs.OfTwo.{in_folder, store_fails, store_recalled}
use Rattle.commands.proofs.Refused.{or_memory}
use Rattle.commands.proofs.recalling.recall_asked.Goals as goal

pub returns-in_err-folder-clause-refused : goal.returns-in_err-folder-clause-refused
returns-in_err-folder-clause-refused g c =
    let options = g.M.Options.rows c.args.options.now in
    let sees = g.W.World.sees c.args.world.now in
    exit_by (FailsToJudge sees options) _ c.from_residual.ensures.1
    (or_memory (FailsFirst (place_words options)) (FailsToJudge sees options) _ in_memory in_words c.in_err-folder.ensures.checked)

pub unreachable-requires : goal.unreachable-requires
unreachable-requires g c = in_folder (g.M.Options.rows c.args.options.now) c.in_ok-folder.field-0 c.in_ok-folder.ensures.place c.requires c.in_default.not-Folder

pub returns-in_err-digests-clause-refused : goal.returns-in_err-digests-clause-refused
returns-in_err-digests-clause-refused g c =
    exit_by (FailsToJudge (g.W.World.sees c.args.world.now) (g.M.Options.rows c.args.options.now)) _ c.from_residual-in_err-digests.ensures.1
    (in_digests c.in_ok-folder.ensures.checked c.in_err-digests.ensures.fault)

pub returns-in_err-plan-clause-refused : goal.returns-in_err-plan-clause-refused
returns-in_err-plan-clause-refused g c =
    exit_by (FailsToJudge (g.W.World.sees c.args.world.now) (g.M.Options.rows c.args.options.now)) _ c.from_residual-in_err-plan.ensures.1
    (in_plan (record {
      place = c.in_ok-folder.ensures.checked;
      sources = (c.in_ok-digests.digests.sources, c.in_ok-digests.ensures.sources);
      claim = (c.in_ok-digests.digests.claim, c.in_ok-digests.ensures.claim);
    }) c.in_err-plan.ensures.fault)

pub returns-in_err-case-clause-refused : goal.returns-in_err-case-clause-refused
returns-in_err-case-clause-refused g c =
    exit_by (FailsToJudge (g.W.World.sees c.args.world.now) (g.M.Options.rows c.args.options.now)) _ c.from_residual-in_err-case.ensures.1
    (in_record c.in_ok-plan.plan (record {
      place = c.in_ok-folder.ensures.checked;
      sources = (c.in_ok-digests.digests.sources, c.in_ok-digests.ensures.sources);
      claim = (c.in_ok-digests.digests.claim, c.in_ok-digests.ensures.claim);
    }) c.in_ok-plan.ensures.found c.in_err-case.ensures.fault)

pub returns-in_err-recalled-clause-refused : goal.returns-in_err-recalled-clause-refused
returns-in_err-recalled-clause-refused g c =
    let sees = g.W.World.sees c.args.world.now in
    let options = g.M.Options.rows c.args.options.now in
    exit_by (FailsToJudge sees options) _ c.from_residual-in_err-recalled.ensures.1
    (store_fails sees options c.in-Folder.folder c.requires (subst (IsNamedPlace options) c.in-Folder.is c.in_ok-folder.ensures.place) c.in_ok-case.case _ c.in_ok-case.ensures.asks c.in_err-recalled.ensures.fault)

pub returns-clause-recalled : goal.returns-clause-recalled
returns-clause-recalled g c =
    let options = g.M.Options.rows c.args.options.now in
    store_recalled (g.W.World.sees c.args.world.now) options c.in-Folder.folder c.requires (subst (IsNamedPlace options) c.in-Folder.is c.in_ok-folder.ensures.place) c.in_ok-case.case c.in_ok-recalled.recalled c.in_ok-case.ensures.asks c.in_ok-recalled.ensures.recalled
