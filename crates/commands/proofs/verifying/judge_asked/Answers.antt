use Rattle.std.proofs.Common.{refl}
use Rattle.std.proofs.lemmas.Result.{IfOk-weaker}
use Rattle.commands.specs.Refusal.{FailsAtPlace, FailsToJudge}
use Rattle.commands.specs.Refusal.FailsToJudge.{in_digests, in_memory, in_place, in_plan, in_record, in_words}
use Rattle.commands.specs.Words.{FailsFirst, place_words}
use Rattle.commands.proofs.Exits.{err_weaker, exit_by}
use Rattle.commands.proofs.Placed.{lacked_by}
use Rattle.commands.proofs.Refused.{or_memory}
use Rattle.commands.proofs.verifying.judge_asked.Goals as goal

pub returns-in_err-build-clause-refused : goal.returns-in_err-build-clause-refused
returns-in_err-build-clause-refused g c =
    let options = g.M.Options.rows c.args.options.now in
    let sees = g.W.World.sees c.args.world.now in
    exit_by (FailsToJudge sees options) _ c.from_residual.ensures.1
    (or_memory (FailsFirst (place_words options)) (FailsToJudge sees options) _ in_memory in_words c.in_err-build.ensures.checked)

pub returns-in_err-digests-clause-refused : goal.returns-in_err-digests-clause-refused
returns-in_err-digests-clause-refused g c =
    exit_by (FailsToJudge (g.W.World.sees c.args.world.now) (g.M.Options.rows c.args.options.now)) _ c.from_residual-in_err-digests.ensures.1
    (in_digests c.in_ok-build.ensures.checked c.in_err-digests.ensures.fault)

pub returns-in_err-keep_digest-clause-refused : goal.returns-in_err-keep_digest-clause-refused
returns-in_err-keep_digest-clause-refused g c =
    exit_by (FailsToJudge (g.W.World.sees c.args.world.now) (g.M.Options.rows c.args.options.now)) _ c.from_residual-in_err-keep_digest.ensures.1 (in_memory refl)

pub returns-in_err-keep_digest-2-clause-refused : goal.returns-in_err-keep_digest-2-clause-refused
returns-in_err-keep_digest-2-clause-refused g c =
    exit_by (FailsToJudge (g.W.World.sees c.args.world.now) (g.M.Options.rows c.args.options.now)) _ c.from_residual-in_err-keep_digest-2.ensures.1 (in_memory refl)

pub returns-in_err-plan-clause-refused : goal.returns-in_err-plan-clause-refused
returns-in_err-plan-clause-refused g c =
    exit_by (FailsToJudge (g.W.World.sees c.args.world.now) (g.M.Options.rows c.args.options.now)) _ c.from_residual-in_err-plan.ensures.1
    (in_plan (record {
      place = c.in_ok-build.ensures.checked;
      sources = (c.in_ok-digests.digests.sources, c.in_ok-digests.ensures.sources);
      claim = (c.in_ok-digests.digests.claim, c.in_ok-digests.ensures.claim);
    }) c.in_err-plan.ensures.fault)

pub returns-in_err-case-clause-refused : goal.returns-in_err-case-clause-refused
returns-in_err-case-clause-refused g c =
    exit_by (FailsToJudge (g.W.World.sees c.args.world.now) (g.M.Options.rows c.args.options.now)) _ c.from_residual-in_err-case.ensures.1
    (in_record c.in_ok-plan.plan (record {
      place = c.in_ok-build.ensures.checked;
      sources = (c.in_ok-digests.digests.sources, c.in_ok-digests.ensures.sources);
      claim = (c.in_ok-digests.digests.claim, c.in_ok-digests.ensures.claim);
    }) c.in_ok-plan.ensures.found c.in_err-case.ensures.fault)

pub returns-clause-refused : goal.returns-clause-refused
returns-clause-refused g c =
    let sees = g.W.World.sees c.args.world.now in
    let options = g.M.Options.rows c.args.options.now in
    err_weaker c.judge.result _ (FailsToJudge sees options) (λ e. or_memory (λ x. ∥ FailsAtPlace sees options x ∥₁) (FailsToJudge sees options) e in_memory (in_place c.in_ok-case.case c.in_ok-case.ensures.asks)) c.judge.ensures.fault

pub returns-clause-judged : goal.returns-clause-judged
returns-clause-judged g c =
    let sees = g.W.World.sees c.args.world.now in
    let rows = g.M.Options.rows c.args.options.now in
    IfOk-weaker c.judge.result _ _ (λ answer is. record {
      judges = record {
        question = c.in_ok-case.case;
        asks = c.in_ok-case.ensures.asks;
        told = is.0;
        source = is.1;
        judged = is.2.judged;
        few = λ over. is.4;
        lacks = lacked_by sees rows c.in_ok-case.case answer.verdict answer.lack is.2.lack is.3;
      };
      made = is.2.made;
    }) c.judge.ensures.answered
