use Rattle.std.proofs.Common.{◌≡◌, [], ◌∷◌, codes, refl, rules, string_bytes}
use Rattle.clap.specs.Words.{found_of, rows_of}
use Rattle.command_lines.specs.CommandLine.{option_text}
use Rattle.commands.proofs.Checking.{fails_in}
use Rattle.commands.proofs.Exits.{exit_by}
use Rattle.commands.proofs.Refused.{or_memory}
use Rattle.commands.specs.Words.{FailsFirst, server_words}
use Rattle.processes.specs.declared.disk.ChildErrors.{ChildErrors}
use Rattle.cli.specs.Built.{build_words, keeps_plan, may_have_jobs}
use Rattle.cli.specs.Refused.{FailsBuild}
use Rattle.cli.specs.Refused.FailsBuild.{in_digest, in_memory, in_plan, in_words}
use Rattle.cli.proofs.building.read_asked.Goals as goal

pub returns-in_err-jobs-clause-refused : goal.returns-in_err-jobs-clause-refused
returns-in_err-jobs-clause-refused g c =
    let sees = g.W.World.sees c.args.world.now in
    let options = rows_of (found_of c.args.matches.now) in
    exit_by (λ e. (workplace : g.row.P.Denot) (errors : ChildErrors) → FailsBuild sees (g.P.Workplace.below workplace errors) options e) _ c.from_residual.ensures.1
    (λ workplace errors. or_memory (FailsFirst (build_words options)) (FailsBuild sees (g.P.Workplace.below workplace errors) options) _ in_memory in_words
    (fails_in [] (may_have_jobs options ∷ []) (keeps_plan options ∷ server_words options) _ tt c.in_err-jobs.ensures.checked))

pub returns-in_err-check_record-clause-refused : goal.returns-in_err-check_record-clause-refused
returns-in_err-check_record-clause-refused g c =
    let sees = g.W.World.sees c.args.world.now in
    let options = rows_of (found_of c.args.matches.now) in
    exit_by (λ e. (workplace : g.row.P.Denot) (errors : ChildErrors) → FailsBuild sees (g.P.Workplace.below workplace errors) options e) _ c.from_residual-in_err-check_record.ensures.1
    (λ workplace errors. or_memory (FailsFirst (build_words options)) (FailsBuild sees (g.P.Workplace.below workplace errors) options) _ in_memory in_words
    (fails_in (may_have_jobs options ∷ []) (keeps_plan options ∷ []) (server_words options) _ (c.in_ok-jobs.ensures.checked.0, tt) c.in_err-check_record.ensures))

pub returns-in_err-server-clause-refused : goal.returns-in_err-server-clause-refused
returns-in_err-server-clause-refused g c =
    let sees = g.W.World.sees c.args.world.now in
    let options = rows_of (found_of c.args.matches.now) in
    exit_by (λ e. (workplace : g.row.P.Denot) (errors : ChildErrors) → FailsBuild sees (g.P.Workplace.below workplace errors) options e) _ c.from_residual-in_err-server.ensures.1
    (λ workplace errors. or_memory (FailsFirst (build_words options)) (FailsBuild sees (g.P.Workplace.below workplace errors) options) _ in_memory in_words
    (fails_in (may_have_jobs options ∷ keeps_plan options ∷ []) (server_words options) [] _ (c.in_ok-jobs.ensures.checked.0, (c.in_ok-check_record.ensures.0, tt)) c.in_err-server.ensures.checked))

pub returns-in_err-sources-clause-refused : goal.returns-in_err-sources-clause-refused
returns-in_err-sources-clause-refused g c =
    exit_by (λ e. (workplace : g.row.P.Denot) (errors : ChildErrors) → FailsBuild (g.W.World.sees c.args.world.now) (g.P.Workplace.below workplace errors) (rows_of (found_of c.args.matches.now)) e) _ c.from_residual-in_err-sources.ensures.1
    (λ workplace errors. in_digest (c.in_ok-jobs.ensures.checked.0, (c.in_ok-check_record.ensures.0, c.in_ok-server.ensures.checked)) c.in_err-sources.ensures.fault)

pub returns-in_err-plan-clause-refused : goal.returns-in_err-plan-clause-refused
returns-in_err-plan-clause-refused g c =
    exit_by (λ e. (workplace : g.row.P.Denot) (errors : ChildErrors) → FailsBuild (g.W.World.sees c.args.world.now) (g.P.Workplace.below workplace errors) (rows_of (found_of c.args.matches.now)) e) _ c.from_residual-in_err-plan.ensures.1
    (λ workplace errors. in_plan (c.in_ok-jobs.ensures.checked.0, (c.in_ok-check_record.ensures.0, c.in_ok-server.ensures.checked)) (c.in_ok-sources.sources, c.in_ok-sources.ensures.found) c.in_err-plan.ensures.fault)

pub returns-in_err-work-clause-refused : goal.returns-in_err-work-clause-refused
returns-in_err-work-clause-refused g c =
    exit_by (λ e. (workplace : g.row.P.Denot) (errors : ChildErrors) → FailsBuild (g.W.World.sees c.args.world.now) (g.P.Workplace.below workplace errors) (rows_of (found_of c.args.matches.now)) e) _ c.from_residual-in_err-work.ensures.1
    (λ workplace errors. in_memory refl)

pub returns-clause-read : goal.returns-clause-read
returns-clause-read g c =
    let work : string_bytes c.in_ok-work.work ≡ option_text (rows_of (found_of c.args.matches.now)) (codes "work") = search rules in
    record {
      asks = record {
        words = (c.in_ok-jobs.ensures.checked.0, (c.in_ok-check_record.ensures.0, c.in_ok-server.ensures.checked));
        spelled = c.in_ok-sources.ensures.found;
        plan_is = c.in_ok-plan.ensures.found;
      };
      jobs = c.in_ok-jobs.ensures.found;
      server = c.in_ok-server.ensures.server;
      work = work;
    }
