use Rattle.std.proofs.Common.{◌≡◌, inr}
use Rattle.clap.specs.Words.{found_of, rows_of}
use Rattle.commands.proofs.Exits.{exit_by}
use Rattle.commands.proofs.Writing.{where_err}
use Rattle.commands.specs.Refusal.{IsPrintFault}
use Rattle.cli.specs.Built.{errors_asked}
use Rattle.cli.specs.Refused.{FailsBuild}
use Rattle.cli.specs.Refused.FailsBuild.{in_output, in_record}
use Rattle.cli.proofs.building.run_build.Goals as goal

pub returns-in_err-asked-clause-refused : goal.returns-in_err-asked-clause-refused
returns-in_err-asked-clause-refused g c =
    let options = rows_of (found_of c.args.matches.now) in
    let errors = errors_asked options in
    exit_by (FailsBuild (g.W.World.sees c.args.world.now) (g.P.Workplace.below c.args.workplace errors) options) _ c.from_residual.ensures.1 (c.in_err-asked.ensures.refused c.args.workplace errors)

pub returns-in_err-write_record-clause-refused : goal.returns-in_err-write_record-clause-refused
returns-in_err-write_record-clause-refused g c =
    exit_by (FailsBuild (g.W.World.sees c.args.world.now) (g.P.Workplace.below c.args.workplace (errors_asked (rows_of (found_of c.args.matches.now)))) (rows_of (found_of c.args.matches.now))) _ c.from_residual-in_err-write_record.ensures.1
    (in_record c.in_ok-told.told c.in_ok-told.ensures.tells c.in_err-write_record.ensures.whole c.in_err-write_record.ensures.fault)

pub returns-in_err-print_told-clause-refused : goal.returns-in_err-print_told-clause-refused
returns-in_err-print_told-clause-refused g c =
    exit_by (FailsBuild (g.W.World.sees c.args.world.now) (g.P.Workplace.below c.args.workplace (errors_asked (rows_of (found_of c.args.matches.now)))) (rows_of (found_of c.args.matches.now))) _ c.from_residual-in_err-print_told.ensures.1
    (in_output c.in_ok-told.told c.in_ok-told.ensures.tells c.in_ok-write_record.ensures.noted c.in_err-print_told.ensures.fault)

pub returns-in_err-print_told-clause-begun : goal.returns-in_err-print_told-clause-begun
returns-in_err-print_told-clause-begun g c =
    where_err c.from_residual-in_err-print_told.result
    (inr (c.in_ok-told.told, c.in_ok-told.ensures.tells, c.in_ok-write_record.ensures.noted, c.in_err-print_told.ensures.begun))

pub returns-in_err-print_told-clause-unprinted : goal.returns-in_err-print_told-clause-unprinted
returns-in_err-print_told-clause-unprinted g c =
    exit_by (λ e. ¬ IsPrintFault e → g.O.Write.contents c.print_told.new.out ≡ g.O.Write.contents c.args.out.now) _ c.from_residual-in_err-print_told.ensures.1
    (λ not. absurd (not c.in_err-print_told.ensures.fault))

pub returns-clause-printed : goal.returns-clause-printed
returns-clause-printed g c = record {
  told = c.in_ok-told.told;
  tells = c.in_ok-told.ensures.tells;
  noted = c.in_ok-write_record.ensures.noted;
  is = c.ended_of.ensures;
  printed = c.in_ok-print_told.ensures.printed;
}
