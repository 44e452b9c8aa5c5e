use Rattle.std.proofs.Common.{codes, rules}
use Rattle.clap.specs.Words.{found_of, rows_of}
use Rattle.command_lines.specs.CommandLine.{IsSet}
use Rattle.cli.proofs.Builds.{not_shown, shown_by_flag}
use Rattle.cli.proofs.building.errors_of.Goals as goal

pub returns-then-is_set : goal.returns-then-is_set
returns-then-is_set c =
    let given : IsSet (rows_of (found_of c.args.matches.now)) (codes "verbose") = search rules in
    shown_by_flag (rows_of (found_of c.args.matches.now)) given

pub returns : goal.returns
returns c =
    let none : IsSet (rows_of (found_of c.args.matches.now)) (codes "verbose") → ⊥ = search rules in
    not_shown (rows_of (found_of c.args.matches.now)) none
