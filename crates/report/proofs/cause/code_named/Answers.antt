use Rattle.std.proofs.Common.{arith}
use Rattle.report.proofs.Unbroken.{none_in_signed, none_named, where_ok}
use Rattle.report.proofs.cause.code_named.Goals as goal

pub returns-clause-unbroken : goal.returns-clause-unbroken
returns-clause-unbroken g c =
    let fits = c.well_formed.1.1.0 in
    where_ok c.format.result
    (none_named c.args.word.now _ c.requires (none_in_signed c.args.code (omega (arith, fits))))
