use Rattle.std.proofs.Common.{rules}
use Rattle.cli.specs.Ended.FailsInWords.{in_fault}
use Rattle.cli.proofs.showing.show.Goals as goal

pub returns-clause-fault : goal.returns-clause-fault
returns-clause-fault g c =
    in_fault
    record { kind = c.kind.result; among = search rules; no_help = search rules; no_version = search rules }
    (c.in_ok-told-in_default.ensures.0, c.tip_on.result.now, c.tip_on.ensures, c.in_ok-told-in_default.ensures.1)
