use Rattle.std.proofs.Common.{◌<◌, arith}
use Rattle.commands.proofs.ByteCounts.{too_great}
use Rattle.commands.proofs.byte_counts.bytes_up_to.Goals as goal

pub returns-else-bytes-greatest-clause-none : goal.returns-else-bytes-greatest-clause-none
returns-else-bytes-greatest-clause-none c =
    let great : c.args.greatest < c.in-Some.bytes = omega arith in
    λ up_to. too_great c.args.text.now c.in-Some.bytes c.args.greatest c.in-Some.ensures.some great up_to

pub returns-in-None-clause-none : goal.returns-in-None-clause-none
returns-in-None-clause-none c = λ up_to. c.in-None.ensures.none up_to.0 up_to.1
