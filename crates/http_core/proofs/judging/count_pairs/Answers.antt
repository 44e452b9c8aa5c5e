use Rattle.std.proofs.Common.{arith}
use Rattle.http_core.proofs.Pairs.{pairs_from}
use Rattle.http_core.proofs.judging.count_pairs.Goals as goal

pub loop-byte-init : goal.loop-byte-init
loop-byte-init c = record { count = pairs_from c.args.block.now; small = omega arith }
