use Rattle.std.proofs.Common.{nat_eq}
use Rattle.eviction.proofs.Single.{one_distinct}
use Rattle.test_messages.proofs.entries.unpin.Goals as goal

pub unpin-requires : goal.unpin-requires
unpin-requires g c = one_distinct nat_eq c.args.key
