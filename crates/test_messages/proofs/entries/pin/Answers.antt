use Rattle.std.proofs.Common.{nat_eq}
use Rattle.eviction.proofs.Single.{one_distinct}
use Rattle.test_messages.proofs.entries.pin.Goals as goal

pub pin_all-requires-clause-distinct : goal.pin_all-requires-clause-distinct
pin_all-requires-clause-distinct g c = one_distinct nat_eq c.args.key
