use Rattle.exchange.proofs.Connecting.{connections_served}
use Rattle.exchange.proofs.Joining.{alone_answered}
use Rattle.exchange.proofs.laws.connections_are_served.Goals as goal

pub returns : goal.returns
returns c = record { server = connections_served; alone = alone_answered }
