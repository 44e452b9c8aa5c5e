use Rattle.exchange.proofs.Streams.{requests_cut}
use Rattle.exchange.proofs.laws.requests_are_understood.Goals as goal

pub returns : goal.returns
returns c = requests_cut
