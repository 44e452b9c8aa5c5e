use Rattle.exchange.proofs.Streams.{answers_read}
use Rattle.exchange.proofs.laws.answers_are_read.Goals as goal

pub returns : goal.returns
returns c = answers_read
