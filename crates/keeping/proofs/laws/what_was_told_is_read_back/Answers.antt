use Rattle.keeping.proofs.Reading.{read_back}
use Rattle.keeping.proofs.laws.what_was_told_is_read_back.Goals as goal

pub returns : goal.returns
returns g c = read_back
