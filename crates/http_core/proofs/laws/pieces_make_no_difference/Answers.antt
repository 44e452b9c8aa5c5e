use Rattle.http_core.proofs.Feeding.{pieces_give_the_whole, pieces_same}
use Rattle.http_core.proofs.laws.pieces_make_no_difference.Goals as goal

pub returns-clause-whole : goal.returns-clause-whole
returns-clause-whole c = pieces_give_the_whole

pub returns-clause-same : goal.returns-clause-same
returns-clause-same c = pieces_same
