use Rattle.cache_server.proofs.Total.{begins_the_answers}
use Rattle.cache_server.proofs.laws.answers_begin_the_answers_to_the_whole.Goals as goal

pub returns : goal.returns
returns c = begins_the_answers
