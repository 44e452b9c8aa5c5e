use Rattle.http_core.proofs.Example.{more_cut}
use Rattle.cache_server.proofs.Example.{after_get, answers_get, get_answered, finds_no_bytes}
use Rattle.cache_server.proofs.laws.a_history_meets_the_premises.Goals as goal

pub returns : goal.returns
returns c = (after_get, answers_get, get_answered, more_cut, finds_no_bytes)
