use Rattle.http_core.proofs.Example.{get_cut, more_cut, stands_before, fed_in_one, fed_in_two}
use Rattle.http_core.proofs.laws.a_request_meets_the_premises.Goals as goal

pub returns-clause-cuts : goal.returns-clause-cuts
returns-clause-cuts c = (get_cut, more_cut)

pub returns-clause-fed : goal.returns-clause-fed
returns-clause-fed c = (stands_before, fed_in_two, fed_in_one)
