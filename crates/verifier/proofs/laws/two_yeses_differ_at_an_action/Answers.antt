use Rattle.verifier.proofs.Culprits.{depends}
use Rattle.verifier.proofs.TwoBuilds.{found, differ, next, reads, one_root, not_both}
use Rattle.verifier.proofs.laws.two_yeses_differ_at_an_action.Goals as goal

pub returns-clause-found : goal.returns-clause-found
returns-clause-found c = λ one other sources plan recorded others claim another h. found one other sources plan recorded others claim another h

pub returns-clause-differ : goal.returns-clause-differ
returns-clause-differ c = λ one other sources plan recorded others claim another h apart. differ one other sources plan recorded others claim another h apart

pub returns-clause-next : goal.returns-clause-next
returns-clause-next c = λ one other sources plan recorded others claim another h i step at alike. next one other sources plan recorded others claim another h i step at alike

pub returns-clause-reads : goal.returns-clause-reads
returns-clause-reads c = λ one other sources plan recorded others claim another h i step at alike. reads one other sources plan recorded others claim another h i step at alike

pub returns-clause-root : goal.returns-clause-root
returns-clause-root c = λ one other sources plan recorded others claim another h alike. one_root one other sources plan recorded others claim another h alike

pub returns-clause-single : goal.returns-clause-single
returns-clause-single c = λ one other recorded others i alike unlike. not_both one other recorded others i alike unlike

pub returns-clause-depends : goal.returns-clause-depends
returns-clause-depends c = λ one other sources plan recorded others claim another h apart. depends one other sources plan recorded others claim another h apart
