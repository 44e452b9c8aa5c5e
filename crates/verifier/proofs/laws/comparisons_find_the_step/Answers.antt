use Rattle.std.proofs.Common.{length, arith}
use Rattle.verifier.proofs.Findings.{recorded_held, alike_below, unlike_at, finds_step}
use Rattle.verifier.proofs.laws.comparisons_find_the_step.Goals as goal

pub returns-clause-held : goal.returns-clause-held
returns-clause-held g c = λ tells sources plan recorded claim h same. recorded_held tells sources plan recorded claim h same

pub returns-clause-alike : goal.returns-clause-alike
returns-clause-alike g c = λ one other ones others holds also same alike. alike_below one other ones others holds also (length ones) (omega arith) (omega (arith, same)) alike

pub returns-clause-unlike : goal.returns-clause-unlike
returns-clause-unlike g c = λ one other ones others step path holds also h. unlike_at one other ones others holds also step path h.1 h.2 h.0 h.3 h.4 h.5

pub returns-clause-found : goal.returns-clause-found
returns-clause-found g c = λ one other sources plan ones others claim another comparison builds each twins holds also h. finds_step one other ones others holds also sources plan claim another builds each twins comparison h
