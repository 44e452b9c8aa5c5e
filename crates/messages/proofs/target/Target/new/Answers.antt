use Rattle.std.proofs.Common.{subst}
use Rattle.messages.specs.Gives.{GivesUnlessMemory}
use Rattle.messages.proofs.Targets.{target_given, target_read_found}
use Rattle.messages.proofs.target.Target.new.Goals as goal

pub returns-clause-found : goal.returns-clause-found
returns-clause-found g c = target_read_found c.args.text.now c.read_target.result c.read_target.ensures.exact

pub returns-clause-only : goal.returns-clause-only
returns-clause-only g c = λ is. subst (λ f. GivesUnlessMemory (λ x. x) c.read_target.result f) (target_given c.args.text.now is) c.read_target.ensures.exact
