use Rattle.std.proofs.Common.{subst}
use Rattle.messages.specs.Gives.{GivesUnlessMemory}
use Rattle.messages.proofs.Names.{name_given, name_read_found}
use Rattle.messages.proofs.name.Name.new.Goals as goal

pub returns-clause-found : goal.returns-clause-found
returns-clause-found g c = name_read_found c.args.text.now c.read_name.result c.read_name.ensures.exact

pub returns-clause-only : goal.returns-clause-only
returns-clause-only g c = λ is. subst (λ f. GivesUnlessMemory (λ x. x) c.read_name.result f) (name_given c.args.text.now is) c.read_name.ensures.exact
