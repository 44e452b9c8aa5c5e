use Rattle.std.proofs.Common.{ap, subst, ◌∙◌}
use Rattle.messages.specs.Gives.{GivesUnlessMemory}
use Rattle.messages.specs.Path.{path_of}
use Rattle.messages.proofs.Paths.{path_given, path_read_found}
use Rattle.messages.proofs.path.Path.new.Goals as goal

pub returns-clause-found : goal.returns-clause-found
returns-clause-found g c = path_read_found c.args.text.now c.read_path.result c.read_path.ensures.exact

pub returns-clause-only : goal.returns-clause-only
returns-clause-only g c = λ path is e. subst (λ f. GivesUnlessMemory (λ x. x) c.read_path.result f) (ap path_of e ∙ path_given path is) c.read_path.ensures.exact
