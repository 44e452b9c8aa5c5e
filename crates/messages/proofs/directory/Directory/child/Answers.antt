use Rattle.messages.proofs.Children.{child_answered, child_alone}
use Rattle.messages.proofs.directory.Directory.child.Goals as goal

pub returns-clause-found : goal.returns-clause-found
returns-clause-found g c = child_answered _ c.args.name.now c.args.self.now c.find_child.result c.find_child.ensures.exact

pub returns-clause-only : goal.returns-clause-only
returns-clause-only g c = child_alone _ c.args.name.now c.args.self.now c.find_child.result c.find_child.ensures.exact c.find_child.ensures.valid
