use Rattle.messages.specs.Path.{parts_of}
use Rattle.actions.proofs.TreeLookups.{held_found, takes_in_tree}
use Rattle.actions.proofs.looking_up.look_in_tree.Goals as goal

pub returns-in-Some-clause-held : goal.returns-in-Some-clause-held
returns-in-Some-clause-held g c = held_found c.args.tree.now c.descend.result c.root-in-Some.ensures.valid c.descend.ensures.held

pub returns-in-Some-clause-memory : goal.returns-in-Some-clause-memory
returns-in-Some-clause-memory g c e = rw c.in-Some.is (takes_in_tree c.args.tree.now (parts_of c.in-Some.text.now) (c.descend.ensures.memory e))
