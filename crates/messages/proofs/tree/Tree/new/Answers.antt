use Rattle.messages.proofs.Trees.{tree_answered, tree_there}
use Rattle.messages.proofs.tree.Tree.new.Goals as goal

pub returns-clause-found : goal.returns-clause-found
returns-clause-found g c = tree_there (record { root = c.args.root; children = c.args.children.items }) c.checked_tree.result c.checked_tree.ensures.exact c.checked_tree.ensures.valid

pub returns-clause-only : goal.returns-clause-only
returns-clause-only g c = tree_answered (record { root = c.args.root; children = c.args.children.items }) c.checked_tree.result c.checked_tree.ensures.exact
