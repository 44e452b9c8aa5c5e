use Rattle.std.proofs.Common.{◌≡◌, ◌++◌, drop}
use Rattle.messages.specs.Tree.{node_digests}
use Rattle.messages.proofs.tree.push_digests.Given as goal

abbrev pub invariant-loop-node : goal.invariant-loop-node
invariant-loop-node g l = l.out.items ++ node_digests (drop l.node-index l.nodes) ≡ l.fn.out.items ++ node_digests l.nodes
