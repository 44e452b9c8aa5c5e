use Rattle.messages.proofs.Trees.{tree_codec}
use Rattle.messages.proofs.tree.TreeMessage.is_exact.Goals as goal

pub returns : goal.returns
returns g c = tree_codec
