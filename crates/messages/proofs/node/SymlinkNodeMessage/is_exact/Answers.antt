use Rattle.messages.proofs.SymlinkNodeCodec.{symlink_node_codec}
use Rattle.messages.proofs.node.SymlinkNodeMessage.is_exact.Goals as goal

pub returns : goal.returns
returns g c = symlink_node_codec
