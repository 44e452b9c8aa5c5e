use Rattle.messages.proofs.DirectoryNodeCodec.{directory_node_codec}
use Rattle.messages.proofs.node.DirectoryNodeMessage.is_exact.Goals as goal

pub returns : goal.returns
returns g c = directory_node_codec
