use Rattle.messages.proofs.FileNodeCodec.{file_node_codec}
use Rattle.messages.proofs.node.FileNodeMessage.is_exact.Goals as goal

pub returns : goal.returns
returns g c = file_node_codec
