use Rattle.messages.proofs.DirectoryCodec.{directory_codec}
use Rattle.messages.proofs.directory.DirectoryMessage.is_exact.Goals as goal

pub returns : goal.returns
returns g c = directory_codec
