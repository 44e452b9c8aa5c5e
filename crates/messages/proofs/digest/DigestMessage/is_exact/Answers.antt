use Rattle.messages.proofs.DigestCodec.{digest_codec}
use Rattle.messages.proofs.digest.DigestMessage.is_exact.Goals as goal

pub returns : goal.returns
returns g c = digest_codec
