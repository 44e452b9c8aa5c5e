use Rattle.action_messages.proofs.PlatformCodec.{platform_codec}
use Rattle.action_messages.proofs.platform.PlatformMessage.is_exact.Goals as goal

pub returns : goal.returns
returns g c = platform_codec
