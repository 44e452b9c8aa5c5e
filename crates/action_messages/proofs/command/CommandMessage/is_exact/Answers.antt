use Rattle.action_messages.proofs.CommandCodec.{command_codec}
use Rattle.action_messages.proofs.command.CommandMessage.is_exact.Goals as goal

pub returns : goal.returns
returns g c = command_codec
