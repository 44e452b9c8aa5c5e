use Rattle.action_messages.proofs.ActionCodec.{action_codec}
use Rattle.action_messages.proofs.action.ActionMessage.is_exact.Goals as goal

pub returns : goal.returns
returns g c = action_codec
