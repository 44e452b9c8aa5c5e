use Rattle.action_messages.proofs.FrameCodec.{frame_codec}
use Rattle.action_messages.proofs.frame.FrameMessage.is_exact.Goals as goal

pub returns : goal.returns
returns g c = frame_codec
