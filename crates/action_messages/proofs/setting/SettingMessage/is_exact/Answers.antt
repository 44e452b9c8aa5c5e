use Rattle.action_messages.proofs.SettingCodec.{setting_codec}
use Rattle.action_messages.proofs.setting.SettingMessage.is_exact.Goals as goal

pub returns : goal.returns
returns g c = setting_codec
