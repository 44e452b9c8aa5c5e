use Rattle.action_messages.proofs.Strings.{string_utf8}
use Rattle.action_messages.proofs.setting.Setting.new.Goals as goal

pub invariant_of-result : goal.invariant_of-result
invariant_of-result g c = record { name = string_utf8 c.args.name; value = string_utf8 c.args.value }
