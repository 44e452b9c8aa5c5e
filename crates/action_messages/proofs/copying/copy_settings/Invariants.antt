use Rattle.std.proofs.Common.{◌≡◌, take}
use Rattle.action_messages.proofs.copying.copy_settings.Given as goal

abbrev pub invariant-loop-setting : goal.invariant-loop-setting
invariant-loop-setting g l = l.copies.items ≡ take l.setting-index l.settings
