use Rattle.std.proofs.Common.{◌≡◌, drop, None, option_map}
use Rattle.std.specs.List.{AllByRecursion}
use Rattle.action_messages.specs.Ascending.{ascending_behind}
use Rattle.action_messages.specs.Setting.{IsSetting}
use Rattle.action_messages.specs.Platform.{setting_cmp}
use Rattle.action_messages.proofs.platform.check_properties.Given as goal

abbrev pub invariant-loop-property : goal.invariant-loop-property
invariant-loop-property g l = record {
  ascend : ascending_behind setting_cmp (option_map (λ x. x.now) l.before) (drop l.property-index l.properties) ≡ ascending_behind setting_cmp None l.properties;
  kept : AllByRecursion IsSetting (drop l.property-index l.properties) → AllByRecursion IsSetting l.properties;
}
