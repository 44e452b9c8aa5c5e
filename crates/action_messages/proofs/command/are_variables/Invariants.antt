use Rattle.std.proofs.Common.{◌≡◌, drop}
use Rattle.std.specs.List.{AllByRecursion, list_all}
use Rattle.action_messages.specs.Setting.{IsSetting}
use Rattle.action_messages.specs.Command.{is_variable}
use Rattle.action_messages.proofs.command.are_variables.Given as goal

abbrev pub invariant-loop-variable : goal.invariant-loop-variable
invariant-loop-variable g l = record {
  valid : list_all is_variable (drop l.variable-index l.environment) ≡ list_all is_variable l.environment;
  kept : AllByRecursion IsSetting (drop l.variable-index l.environment) → AllByRecursion IsSetting l.environment;
}
