-- How a command is started as a process of the system.
use Rattle.std.specs.Prelude.{◌≡◌, ℕ, List, [], ◌∷◌, true, Option, Some, None, bytes_eq}
use Rattle.std.specs.Prelude.{if◌then◌else◌}
use Rattle.std.specs.Process.{command_program, command_args, command_var, command_dir, clears_env}
use Rattle.std.specs.declared.process.Command.{Command}
use Rattle.action_messages.specs.Setting.{SettingValue}
use Rattle.action_messages.specs.Command.{CommandValue}

-- what is said of a variable after these settings, of which the last counts
abbrev pub said : Option (Option (List ℕ)) → List SettingValue → List ℕ
    → Option (Option (List ℕ))
said before [] name = before
said before (s ∷ ss) name =
    said (if bytes_eq s.name name then Some (Some s.value) else before) ss name

-- A process has exactly the command's arguments and variables, and starts in the folder.
pub record IsProcessOf {A : Type 0} (start : List ℕ) (c : CommandValue) (p : Command A)
    : Type 0 where
  pub arguments : c.arguments ≡ command_program p ∷ command_args p
  pub clears : clears_env p ≡ true
  pub variables : (name : List ℕ) → command_var p name ≡ said None c.environment name
  pub folder : command_dir p ≡ Some start
