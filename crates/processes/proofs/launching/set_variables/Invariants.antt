use Rattle.std.proofs.Common.{◌≡◌, ℕ, List, take}
use Rattle.std.specs.Process.{command_var, clears_env, SameProgramAndArgs, SameDir}
use Rattle.processes.specs.Process.{said}
use Rattle.processes.proofs.launching.set_variables.Given as goal

abbrev pub invariant-loop-variable : goal.invariant-loop-variable
invariant-loop-variable g l = record {
  said_so : (name : List ℕ) → command_var l.process name ≡ said (command_var l.fn.process name) (take l.variable-index l.environment) name;
  call : SameProgramAndArgs l.fn.process l.process;
  clears : clears_env l.process ≡ clears_env l.fn.process;
  dir : SameDir l.fn.process l.process;
}
