use Rattle.std.proofs.Common.{◌≡◌, ◌++◌, take}
use Rattle.std.specs.Prelude.{map, string_bytes}
use Rattle.std.specs.Process.{command_program, command_args, SameEnv, SameDir}
use Rattle.processes.proofs.launching.add_arguments.Given as goal

abbrev pub invariant-loop-argument : goal.invariant-loop-argument
invariant-loop-argument g l = record {
  added : command_args l.process ≡ command_args l.fn.process ++ map string_bytes (take l.argument-index l.arguments);
  program : command_program l.process ≡ command_program l.fn.process;
  env : SameEnv l.fn.process l.process;
  dir : SameDir l.fn.process l.process;
}
