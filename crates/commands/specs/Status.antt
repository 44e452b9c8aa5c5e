-- The statuses of a command that ends without its answer.
use Rattle.std.specs.Prelude.{ℕ}
use Rattle.commands.specs.declared.error.CommandError.{CommandError}
use Rattle.commands.specs.declared.error.CommandError.TheVariants.{Usage, Digest, Number, Text}
use Rattle.commands.specs.declared.error.CommandError.TheVariants.{File, NotAFile, TooLarge}
use Rattle.commands.specs.declared.error.CommandError.TheVariants.{Archive, DigestFile}
use Rattle.commands.specs.declared.error.CommandError.TheVariants.{InvalidValue}
use Rattle.commands.specs.declared.error.CommandError.TheVariants.{Entry, Connection, Server}
use Rattle.commands.specs.declared.error.CommandError.TheVariants.{Accept, Address, Random, Output}
use Rattle.commands.specs.declared.error.CommandError.TheVariants.{Blob, Memory, Process, Stages}

-- 2 where the words or the texts that they name are at fault, and 3 where a file, a socket, a
-- server, the output or memory is
abbrev pub exit_status : CommandError → ℕ
exit_status (Usage text) = 2
exit_status (Digest option text fault) = 2
exit_status (Number option greatest text) = 2
exit_status (Text path fault hint) = 2
exit_status (InvalidValue option expected text) = 2
exit_status (DigestFile path fault) = 2
exit_status (Archive path at refusal) = 2
exit_status (Stages path fault) = 2
exit_status (File path fault) = 3
exit_status (NotAFile path) = 3
exit_status (TooLarge path) = 3
exit_status (Entry path fault) = 3
exit_status (Connection server fault) = 3
exit_status (Server server failure) = 3
exit_status (Blob server digest fault) = 3
exit_status (Address text fault) = 3
exit_status (Accept fault) = 3
exit_status (Process fault) = 3
exit_status (Random fault) = 3
exit_status (Output fault) = 3
exit_status Memory = 3
