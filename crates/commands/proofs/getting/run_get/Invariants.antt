use Rattle.remote.specs.Remote.{connection_of}
use Rattle.commands.proofs.getting.run_get.Given as goal

-- the connection that was opened
abbrev pub ghosts-get_over : goal.ghosts-get_over
ghosts-get_over g a = record { start = connection_of g.W.Link.Stream.flow a.remote }
