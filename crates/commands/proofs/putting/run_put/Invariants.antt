use Rattle.remote.specs.Remote.{connection_of}
use Rattle.commands.proofs.putting.run_put.Given as goal

-- the connection that was opened
abbrev pub ghosts-put_over : goal.ghosts-put_over
ghosts-put_over g a = record { start = connection_of g.W.Link.Stream.flow a.remote }
