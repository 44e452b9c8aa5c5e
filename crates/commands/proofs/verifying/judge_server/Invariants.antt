use Rattle.remote.specs.Remote.{connection_of}
use Rattle.commands.proofs.verifying.judge_server.Given as goal

-- the connection that was opened
abbrev pub ghosts-judge_over : goal.ghosts-judge_over
ghosts-judge_over g a = record { start = connection_of g.W.Link.Stream.flow a.remote }
