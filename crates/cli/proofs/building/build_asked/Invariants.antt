use Rattle.remote.specs.Remote.{connection_of}
use Rattle.cli.proofs.building.build_asked.Given as goal

-- the connection that was opened
abbrev pub ghosts-build_in_folder : goal.ghosts-build_in_folder
ghosts-build_in_folder g a = record { start = connection_of g.W.Link.Stream.flow a.remote }
