-- What is seen of a client.
use Rattle.std.specs.Prelude.{Option}
use Rattle.std.specs.declared.alloc.Global.{Global}
use Rattle.remote.specs.Line.{ConnectionValue}
use Rattle.remote.specs.Remote.{connection_of}
use Rattle.remote.specs.declared.remote.Remote.{Remote}
use Rattle.remote.specs.declared.stream.Stream as streams
use Rattle.commands.specs.declared.client.Client.{Client}
use Rattle.commands.specs.declared.client.Opened as openings
use Rattle.commands.specs.declared.client.Permit as permits
use Rattle.commands.specs.declared.failure.Failure.{Failure}

module _ {S K U : Type 0} {stream : streams.Ghosts S} {opened : openings.Ghosts K}
    {permit : permits.Ghosts U} where
  -- the remote by which it asks
  abbrev pub remote_of : Client S K U stream opened permit → Remote S Global
  remote_of c = c.remote

  -- the client's request that failed last
  abbrev pub failed_request : Client S K U stream opened permit → Option Failure
  failed_request c = c.failure

  -- how the client's connection stands
  abbrev pub connection : Client S K U stream opened permit → ConnectionValue
  connection c = connection_of stream.flow c.remote
