-- What is seen of what puts blobs over a client: words of private functions.
use Rattle.std.specs.Prelude.{ℕ, List, string_bytes}
use Rattle.remote.specs.Line.{ConnectionValue}
use Rattle.remote.specs.declared.stream.Stream as streams
use Rattle.commands.specs.Client.{connection}
use Rattle.commands.specs.declared.client.Opened as openings
use Rattle.commands.specs.declared.putting.Putter.{Putter}

module _ {S K P : Type 0} {stream : streams.Ghosts S} {opened : openings.Ghosts K} where
  -- how its connection stands
  abbrev pub connection_of_putter : Putter S K P stream opened → ConnectionValue
  connection_of_putter p = connection p.client

  -- the address of its server
  abbrev pub address_of_putter : Putter S K P stream opened → List ℕ
  address_of_putter p = string_bytes p.server.address
