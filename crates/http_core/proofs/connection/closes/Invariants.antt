use Rattle.std.proofs.Common.{◌≡◌, map, drop}
use Rattle.httparse.specs.Spans.{header_bytes}
use Rattle.http_core.specs.Connection.{closes_of}
use Rattle.http_core.proofs.connection.closes.Given as goal

abbrev pub invariant-loop-header : goal.invariant-loop-header
invariant-loop-header l =
    closes_of (map (header_bytes l.block) (drop l.header-index l.headers))
    ≡ closes_of (map (header_bytes l.block) l.headers)
