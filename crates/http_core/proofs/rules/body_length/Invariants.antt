use Rattle.std.proofs.Common.{◌≡◌, map, drop}
use Rattle.httparse.specs.Spans.{header_bytes}
use Rattle.http_core.specs.Rules.{length_of}
use Rattle.http_core.proofs.Fields.{length_from}
use Rattle.http_core.proofs.rules.body_length.Given as goal

abbrev pub invariant-loop-header : goal.invariant-loop-header
invariant-loop-header l =
    length_from l.found (map (header_bytes l.block) (drop l.header-index l.headers))
    ≡ length_of (map (header_bytes l.block) l.headers)
