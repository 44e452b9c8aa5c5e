use Rattle.std.proofs.Common.{◌≡◌, ◌≤◌, count_by, map, take}
use Rattle.httparse.specs.Spans.{header_bytes}
use Rattle.http_core.specs.Names.{same_name}
use Rattle.http_core.proofs.rules.count_named.Given as goal

abbrev pub invariant-loop-header : goal.invariant-loop-header
invariant-loop-header l = record {
  count : l.count ≡ count_by (λ f. same_name f.0 l.name) (map (header_bytes l.block) (take l.header-index l.headers));
  small : l.count ≤ l.header-index;
}
