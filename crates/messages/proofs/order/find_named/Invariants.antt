use Rattle.std.proofs.Common.{◌≡◌, length, map}
use Rattle.std.specs.Prelude.{find}
use Rattle.messages.specs.Node.{is_same}
use Rattle.messages.specs.Order.{IsAscending}
use Rattle.messages.proofs.order.find_named.Given as goal

abbrev pub invariant-loop-name : goal.invariant-loop-name
invariant-loop-name g l = record {
  ascending : IsAscending (map g.N.Named.name_in l.rest);
  found : find (λ n. is_same (g.N.Named.name_in n) l.name) l.rest ≡ find (λ n. is_same (g.N.Named.name_in n) l.name) l.nodes;
}

abbrev pub decreases-loop-name : goal.decreases-loop-name
decreases-loop-name g l = length l.rest
