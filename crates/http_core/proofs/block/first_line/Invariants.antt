use Rattle.std.proofs.Common.{◌≢◌, ◌≤◌, ◌<◌, ◌-◌, ◌⊎◌, ◌≡◌, ◌+◌, length, take}
use Rattle.std.specs.List.{AllByRecursion}
use Rattle.http_core.proofs.block.first_line.Given as goal

abbrev pub invariant-loop-last : goal.invariant-loop-last
invariant-loop-last l = record {
  within : l.last < length l.bytes;
  most : (l.last + 1 ≤ l.most) ⊎ (l.last ≡ 0);
  plain : AllByRecursion (λ b. b ≢ 10) (take l.last l.bytes);
}

abbrev pub decreases-loop-last : goal.decreases-loop-last
decreases-loop-last l = length l.bytes - l.last
