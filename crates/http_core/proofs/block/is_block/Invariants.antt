use Rattle.std.proofs.Common.{ℕ, ◌≤◌, ◌<◌, ◌-◌, length, take}
use Rattle.http_core.specs.Block.{EndsBlock}
use Rattle.http_core.proofs.block.is_block.Given as goal

abbrev pub invariant-loop-end : goal.invariant-loop-end
invariant-loop-end l = record {
  within : l.end ≤ length l.bytes;
  none : (n : ℕ) → n < l.end → EndsBlock (take n l.bytes) → ⊥;
}

abbrev pub decreases-loop-end : goal.decreases-loop-end
decreases-loop-end l = length l.bytes - l.end
