use Rattle.std.proofs.Common.{◌≤◌, ◌-◌, length}
use Rattle.remote.specs.Flow.{Receives}
use Rattle.remote.proofs.Endings.{EndsLast}
use Rattle.remote.proofs.reply.read_block.Given as goal
use Rattle.remote.specs.Steps.{WantsMore}

abbrev pub invariant-loop-missing : goal.invariant-loop-missing
invariant-loop-missing g l = record {
  read : Receives (g.S.Stream.flow l.fn.stream) (g.S.Stream.flow l.stream) l.block.items;
  last : EndsLast l.block.items;
  wants : WantsMore l.block.items l.missing;
  fits : length l.block.items ≤ 16384;
}

abbrev pub decreases-loop-missing : goal.decreases-loop-missing
decreases-loop-missing g l = 16384 - length l.block.items
