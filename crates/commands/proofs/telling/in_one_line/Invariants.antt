use Rattle.std.proofs.Common.{◌≡◌, take}
use Rattle.commands.specs.Told.{in_one_line}
use Rattle.commands.proofs.telling.in_one_line.Given as goal

abbrev pub invariant-loop-byte : goal.invariant-loop-byte
invariant-loop-byte l = l.line.items ≡ in_one_line (take l.byte-index l.text)
