use Rattle.std.proofs.Common.{◌≡◌, drop}
use Rattle.commands.specs.Hints.{is_escaped}
use Rattle.commands.proofs.hint.is_escaped.Given as goal

abbrev pub invariant-loop-byte : goal.invariant-loop-byte
invariant-loop-byte l = is_escaped 0 l.fn.word ≡ is_escaped l.digits (drop l.byte-index l.fn.word)
