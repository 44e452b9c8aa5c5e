use Rattle.std.proofs.Common.{◌≡◌, ◌++◌, take}
use Rattle.plan.specs.Record.{record_header, entries_text}
use Rattle.plan.proofs.record.Record.write.Given as goal

abbrev pub invariant-loop-number : goal.invariant-loop-number
invariant-loop-number g l = l.text.items ≡ record_header ++ entries_text (take l.number l.self.names) l.self.digests
