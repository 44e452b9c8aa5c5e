use Rattle.std.proofs.Common.{◌≡◌, ◌++◌, drop, map}
use Rattle.std.specs.String.{string_bytes}
use Rattle.wire.specs.Spelling.{spelling}
use Rattle.canonical.specs.Fields.{element_fields}
use Rattle.action_messages.proofs.fields.write_strings.Given as goal

abbrev pub invariant-loop-string : goal.invariant-loop-string
invariant-loop-string g l = l.out.items ++ spelling (element_fields l.number (map string_bytes (drop l.string-index l.strings))) ≡ l.fn.out.items ++ spelling (element_fields l.number (map string_bytes l.strings))
