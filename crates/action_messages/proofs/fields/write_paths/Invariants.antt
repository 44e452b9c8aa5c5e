use Rattle.std.proofs.Common.{◌≡◌, ◌++◌, drop}
use Rattle.wire.specs.Spelling.{spelling}
use Rattle.canonical.specs.Fields.{element_fields}
use Rattle.action_messages.specs.Overlaps.{texts_of}
use Rattle.action_messages.proofs.fields.write_paths.Given as goal

abbrev pub invariant-loop-path : goal.invariant-loop-path
invariant-loop-path g l = l.out.items ++ spelling (element_fields l.number (texts_of (drop l.path-index l.paths))) ≡ l.fn.out.items ++ spelling (element_fields l.number (texts_of l.paths))
