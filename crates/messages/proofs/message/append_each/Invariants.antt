use Rattle.std.proofs.Common.{◌≡◌, ◌++◌, drop, map}
use Rattle.wire.specs.Spelling.{spelling}
use Rattle.canonical.specs.Fields.{element_fields}
use Rattle.messages.proofs.Spellings.{Begins}
use Rattle.messages.proofs.message.append_each.Given as goal

abbrev pub invariant-loop-message : goal.invariant-loop-message
invariant-loop-message g l = record {
  rest : l.out.items ++ spelling (element_fields l.number (map g.M.Encode.spells (drop l.message-index l.messages))) ≡ l.fn.out.items ++ spelling (element_fields l.number (map g.M.Encode.spells l.messages));
  front : Begins l.fn.out.items l.out.items;
}
