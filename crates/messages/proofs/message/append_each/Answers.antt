use Rattle.std.proofs.Common.{◌≡◌, ◌+◌, ◌++◌, ◌∷◌, drop, map, sym, ap, ◌∙◌}
use Rattle.std.proofs.lemmas.List.{drop_more}
use Rattle.wire.specs.Spelling.{spelling}
use Rattle.canonical.specs.Fields.{element_fields}
use Rattle.messages.proofs.Spellings.{written_on, begins_more}
use Rattle.messages.proofs.message.append_each.Goals as goal

pub loop-message-preserved : goal.loop-message-preserved
loop-message-preserved g c =
    let i = c.loop-message.message-index in
    let ms = c.args.messages.now in
    let m = c.message-item.result in
    let split : drop i ms ≡ m ∷ drop (i + 1) ms = drop_more ms i m c.loop-message-test.true ∙ ap (λ x. x ∷ drop (i + 1) ms) (sym c.message-item.is) in
    let so_far = ap (λ l. c.loop-message.out.items ++ spelling (element_fields c.args.number (map g.M.Encode.spells l))) (sym split) ∙ c.loop-message.invariant.rest in
    record {
      rest = rw (c.in_ok-write_element.ensures.appended, c.deref.ensures.value, c.in_ok-write.ensures)
          (written_on c.loop-message.out.items _ c.args.number (g.M.Encode.spells m) (map g.M.Encode.spells (drop (i + 1) ms)) so_far);
      front = rw c.in_ok-write_element.ensures.appended (begins_more _ c.loop-message.out.items _ c.loop-message.invariant.front);
    }
