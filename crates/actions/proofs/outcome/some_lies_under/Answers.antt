use Rattle.std.proofs.Common.{◌≡◌, ◌∷◌, ◌++◌, [], length, take, Ok, Err, rules, sym, ap, subst, ◌∙◌}
use Rattle.std.specs.Prelude.{nat_eq}
use Rattle.std.specs.Cmp.Lexicographic.{pointwise}
use Rattle.messages.specs.Path.{path_text}
use Rattle.action_messages.specs.Overlaps.{IsPlace, is_under}
use Rattle.action_messages.proofs.Searches.{texts_in}
use Rattle.actions.proofs.Rooms.{begins, held_below, first_below, nothing_below, got_text, got_none}
use Rattle.actions.proofs.outcome.some_lies_under.Goals as goal

pub returns-in-Ok : goal.returns-in-Ok
returns-in-Ok g c =
    let ts = texts_in g.L.Listed.path_in c.args.items.now in
    let key : c.deref.result.now ≡ c.args.text.now ++ 47 ∷ [] = search rules in
    sym (held_below ts c.args.text.now c.in-Ok.field-0 (subst (λ k. IsPlace ts k (Ok c.in-Ok.field-0)) key c.in-Ok.ensures))

pub returns-in-Some : goal.returns-in-Some
returns-in-Some g c =
    let f = g.L.Listed.path_in in
    let ts = texts_in f c.args.items.now in
    let text = c.args.text.now in
    let key : c.deref.result.now ≡ text ++ 47 ∷ [] = search rules in
    let again : c.deref-in-Some.result.now ≡ text ++ 47 ∷ [] = search rules in
    let item = c.in-Some.item.now in
    let at = got_text f c.args.items.now c.in-Err.place item c.in-Some.ensures.lookup.3.0 c.in-Some.ensures.lookup.1 in
    let test : c.starts_with.result ≡ is_under (path_text (f item)) text =
    c.starts_with.ensures.value ∙ ap (λ k. pointwise nat_eq k (take (length k) c.path_text.result.now)) again ∙ begins c.path_text.result.now text ∙ ap (λ t. is_under t text) c.path_text.ensures.text in
    test ∙ first_below ts text (path_text (f item)) c.in-Err.place c.requires (subst (λ k. IsPlace ts k (Err c.in-Err.place)) key c.in-Err.ensures) at

pub returns : goal.returns
returns g c =
    let f = g.L.Listed.path_in in
    let ts = texts_in f c.args.items.now in
    let text = c.args.text.now in
    let key : c.deref.result.now ≡ text ++ 47 ∷ [] = search rules in
    nothing_below ts text c.in-Err.place (subst (λ k. IsPlace ts k (Err c.in-Err.place)) key c.in-Err.ensures) (got_none f c.args.items.now c.in-Err.place c.in-None.ensures.lookup.3)
