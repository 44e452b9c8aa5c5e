use Rattle.std.proofs.Common.{rules, ◌≡◌, ◌<◌, length, ◌++◌, ◌∷◌, Less, Greater, Equal, nat_cmp, drop, sym, ap, ◌∙◌}
use Rattle.std.specs.Cmp.Lexicographic.{slice_cmp}
use Rattle.std.proofs.lemmas.List.{drop_more, take-append-drop, take_rest}
use Rattle.messages.proofs.Searches.{searched_less, searched_greater, searched_equal}
use Rattle.messages.proofs.order.find_named.Goals as goal

pub loop-name-preserved-in-Less : goal.loop-name-preserved-in-Less
loop-name-preserved-in-Less g c =
    let f = g.N.Named.name_in in
    let rest = c.loop-name.rest.now in
    let middle = c.index-after-0.result in
    let after = c.split_at.result.1.now in
    let split : rest ≡ c.split_at.result.0.now ++ after = sym (rw (c.split_at.ensures.front, c.split_at.ensures.back) (take-append-drop _ rest)) in
    let some : 0 < length after = search rules in
    let first : after ≡ middle ∷ drop 1 after = drop_more after 0 middle some ∙ ap (λ x. x ∷ drop 1 after) (sym c.index-after-0.is) in
    let order : slice_cmp nat_cmp (f middle) c.args.name.now ≡ Less = rw c.name.ensures.text at (sym c.cmp.ensures ∙ c.in-Less.is) in
    let step = searched_less f c.args.name.now rest c.split_at.result.0.now after middle (drop 1 after) _ split first c.loop-name.invariant.ascending c.loop-name.invariant.found order in
    let all = take_rest after 1 in
    rw all (record { ascending = step.0; found = step.1 })

pub loop-name-preserved : goal.loop-name-preserved
loop-name-preserved g c =
    let f = g.N.Named.name_in in
    let rest = c.loop-name.rest.now in
    let middle = c.index-after-0.result in
    let after = c.split_at.result.1.now in
    let split : rest ≡ c.split_at.result.0.now ++ after = sym (rw (c.split_at.ensures.front, c.split_at.ensures.back) (take-append-drop _ rest)) in
    let some : 0 < length after = search rules in
    let first : after ≡ middle ∷ drop 1 after = drop_more after 0 middle some ∙ ap (λ x. x ∷ drop 1 after) (sym c.index-after-0.is) in
    let order : slice_cmp nat_cmp (f middle) c.args.name.now ≡ Greater = rw c.name.ensures.text at (sym c.cmp.ensures ∙ c.in-Greater.is) in
    let step = searched_greater f c.args.name.now rest c.split_at.result.0.now after middle (drop 1 after) _ split first c.loop-name.invariant.ascending c.loop-name.invariant.found order in
    record { ascending = step.0; found = step.1 }

pub returns-in-Equal : goal.returns-in-Equal
returns-in-Equal g c =
    let f = g.N.Named.name_in in
    let rest = c.loop-name.rest.now in
    let middle = c.index-after-0.result in
    let after = c.split_at.result.1.now in
    let split : rest ≡ c.split_at.result.0.now ++ after = sym (rw (c.split_at.ensures.front, c.split_at.ensures.back) (take-append-drop _ rest)) in
    let some : 0 < length after = search rules in
    let first : after ≡ middle ∷ drop 1 after = drop_more after 0 middle some ∙ ap (λ x. x ∷ drop 1 after) (sym c.index-after-0.is) in
    let order : slice_cmp nat_cmp (f middle) c.args.name.now ≡ Equal = rw c.name.ensures.text at (sym c.cmp.ensures ∙ c.in-Equal.is) in
    let step = searched_equal f c.args.name.now rest c.split_at.result.0.now after middle (drop 1 after) _ split first c.loop-name.invariant.ascending c.loop-name.invariant.found order in
    step
