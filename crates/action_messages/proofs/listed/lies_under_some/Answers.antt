use Rattle.std.proofs.Common.{◌≡◌, true, take, sym, ◌∙◌, arith}
use Rattle.messages.specs.Order.{has_name}
use Rattle.action_messages.proofs.Searches.{texts_in, under_found, under_not_found}
use Rattle.action_messages.proofs.listed.lies_under_some.Goals as goal

pub returns-then-has_text : goal.returns-then-has_text
returns-then-has_text g c =
    let names = texts_in g.L.Listed.path_in c.args.items.now in
    let text = c.args.text.now in
    let index = c.loop-index.index in
    let listed : has_name names (take index text) ≡ true = sym c.has_text.ensures ∙ c.if-has_text.true in
    sym (under_found names text index c.loop-index-test.true c.if-byte-eq47.true listed)

pub returns : goal.returns
returns g c =
    sym (under_not_found (texts_in g.L.Listed.path_in c.args.items.now) c.args.text.now (λ k within slash. c.loop-index.invariant k (omega arith) slash))
