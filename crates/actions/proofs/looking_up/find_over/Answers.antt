-- Each beginning of the path's text is searched for.
use Rattle.std.proofs.Common.{◌+◌, ◌-◌, length, take, drop, map, arith}
use Rattle.tree.proofs.VisitSteps.{rest_of}
use Rattle.action_messages.proofs.Searches.{texts_in}
use Rattle.actions.proofs.PathLookups.{over_front, over_whole, over_none, passed_slash, passed_other}
use Rattle.actions.proofs.looking_up.find_over.Goals.{then-byte-eq47+in_default, else-byte-eq47}
use Rattle.actions.proofs.looking_up.find_over.Goals as goal

pub returns-in-Ok : goal.returns-in-Ok
returns-in-Ok g c =
    let text = c.as_bytes-text.result.now in
    let index = c.loop-index.index in
    over_front (map g.L.Listed.path_in c.args.items.now) c.args.path.now text (take (length text - (index + 1)) (drop (index + 1) text)) index c.in-Ok.place
    c.requires.valid c.as_bytes-text.ensures.parts c.loop-index-test.true c.if-byte-eq47.true c.in-Ok.ensures (rest_of (index + 1) text)

pub loop-index-preserved : goal.loop-index-preserved
loop-index-preserved g c =
    let ts = texts_in g.L.Listed.path_in c.args.items.now in
    let text = c.as_bytes-text.result.now in
    elim c.if-byte-eq47.branch [
      | then-byte-eq47+in_default w ↦ passed_slash ts text c.loop-index.index w.place_of.result c.loop-index.invariant w.in_default.not-Ok w.place_of.ensures
      | else-byte-eq47 w ↦ passed_other ts text c.loop-index.index w.if-byte-eq47.false c.loop-index.invariant
    ]

pub returns-in-Ok-place_of : goal.returns-in-Ok-place_of
returns-in-Ok-place_of g c =
    over_whole (map g.L.Listed.path_in c.args.items.now) c.args.path.now c.as_bytes-text.result.now c.in-Ok-place_of.place
    c.requires.valid c.as_bytes-text.ensures.parts c.in-Ok-place_of.ensures

pub returns-in-Err : goal.returns-in-Err
returns-in-Err g c =
    over_none (map g.L.Listed.path_in c.args.items.now) c.args.path.now c.as_bytes-text.result.now c.in-Err.field-0 c.requires.valid c.as_bytes-text.ensures.value
    (λ k lt. c.loop-index.invariant k (omega (arith, lt, c.loop-index-test.false))) c.in-Err.ensures
