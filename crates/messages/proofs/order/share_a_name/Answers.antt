use Rattle.std.proofs.Common.{drop, map, sym, ◌∙◌}
use Rattle.std.proofs.lemmas.List.{drop_all}
use Rattle.messages.proofs.Orders.{walk_less, walk_greater, walk_equal, share-none}
use Rattle.messages.proofs.order.share_a_name.Goals as goal

pub loop-i-preserved-in-Less : goal.loop-i-preserved-in-Less
loop-i-preserved-in-Less g c =
    let step = walk_less g.N.Named.name_in g.M.Named.name_in c.args.nodes.now c.args.others.now c.loop-i.i c.loop-i.j c.index-nodes-i.result c.index-others-j.result c.loop-i-test.true c.if-j-others.true c.index-nodes-i.is c.index-others-j.is _ c.loop-i.invariant.nodes c.loop-i.invariant.others c.loop-i.invariant.shared (rw (c.name.ensures.text, c.name-in-loop-i.ensures.text) at (sym c.cmp.ensures ∙ c.in-Less.is)) in
    record { nodes = step.0; others = c.loop-i.invariant.others; shared = step.1 }

pub loop-i-preserved : goal.loop-i-preserved
loop-i-preserved g c =
    let step = walk_greater g.N.Named.name_in g.M.Named.name_in c.args.nodes.now c.args.others.now c.loop-i.i c.loop-i.j c.index-nodes-i.result c.index-others-j.result c.loop-i-test.true c.if-j-others.true c.index-nodes-i.is c.index-others-j.is _ c.loop-i.invariant.nodes c.loop-i.invariant.others c.loop-i.invariant.shared (rw (c.name.ensures.text, c.name-in-loop-i.ensures.text) at (sym c.cmp.ensures ∙ c.in-Greater.is)) in
    record { nodes = c.loop-i.invariant.nodes; others = step.0; shared = step.1 }

pub returns-in-Equal : goal.returns-in-Equal
returns-in-Equal g c = walk_equal g.N.Named.name_in g.M.Named.name_in c.args.nodes.now c.args.others.now c.loop-i.i c.loop-i.j c.index-nodes-i.result c.index-others-j.result c.loop-i-test.true c.if-j-others.true c.index-nodes-i.is c.index-others-j.is _ c.loop-i.invariant.shared (rw (c.name.ensures.text, c.name-in-loop-i.ensures.text) at (sym c.cmp.ensures ∙ c.in-Equal.is))

pub returns-else-j-others : goal.returns-else-j-others
returns-else-j-others g c =
    let over = drop_all c.loop-i.j c.args.others.now c.if-j-others.false in
    sym (share-none (map g.N.Named.name_in (drop c.loop-i.i c.args.nodes.now))) ∙ (rw over at c.loop-i.invariant.shared)
