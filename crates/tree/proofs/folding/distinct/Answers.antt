use Rattle.std.proofs.Common.{rules, ◌≡◌, ◌∷◌, ◌++◌, ap, ◌∙◌, sym}
use Rattle.tree.specs.Folded.{items_of, unseen}
use Rattle.tree.proofs.Distinct.{inserted}
use Rattle.tree.proofs.folding.distinct.Goals as goal

pub loop-encoding-preserved : goal.loop-encoding-preserved
loop-encoding-preserved g c =
    let left = c.next.new.self.rest.items in
    let old = c.loop-encoding.set.keys in
    let steps : c.loop-encoding.encoding-iterator.rest.items ≡ c.in-Some.encoding ∷ left = search rules in
    ap (λ ks. items_of ks ++ unseen (items_of ks) (items_of left)) (c.in_ok-insert_full.ensures {u = tt}).keys
    ∙ inserted old c.in-Some.encoding (items_of left)
    ∙ ap (λ q. items_of old ++ unseen (items_of old) (items_of q)) (sym steps)
    ∙ c.loop-encoding.invariant
