-- The names are those of the path.
use Rattle.std.proofs.Common.{◌∙◌}
use Rattle.std.proofs.lemmas.Result.{err_from_is_err_and}
use Rattle.tree.proofs.Learning.{learns_more, learns_refused, cut_by_memory}
use Rattle.tree.proofs.Ways.{looked_way}
use Rattle.tree.proofs.memo.Memo.look_up.Goals as goal

pub returns-in_err-node-clause-learned : goal.returns-in_err-node-clause-learned
returns-in_err-node-clause-learned g c =
    let p = err_from_is_err_and c.from_residual-in_err-node.result c.from_residual-in_err-node.ensures.1 in
    rw (p.1, p.2) (learns_more (λ a h. h) (λ whole cut. whole cut) (looked_way c.args.root.now c.deref.result.now c.args.path.now (c.deref.ensures.value ∙ c.in_ok-names.ensures.value) c.in_err-node.ensures.learned))

pub returns-in-Some-clause-learned : goal.returns-in-Some-clause-learned
returns-in-Some-clause-learned g c = looked_way c.args.root.now c.deref.result.now c.args.path.now (c.deref.ensures.value ∙ c.in_ok-names.ensures.value) (c.in_ok-node.ensures {u = tt}).learned

pub returns-in_err-copy_of-in-None-clause-learned : goal.returns-in_err-copy_of-in-None-clause-learned
returns-in_err-copy_of-in-None-clause-learned g c =
    learns_refused (λ a h. h) (cut_by_memory _ c.from_residual-in_err-copy_of-in-None.ensures.1) (looked_way c.args.root.now c.deref.result.now c.args.path.now (c.deref.ensures.value ∙ c.in_ok-names.ensures.value) c.descend.ensures.learned)

pub returns-clause-learned : goal.returns-clause-learned
returns-clause-learned g c = looked_way c.args.root.now c.deref.result.now c.args.path.now (c.deref.ensures.value ∙ c.in_ok-names.ensures.value) (c.in_ok-node.ensures {u = tt}).learned
