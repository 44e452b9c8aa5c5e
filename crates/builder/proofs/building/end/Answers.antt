use Rattle.std.proofs.Common.{refl, sym, ◌∙◌}
use Rattle.std.proofs.lemmas.Result.{err_from_is_err_and}
use Rattle.builder.proofs.Refusing.{none_recorded, root_once}
use Rattle.tree.proofs.Learning.{known_nothing}
use Rattle.tree.specs.declared.error.TreeError.TheVariants as tree
use Rattle.builder.proofs.building.end.Goals as goal

pub root_tree-requires : goal.root_tree-requires
root_tree-requires g c = known_nothing c.new-memo.ensures

pub unreachable-requires : goal.unreachable-requires
unreachable-requires g c = none_recorded c.args.engine.now c.requires.done (sym c.in-None.is ∙ c.in_ok-noted.ensures.value)

pub returns-in_err-noted-clause-refused : goal.returns-in_err-noted-clause-refused
returns-in_err-noted-clause-refused g c =
    let p = err_from_is_err_and c.from_residual-in_err-noted.result c.from_residual-in_err-noted.ensures.1 in
    rw (p.1, p.2) (c.requires.done, (tree.Memory, tt, refl))

pub returns-in_err-root-clause-once : goal.returns-in_err-root-clause-once
returns-in_err-root-clause-once g c = root_once c.new-memo.ensures c.root_tree.ensures.learned

pub returns-in_err-noted-clause-once : goal.returns-in_err-noted-clause-once
returns-in_err-noted-clause-once g c = root_once c.new-memo.ensures c.root_tree.ensures.learned

pub returns-clause-once : goal.returns-clause-once
returns-clause-once g c = root_once c.new-memo.ensures c.root_tree.ensures.learned
