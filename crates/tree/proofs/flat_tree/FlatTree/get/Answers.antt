use Rattle.std.proofs.Common.{◌∙◌, ap, sym}
use Rattle.tree.specs.FlatTree.{standing_in}
use Rattle.tree.proofs.FlatTrees.{found_at}
use Rattle.tree.proofs.flat_tree.FlatTree.get.Goals as goal

pub returns-clause-value : goal.returns-clause-value
returns-clause-value g c =
    sym (found_at c.self.inside.entries.entries c.args.self.now _ _ c.self.view_is c.get.ensures.value)
    ∙ ap (standing_in c.args.self.now) (c.as_slice.ensures.value ∙ (c.in_ok-names.ensures {u = tt}).value)
