use Rattle.std.proofs.Common.{inl, inr}
use Rattle.std.specs.Prelude.{◌⊎◌}
use Rattle.tree.specs.Form.{IsBlobOf}
use Rattle.tree.proofs.GraftRoots.{root-graft}
use Rattle.tree.proofs.SameRoot.{same_root}
use Rattle.tree.proofs.laws.roots_name_trees.Goals as goal

pub returns-clause-one : goal.returns-clause-one
returns-clause-one c = λ t u ordered other apart is. same_root (λ b. IsBlobOf t b ⊎ IsBlobOf u b) apart t u ordered other (λ b h. inl h) (λ b h. inr h) is

pub returns-clause-grafts : goal.returns-clause-grafts
returns-clause-grafts c = root-graft
