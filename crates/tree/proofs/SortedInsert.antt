-- The order of the keys of a flat tree.
use Rattle.std.proofs.Common.{◌≡◌, List}
use Rattle.std.specs.declared.vec.Vec.{Vec}
use Rattle.std.specs.declared.cmp.Ordering.{Ordering}
use Rattle.std.specs.declared.cmp.Ordering.TheVariants.{Equal}
use Rattle.std.specs.FinMap.{slice_cmp-IsAntisymmetric, nat_cmp-IsAntisymmetric}
use Rattle.tree.specs.Tree.{Name, path_cmp}

pub path_same : (p q : List Name) → path_cmp p q ≡ Equal → p ≡ q
path_same p q e = slice_cmp-IsAntisymmetric (slice_cmp-IsAntisymmetric nat_cmp-IsAntisymmetric) p q e

module _ {A : Type 0} where
  abbrev pub vec_cmp : Vec Name A → Vec Name A → Ordering
  vec_cmp x y = path_cmp x.items y.items
