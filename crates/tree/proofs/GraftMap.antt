-- A graft of lines, as a finite map.
use Rattle.std.proofs.Common.{◌≡◌, List, ◌∷◌}
use Rattle.std.specs.Prelude.{Some}
use Rattle.tree.specs.Tree.{Name, Entry, single, whole, tree_at}
use Rattle.tree.specs.Graft.{graft, expand, HaveApartTargets, IsGraftOf}
use Rattle.tree.proofs.Apart.{have_apart, all_apart}
use Rattle.tree.proofs.OrderLemmas.{ordered_grafted}
use Rattle.tree.proofs.GraftLaws.{all_of, at_expand, folder_expand, free_graft, graft_lines, graft_parents, nothing_expand}

pub graft-IsGraftOf : {L : Type 0} (ls : List (List Name × Entry L)) → HaveApartTargets ls → IsGraftOf ls (expand (graft ls))
graft-IsGraftOf {L} ls targets = let apart = have_apart ls targets in record {
  ordered = ordered_grafted ls;
  lines = all_of ls (λ (l : List Name × Entry L) (h : tree_at (graft ls) l.0 ≡ Some (single l.1)) (q : List Name). at_expand l.0 q (Some (whole (graft ls))) l.1 h) (graft_lines ls apart);
  nothing_else = λ n q h. nothing_expand (n ∷ q) (Some (whole (graft ls))) (free_graft ls n q (all_apart (n ∷ q) ls h));
  parents = all_of ls (λ l f q n r e. let u = f q n r e in (expand u.0, folder_expand q (Some (whole (graft ls))) u.0 u.1)) (graft_parents ls apart);
}
