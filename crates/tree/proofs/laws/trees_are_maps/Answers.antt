use Rattle.tree.proofs.SameMap.{same_map}
use Rattle.tree.proofs.TreeLemmas.{ordered-graft}
use Rattle.tree.proofs.GraftOrder.{put-put}
use Rattle.tree.specs.Graft.{graft}
use Rattle.tree.proofs.Apart.{apart_from}
use Rattle.tree.proofs.GraftMap.{graft-IsGraftOf}
use Rattle.tree.proofs.TreeBlobs.{blobs_found, blobs_held}
use Rattle.tree.proofs.laws.trees_are_maps.Goals as goal

pub returns-clause-same : goal.returns-clause-same
returns-clause-same c = same_map

pub returns-clause-grafts : goal.returns-clause-grafts
returns-clause-grafts c = graft-IsGraftOf

pub returns-clause-swaps : goal.returns-clause-swaps
returns-clause-swaps c = λ l k lines apart. put-put l.0 k.0 l.1 k.1 (graft lines) (ordered-graft lines) (apart_from l.0 k.0 apart)

pub returns-clause-blobs : goal.returns-clause-blobs
returns-clause-blobs c = λ t b ordered. ((λ h. let r = blobs_found t b ordered h in (r.0, r.1.0, r.1.1, r.1.2)), (λ h. blobs_held t b h.0 (h.1, h.2, h.3)))
