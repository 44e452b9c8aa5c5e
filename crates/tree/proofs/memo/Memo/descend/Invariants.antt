use Rattle.std.proofs.Common.{drop}
use Rattle.std.specs.Prelude.{Some}
use Rattle.tree.specs.Form.{node_value}
use Rattle.blob_source.specs.Source.{Asks}
use Rattle.blob_source.specs.Called.{Calls}
use Rattle.tree.specs.LooksAt.{OnWay}
use Rattle.tree.specs.Memo.{AsksNoOther, Learns, known_by}
use Rattle.tree.proofs.Descent.{GoesOn}
use Rattle.tree.proofs.Ways.{WayGoesOn}
use Rattle.tree.proofs.memo.Memo.descend.Given as goal

abbrev pub invariant-loop-name : goal.invariant-loop-name
invariant-loop-name g l =
    let tells = g.S.BlobSource.tells in
    record {
      called : Calls (Asks l.name-index) (tells l.fn.source) (tells l.source) ⊥;
      goes : GoesOn (tells l.source).blobs l.root l.names (Some (node_value l.node)) (drop l.name-index l.names);
      way : WayGoesOn (tells l.source).blobs l.root l.names (Some (node_value l.node)) (drop l.name-index l.names);
      only : AsksNoOther (OnWay (tells l.source).blobs l.root l.names) (tells l.fn.source) (tells l.source);
      learned : Learns (OnWay (tells l.source).blobs l.root l.names) ⊥ (known_by l.fn.self) (known_by l.self) (tells l.fn.source) (tells l.source);
    }
