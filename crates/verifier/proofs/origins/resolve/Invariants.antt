use Rattle.std.proofs.Common.{drop}
use Rattle.tree.specs.Merging.{AreHeld, merge_lines}
use Rattle.blob_source.specs.Called.{Called}
use Rattle.tree.specs.Memo.{Learns, known_by}
use Rattle.verifier.specs.Together.{LinesLookAt}
use Rattle.verifier.proofs.Lines.{LinesGoOn}
use Rattle.verifier.proofs.Looking.{LinesLookOn}
use Rattle.verifier.proofs.origins.resolve.Given as goal

abbrev pub invariant-loop-line : goal.invariant-loop-line
invariant-loop-line g l =
    let tells = g.S.BlobSource.tells in
    record {
      called : Called (tells l.fn.source) (tells l.source) ⊥;
      goes : LinesGoOn (tells l.source).blobs l.sources (g.O.Outcomes.came_to l.outcomes) l.lines (merge_lines l.nodes.items) (drop l.line-index l.lines);
      held : AreHeld (merge_lines l.nodes.items);
      look : LinesLookOn (tells l.source).blobs l.sources (g.O.Outcomes.came_to l.outcomes) l.lines (drop l.line-index l.lines);
      learned : Learns (LinesLookAt (tells l.source).blobs l.sources (g.O.Outcomes.came_to l.outcomes) l.lines) ⊥ (known_by l.fn.memo) (known_by l.memo) (tells l.fn.source) (tells l.source);
    }
