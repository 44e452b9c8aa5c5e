use Rattle.std.proofs.Common.{◌≡◌, [], drop, length}
use Rattle.blob_source.specs.Called.{Called}
use Rattle.tree.specs.Memo.{Learns, known_by}
use Rattle.verifier.specs.LooksAt.{StepsLookAt}
use Rattle.verifier.proofs.CheckingSteps.{StepsGoOn}
use Rattle.verifier.proofs.verifying.check_steps.Given as goal

abbrev pub invariant-loop-index : goal.invariant-loop-index
invariant-loop-index g l =
    let tells = g.S.BlobSource.tells in
    record {
      called : Called (tells l.fn.source) (tells l.source) ⊥;
      count : length l.outcomes.items ≡ l.index;
      goes : StepsGoOn g.row.A.Denot (tells l.source) l.sources l.steps l.recorded l.outcomes.items (drop l.index l.steps) (drop l.index l.recorded);
      learned : Learns (StepsLookAt g.row.A.Denot (tells l.source) l.sources [] l.steps l.recorded) ⊥ (known_by l.fn.memo) (known_by l.memo) (tells l.fn.source) (tells l.source);
    }
