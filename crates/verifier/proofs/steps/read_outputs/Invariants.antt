use Rattle.std.proofs.Common.{drop}
use Rattle.actions.specs.Outcome.{outputs_in}
use Rattle.action_messages.specs.Outputs.{recorded_values}
use Rattle.blob_source.specs.Called.{Called}
use Rattle.tree.specs.Memo.{Learns, known_by}
use Rattle.verifier.specs.LooksAt.{OutputsLookAt}
use Rattle.verifier.proofs.Checking.{OutputsGoOn}
use Rattle.verifier.proofs.Looking.{OutputsLookOn}
use Rattle.verifier.proofs.steps.read_outputs.Given as goal

abbrev pub invariant-loop-output : goal.invariant-loop-output
invariant-loop-output g l =
    let tells = g.S.BlobSource.tells in
    record {
      called : Called (tells l.fn.source) (tells l.source) ⊥;
      goes : OutputsGoOn g.row.A.Denot (tells l.source).blobs l.command (recorded_values l.recorded) (outputs_in l.outputs.items) (recorded_values (drop l.output-index l.recorded));
      look : OutputsLookOn (tells l.source).blobs l.command (recorded_values l.recorded) (recorded_values (drop l.output-index l.recorded));
      learned : Learns (OutputsLookAt (tells l.source).blobs l.command (recorded_values l.recorded)) ⊥ (known_by l.fn.memo) (known_by l.memo) (tells l.fn.source) (tells l.source);
    }
