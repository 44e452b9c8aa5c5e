use Rattle.std.proofs.Common.{length}
use Rattle.blob_source.specs.Source.{Asks}
use Rattle.blob_source.specs.Called.{Calls}
use Rattle.actions.specs.Outcome.{outputs_in}
use Rattle.action_messages.specs.Outputs.{directories_among, recorded_values}
use Rattle.actions.specs.LooksAt.{TreesLookAt}
use Rattle.actions.specs.Recorded.{StandForAll}
use Rattle.tree.specs.Memo.{AsksNoOther}
use Rattle.actions.proofs.Reading.{read_so_far}
use Rattle.actions.proofs.recording.read_outputs.Given as goal

abbrev pub invariant-loop-output : goal.invariant-loop-output
invariant-loop-output g l =
    let tells = g.S.BlobSource.tells in
    record {
      read : StandForAll (tells l.source).blobs (read_so_far l.output-index l.recorded) (outputs_in l.outputs.items);
      called : Calls (Asks (length (directories_among (read_so_far l.output-index l.recorded)))) (tells l.fn.source) (tells l.source) ⊥;
      only : AsksNoOther (TreesLookAt (directories_among (recorded_values l.recorded))) (tells l.fn.source) (tells l.source);
    }
