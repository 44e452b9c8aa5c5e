use Rattle.std.proofs.Common.{◌≤◌, ◌+◌, ◌*◌}
use Rattle.blob_source.specs.Called.{Called}
use Rattle.tree.specs.Memo.{AsksNoOther}
use Rattle.runs.specs.LooksAt.{OpeningLooksAt}
use Rattle.runs.proofs.Meanings.{ToldSoFar}
use Rattle.runs.proofs.opening.read_steps.Given as goal

abbrev pub invariant-loop-number : goal.invariant-loop-number
invariant-loop-number g l =
    let tells = g.S.BlobSource.tells in
    record {
      called : Called (tells l.fn.source) (tells l.source) ⊥;
      few : (tells l.source).calls ≤ (tells l.fn.source).calls + 2 * l.number;
      only : AsksNoOther (OpeningLooksAt (tells l.source).blobs l.steps) (tells l.fn.source) (tells l.source);
      told : ToldSoFar (tells l.source).blobs l.steps l.number l.frames.items l.commands.items;
    }
