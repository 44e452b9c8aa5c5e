-- The table has the bytes under the digest, and under the others what it had.
use Rattle.std.proofs.Common.{ap, refl}
use Rattle.blob_source.specs.Source.{bytes_of}
use Rattle.blob_source.proofs.Digests.{other_digests}
use Rattle.blob_source.proofs.memory.MemorySource.hold_result.Goals as goal

pub returns-clause-ok : goal.returns-clause-ok
returns-clause-ok g c =
    let updates = c.in_ok-insert.ensures.updates in
    record {
      held = ap bytes_of updates.1;
      others = λ e n. ap bytes_of (updates.2 e (other_digests c.args.digest e n));
      blobs = refl;
      failures = refl;
      calls = refl;
      puts = refl;
    }
