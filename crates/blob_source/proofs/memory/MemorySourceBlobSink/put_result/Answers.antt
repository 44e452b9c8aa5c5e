-- The table has the bytes under the digest, and under the others what it had.
use Rattle.std.proofs.Common.{refl, rules}
use Rattle.blob_source.proofs.Asking.{ok_no_error}
use Rattle.blob_source.proofs.Puts.{puts_inserted}
use Rattle.blob_source.proofs.memory.MemorySourceBlobSink.put_result.Goals as goal

pub returns-clause-called : goal.returns-clause-called
returns-clause-called g c =
    let updates = c.in_ok-insert.ensures.updates in
    record {
      asked = record {
        results = puts_inserted c.args.self.now.results c.insert.new.self c.args.digest.now c.in_ok-from_slice.ensures.items updates.1 updates.2;
        blobs = refl;
        counts = search rules;
      };
      failed = λ f. absurd (ok_no_error f);
      unfailed = λ _. refl;
    }
