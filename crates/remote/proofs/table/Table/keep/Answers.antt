use Rattle.std.proofs.Common.{ap}
use Rattle.blob_source.proofs.Digests.{other_digests}
use Rattle.remote.specs.Table.{bytes_kept}
use Rattle.remote.proofs.table.Table.keep.Goals as goal

pub returns-clause-ok : goal.returns-clause-ok
returns-clause-ok g c =
    let updates = c.in_ok-insert.ensures.updates in
    record {
      kept = λ none. (let is = updates.1 in cc);
      held = ap bytes_kept updates.1;
      others = λ e n. updates.2 e (other_digests c.args.digest.now e n);
    }
