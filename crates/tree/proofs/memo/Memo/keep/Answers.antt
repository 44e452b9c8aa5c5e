-- The table has the blob under the digest, and under the others what it had.
use Rattle.std.proofs.Common.{refl}
use Rattle.tree.proofs.Memos.{knows_blob}
use Rattle.tree.proofs.memo.Memo.keep.Goals as goal

pub returns-clause-ok : goal.returns-clause-ok
returns-clause-ok g c =
    let updates = c.in_ok-insert.ensures.updates in
    knows_blob c.args.self.now (record { blobs = c.insert.new.self; results = c.args.self.now.results }) c.args.digest.now c.args.kept updates.1 updates.2 refl
