use Rattle.blob_store.specs.Blobs.{found_in}
use Rattle.action_cache.proofs.Learned.{learned, still_read}
use Rattle.action_cache.proofs.trees.learn.Goals as goal

pub returns-clause-right : goal.returns-clause-right
returns-clause-right g c = learned (found_in c.args.blobs.now.entries) c.args.trees.now c.insert.new.self c.args.digest.now c.in_ok-files.files c.in_ok-insert.ensures.updates.0 c.in_ok-files.ensures c.requires

pub returns-clause-kept : goal.returns-clause-kept
returns-clause-kept g c = still_read (found_in c.args.blobs.now.entries) c.args.trees.now c.insert.new.self c.args.digest.now c.in_ok-files.files c.in_ok-insert.ensures.updates.0
