use Rattle.messages.specs.Directory.{decoded_directory}
use Rattle.messages.proofs.Each.{goes_on_at}
use Rattle.messages.proofs.Trees.{hashed_more}
use Rattle.messages.proofs.tree.read_each_hashed.Goals as goal

pub loop-bytes-preserved : goal.loop-bytes-preserved
loop-bytes-preserved g c = record {
  directories = rw c.in_ok-push.ensures.items (goes_on_at decoded_directory c.loop-bytes.directories.items c.args.elements.now c.loop-bytes.bytes-index _ c.in_ok-directory.directory _ c.loop-bytes-test.true c.in_ok-directory.ensures.directory c.loop-bytes.invariant.directories);
  digests = rw (c.in_ok-push-2.ensures.items, c.in_ok-push.ensures.items) (hashed_more c.loop-bytes.directories.items c.in_ok-directory.directory c.loop-bytes.digests.items c.in_ok-directory.digest c.loop-bytes.invariant.digests c.in_ok-directory.ensures.digest);
}
