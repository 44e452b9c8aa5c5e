use Rattle.std.proofs.Common.{◌≡◌, drop, map}
use Rattle.canonical.specs.View.{slices}
use Rattle.canonical.specs.Told.{each}
use Rattle.messages.specs.Directory.{directory_bytes, decoded_directory}
use Rattle.messages.specs.Tree.{digests_of}
use Rattle.wire.proofs.Steps.{with_front}
use Rattle.messages.proofs.tree.read_each_hashed.Given as goal

abbrev pub invariant-loop-bytes : goal.invariant-loop-bytes
invariant-loop-bytes g l = record {
  directories : with_front l.directories.items (each decoded_directory (slices (drop l.bytes-index l.elements))) ≡ each decoded_directory (slices l.elements);
  digests : l.digests.items ≡ digests_of (map directory_bytes l.directories.items);
}
