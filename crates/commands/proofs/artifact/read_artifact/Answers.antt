use Rattle.std.proofs.Common.{ap, refl}
use Rattle.commands.specs.Digested.{reads_bits}
use Rattle.commands.specs.Faults.{OrMemory}
use Rattle.commands.specs.ReadRefused.{FailsReading}
use Rattle.commands.specs.declared.artifact.KeepsDirectories.{KeepsDirectories}
use Rattle.tree.specs.Folded.{items_of}
use Rattle.commands.proofs.Exits.{exit_by}
use Rattle.commands.proofs.Hashes.{or_unread}
use Rattle.commands.proofs.KeptDirectories.{folder_read}
use Rattle.commands.proofs.artifact.read_artifact.Goals as goal

pub returns-in_err-digest-clause-refused : goal.returns-in_err-digest-clause-refused
returns-in_err-digest-clause-refused g c =
    let sees = g.W.World.sees c.args.world.now in
    let rows = g.M.Options.rows c.args.options.now in
    exit_by (OrMemory (FailsReading sees (reads_bits rows) 64 c.args.folder.now)) _ c.from_residual.ensures.1
    (or_unread rows 64 c.args.folder.now c.reads_bits.ensures refl c.in_err-digest.ensures.refused)

pub returns-clause-read : goal.returns-clause-read
returns-clause-read g c =
    folder_read (λ (k : KeepsDirectories). items_of k.directories.items) (g.W.World.sees c.args.world.now) (g.M.Options.rows c.args.options.now) c.reads_bits.result c.args.folder.now c.in_ok-digest.digest _ _ c.reads_bits.ensures
    (ap items_of c.new.ensures.items) c.in_ok-digest.ensures.taken
