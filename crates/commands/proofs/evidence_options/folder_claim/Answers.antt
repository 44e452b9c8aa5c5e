use Rattle.commands.specs.FolderRead.{value_of_read}
use Rattle.commands.proofs.Notes.{claim_of_read}
use Rattle.commands.proofs.evidence_options.folder_claim.Goals as goal

pub returns-clause-claim : goal.returns-clause-claim
returns-clause-claim g c =
    claim_of_read (g.W.World.sees c.args.world.now) (g.M.Options.rows c.args.options.now) c.args.folder.now _ (value_of_read c.in_ok-read.read) c.in_ok-read.ensures.read c.in_ok-text.ensures

pub returns-clause-folder : goal.returns-clause-folder
returns-clause-folder g c = record { read = c.in_ok-read.ensures.read; claim = c.in_ok-text.ensures }
