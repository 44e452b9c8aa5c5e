use Rattle.std.proofs.Common.{◌∙◌, ap}
use Rattle.blob_digest.specs.Digest.{digest_of}
use Rattle.commands.proofs.world.Inputs.digest.Goals as goal

pub returns-clause-read : goal.returns-clause-read
returns-clause-read g c = (c.in_ok-bytes.bytes.items, c.in_ok-bytes.ensures.read, c.of.ensures ∙ ap digest_of c.deref.ensures.value)
