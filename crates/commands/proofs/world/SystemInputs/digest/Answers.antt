use Rattle.commands.proofs.world.SystemInputs.digest.Goals as goal

pub returns-in-Ok-clause-read : goal.returns-in-Ok-clause-read
returns-in-Ok-clause-read g c = (c.in-Ok.ensures.bytes, tt, c.in-Ok.ensures.named)
