use Rattle.std.proofs.Common.{ap, ◌∙◌}
use Rattle.messages.specs.DigestMessage.{hash_of}
use Rattle.messages.proofs.Hashes.{hash_refused, hash_again}
use Rattle.messages.proofs.digest.checked_hash.Goals as goal

pub returns-in-Some : goal.returns-in-Some
returns-in-Some c = let f = c.in-Some.ensures.found in ap hash_of f.1 ∙ hash_again c.in-Some.hash f.0

pub returns-in-None : goal.returns-in-None
returns-in-None c = hash_refused c.args.text.now (λ t. let some = c.in-None.ensures.some.1 t in absurd (cc some))
