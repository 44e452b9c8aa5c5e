use Rattle.cache_server.proofs.Hashes.{answers_its_hash}
use Rattle.cache_server.proofs.laws.blobs_are_answered_under_their_hashes.Goals as goal

pub returns : goal.returns
returns c = answers_its_hash
