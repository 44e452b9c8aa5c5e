use Rattle.exchange.proofs.Joining.{blobs_hashed, put_got, put_got_hash, results_back}
use Rattle.exchange.proofs.laws.what_is_put_is_got.Goals as goal

pub returns : goal.returns
returns c = record { blobs = put_got; hashes = put_got_hash; later = blobs_hashed; results = results_back }
