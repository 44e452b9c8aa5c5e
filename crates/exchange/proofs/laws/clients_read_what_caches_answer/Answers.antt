use Rattle.exchange.proofs.Faults.{faults_told}
use Rattle.exchange.proofs.Joining.{clients_read, gets_held, puts_taken}
use Rattle.exchange.proofs.Small.{replies_small}
use Rattle.exchange.proofs.laws.clients_read_what_caches_answer.Goals as goal

pub returns : goal.returns
returns c = record { replies = clients_read; gets = gets_held; puts = puts_taken; faults = faults_told; small = replies_small }
