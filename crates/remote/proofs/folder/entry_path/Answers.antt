use Rattle.std.proofs.Common.{arith}
use Rattle.remote.proofs.Entries.{only_ascii}
use Rattle.remote.proofs.folder.entry_path.Goals as goal

pub truncate-requires : goal.truncate-requires
truncate-requires g c long =
    (omega (arith, c.in_ok-hash.hash.bytes.ok.0), λ some lt high. absurd (only_ascii c.args.digest.now 64 c.size-size.ensures.valid (rw c.in_ok-hash.ensures at lt) (rw c.in_ok-hash.ensures at high)))
