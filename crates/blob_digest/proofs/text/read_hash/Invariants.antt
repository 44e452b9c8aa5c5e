use Rattle.blob_digest.proofs.HexTexts.{HasSpelled}
use Rattle.blob_digest.proofs.text.read_hash.Given as goal

abbrev pub invariant-loop-place : goal.invariant-loop-place
invariant-loop-place l = HasSpelled l.place l.hash l.text
