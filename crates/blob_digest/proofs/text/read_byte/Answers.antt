use Rattle.std.proofs.Common.{arith}
use Rattle.blob_digest.proofs.HexTexts.{byte_back}
use Rattle.blob_digest.proofs.text.read_byte.Goals as goal

pub returns-clause-found : goal.returns-clause-found
returns-clause-found c =
    let h = c.in_ok-read_digit.ensures.found in
    let l = c.in_ok-read_digit-2.ensures.found in
    let high = h.0 in
    let low = l.0 in
    (omega (arith, high, low), byte_back _ _ _ _ h.0 l.0 h.1 l.1)
