-- The text of a digest can be cut anywhere.
use Rattle.std.proofs.Common.{◌≡◌, ℕ, ◌<◌, ◌≤◌, length, slice_index, false, arith}
use Rattle.std.proofs.lemmas.List.{get_or_default}
use Rattle.std.specs.Char.{is_ascii_digit}
use Rattle.blob_digest.specs.Digest.{DigestValue, IsDigest}
use Rattle.blob_digest.specs.Text.{digest_text, is_lower_hex}
use Rattle.blob_digest.proofs.DigestTexts.{digest_text-without}

no_hex : (c : ℕ) → 128 ≤ c → is_lower_hex c ≡ false
no_hex c h = grind arith

no_digit : (c : ℕ) → 128 ≤ c → is_ascii_digit c ≡ false
no_digit c h = grind arith

pub only_ascii : (d : DigestValue) (k : ℕ) → IsDigest d → k < length (digest_text d) → 128 ≤ slice_index (digest_text d) k → ⊥
only_ascii d k h lt high =
    let c = slice_index (digest_text d) k in
    digest_text-without d c h (no_hex c high) (no_digit c high) (λ is. omega arith) (k, lt, get_or_default (digest_text d) k c 0 lt)
