-- What was hashed of a reader: words of private functions.
use Rattle.std.specs.Prelude.{◌≡◌, ℕ, List, Option, IfSome}
use Rattle.blob_digest.specs.Digest.{DigestValue, digest_of}

-- the digest is that of these bytes, which are all that the reader had left, where that is known
pub record IsDigestOfRest (rest : Option (List ℕ)) (digest : DigestValue) : Type 0 where
  pub bytes : List ℕ
  pub named : digest ≡ digest_of bytes
  pub whole : IfSome rest (λ all. all ≡ bytes)
