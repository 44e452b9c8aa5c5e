-- What a process wrote to standard output or standard error (remote_execution.proto, message
-- ActionResult: `stdout_raw` and `stdout_digest`, `stderr_raw` and `stderr_digest`): bytes that
-- stand in the result itself, and the digest of a blob that holds them.
use Rattle.std.specs.Prelude.{ℕ, List, Option, IfSome}
use Rattle.blob_digest.specs.DigestValue.{DigestValue, IsDigest}

pub record StreamValue : Type 0 where
  pub raw : List ℕ
  pub digest : Option DigestValue

pub record IsStream (s : StreamValue) : Type 0 where
  pub digest : IfSome s.digest IsDigest
