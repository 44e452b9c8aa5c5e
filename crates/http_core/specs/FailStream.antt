-- A stream in memory of whose reads and writes one fails.
use Rattle.std.specs.Prelude.{◌≡◌, ◌⊎◌, ℕ, ◌-◌, min, List, ◌++◌, length, take, drop, Result, Ok}
use Rattle.std.specs.Prelude.{MatchResult}
use Rattle.std.specs.declared.io.Error.{Error}
use Rattle.std.specs.declared.io.ErrorKind.{ErrorKind}
use Rattle.std.specs.declared.io.ErrorKind.TheVariants.{ConnectionReset, OutOfMemory}
use Rattle.std.specs.IoError.{error_kind}

pub record FailStreamValue : Type 0 where
  -- the bytes that reads are still to give
  pub coming : List ℕ
  -- the bytes that writes took
  pub sent : List ℕ
  -- the most bytes that one call gives or takes
  pub most : ℕ
  -- the call from here on that fails, 1 being the next; 0 where none will
  pub until_failure : ℕ

-- the stream with one call counted
abbrev pub with_a_call_counted : FailStreamValue → FailStreamValue
with_a_call_counted s = record s { until_failure = s.until_failure - 1 }

-- the call failed with an error of this kind, and nothing was given or taken
pub record FailsWith (kind : ErrorKind) (old new : FailStreamValue) (result : Result ℕ Error)
    : Type 0 where
  pub told : MatchResult result (λ _. ⊥) (λ e. error_kind e ≡ kind)
  pub same : new ≡ with_a_call_counted old

-- the call is the one that fails
abbrev pub FailsCall : FailStreamValue → FailStreamValue → Result ℕ Error → Type 0
FailsCall = FailsWith ConnectionReset

-- The read gave the next bytes: as many as there are, have room and may come at once.
pub record GivesNext
    (old new : FailStreamValue) (before after : List ℕ) (result : Result ℕ Error) : Type 0 where
  pub count : ℕ
  pub is : count ≡ min (min old.most (length before)) (length old.coming)
  pub told : result ≡ Ok count
  pub given : after ≡ take count old.coming ++ drop count before
  pub rest : new ≡ record (with_a_call_counted old) { coming = drop count old.coming }

-- the write took a front of the bytes: as many as there are and may go at once
pub record TakesBytes (old new : FailStreamValue) (bytes : List ℕ) (result : Result ℕ Error)
    : Type 0 where
  pub count : ℕ
  pub is : count ≡ min old.most (length bytes)
  pub told : result ≡ Ok count
  pub kept : new ≡ record (with_a_call_counted old) { sent = old.sent ++ take count bytes }

-- the write took a front of the bytes, or failed since memory was wanting
abbrev pub TakesFront : FailStreamValue → FailStreamValue → List ℕ → Result ℕ Error → Type 0
TakesFront old new bytes result =
    TakesBytes old new bytes result ⊎ FailsWith OutOfMemory old new result
