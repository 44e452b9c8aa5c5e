-- What a call, or some calls one after another, did to a source.
use Rattle.std.specs.Prelude.{◌≡◌, ◌+◌}
use Rattle.blob_source.specs.Source.{Telling, AsksSome}

-- The calls did this to what the source tells, and the source counted a failure, one, exactly where
-- the answer says that it failed.
pub record Calls (does : Telling → Telling → Type 0) (old new : Telling) (fails : Type 0)
    : Type 0 where
  pub asked : does old new
  pub failed : fails → new.failures ≡ old.failures + 1
  pub unfailed : (fails → ⊥) → new.failures ≡ old.failures

-- the source was asked, by some calls, and told more
abbrev pub Called : Telling → Telling → Type 0 → Type 0
Called = Calls AsksSome
