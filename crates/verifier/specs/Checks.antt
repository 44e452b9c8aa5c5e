-- What a check of a source comes to, and what it did to the source.
use Rattle.std.specs.Prelude.{Result, IsErrOf}
use Rattle.blob_source.specs.Called.{Called}
use Rattle.blob_source.specs.Source.{Telling}
use Rattle.tree.specs.Memo.{Asked, Known, WasRefused, Learns}
use Rattle.verifier.specs.declared.fault.Fault.{Fault}
use Rattle.verifier.specs.declared.fault.Fault.TheVariants as faults
use Rattle.verifier.specs.declared.verdict.Cause.{Cause}
use Rattle.tree.specs.Stage.{Stage}
use Rattle.verifier.specs.Stage.{Answers}

-- A check answers by all that is told in the end, and asks for what isn't known of what it looks
-- at.
pub record Checks {A V : Type 0} (check : Telling → Stage (Cause A) V)
    (looks : Telling → Asked → Type 0) (known later : Known) (old new : Telling)
    (r : Result V (Fault A)) : Type 0 where
  pub checked : Answers (check new) r
  pub called : Called old new (IsErrOf r faults.Fetch)
  pub learned : Learns (looks new) (WasRefused r) known later old new
