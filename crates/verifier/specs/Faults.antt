-- The causes that faults are.
use Rattle.blob_source.specs.Told.{Fault, missing, wrong, malformed}
use Rattle.verifier.specs.declared.verdict.Cause.{Cause}
use Rattle.verifier.specs.declared.verdict.Cause.TheVariants.{BlobMissing, BlobWrong, BlobMalformed}
use Rattle.verifier.specs.declared.verdict.Cause.TheVariants.{OriginMissing, InputConflict}
use Rattle.verifier.specs.Together.{LinesFault, no_origin, in_conflict, not_read}

-- the cause that a message isn't told
abbrev pub cause_of_fault : {A : Type 0} → Fault → Cause A
cause_of_fault (missing d) = BlobMissing d
cause_of_fault (wrong d) = BlobWrong d
cause_of_fault (malformed d) = BlobMalformed d

-- the cause that lines put no tree together
abbrev pub cause_of_lines : {A : Type 0} → LinesFault → Cause A
cause_of_lines (no_origin path) = OriginMissing path
cause_of_lines (in_conflict path) = InputConflict path
cause_of_lines (not_read f) = cause_of_fault f
