-- Why texts have no answer.
use Rattle.std.specs.Prelude.{◌≡◌, ℕ, List, Result, Ok, Err}
use Rattle.blob_digest.specs.Digest.{DigestValue}
use Rattle.plan.specs.Faults.{IsPlanFault}
use Rattle.plan.specs.Record.{IsRecordFault}
use Rattle.verifier.specs.declared.error.VerifyError.{VerifyError}
use Rattle.verifier.specs.declared.error.VerifyError.TheVariants as verifying
use Rattle.text_verifier.specs.declared.error.TextError.{TextError}
use Rattle.text_verifier.specs.declared.error.TextError.TheVariants.{Plan, Record, Fetch, Memory}
use Rattle.text_verifier.specs.Texts.{IsDigestText}

abbrev pub of_verify : VerifyError → TextError
of_verify verifying.Fetch = Fetch
of_verify verifying.Memory = Memory

-- the text spells some digest
abbrev pub IsSpelled : List ℕ → Type 0
IsSpelled text = (digest : DigestValue) × IsDigestText text digest

-- a line of the plan's text is at fault, or memory ran out
abbrev pub IsPlanRefusal : List ℕ → TextError → Type 0
IsPlanRefusal text (Plan fault) = IsPlanFault text fault
IsPlanRefusal text Memory = Unit {0}
IsPlanRefusal text e = ⊥

-- a line of the text of a record of these steps is at fault, or memory ran out
abbrev pub IsRecordRefusal : List (List ℕ) → List ℕ → TextError → Type 0
IsRecordRefusal names text (Record fault) = IsRecordFault names text fault
IsRecordRefusal names text Memory = Unit {0}
IsRecordRefusal names text e = ⊥

-- no text is at fault: the source failed, or memory ran out
abbrev pub IsNoFault : TextError → Type 0
IsNoFault Fetch = Unit {0}
IsNoFault Memory = Unit {0}
IsNoFault e = ⊥

-- the value is answered, unless memory ran out
abbrev pub AnswersUnlessMemory : {X : Type 0} → Result X TextError → X → Type 0
AnswersUnlessMemory (Ok x) y = x ≡ y
AnswersUnlessMemory (Err e) y = e ≡ Memory
