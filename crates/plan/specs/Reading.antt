-- What reading a plan answers where memory may run out.
use Rattle.std.specs.Prelude.{◌≡◌, Result, Ok, Err}
use Rattle.plan.specs.declared.error.PlanError.{PlanError}
use Rattle.plan.specs.declared.error.ReadError.{ReadError}
use Rattle.plan.specs.declared.error.ReadError.TheVariants.{Faulty, Memory}

-- a line is at fault so, unless memory ran out
abbrev pub FaultyUnlessMemory : (PlanError → Type 0) → ReadError → Type 0
FaultyUnlessMemory P (Faulty e) = P e
FaultyUnlessMemory P Memory = Unit {0}

-- the value is read, unless memory ran out
abbrev pub ReadsUnlessMemory : {X : Type 0} → Result X ReadError → X → Type 0
ReadsUnlessMemory (Ok x) y = x ≡ y
ReadsUnlessMemory (Err Memory) y = Unit {0}
ReadsUnlessMemory (Err (Faulty e)) y = ⊥
