use Rattle.std.proofs.Common.{Result, Ok, Err, refl}
use Rattle.std.specs.Prelude.{MatchResult, IsOk}
use Rattle.std.specs.Str.{IsUtf8}
use Rattle.std.proofs.lemmas.Str.{IsUtf8-from_ascii}
use Rattle.plan.proofs.StepNames.{name-IsAscii}
use Rattle.plan.proofs.step.StepName.of_valid.Goals as goal

ok_of : {T E : Type 0} (P : T → Type 0) (Q : E → Type 0) (U : Type 0) (r : Result T E) → MatchResult r P (λ e. (¬ U) × Q e) → U → IsOk r
ok_of P Q U (Ok x) h u = refl
ok_of P Q U (Err e) h u = absurd (h.0 u)

pub unwrap-requires : goal.unwrap-requires
unwrap-requires g c = ok_of _ _ (IsUtf8 c.args.name.now) c.from_utf8.result c.from_utf8.ensures.cases (IsUtf8-from_ascii c.args.name.now (name-IsAscii c.args.name.now c.requires))
