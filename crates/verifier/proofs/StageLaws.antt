-- What holds of a check holds of it at its place, and by other names of its faults.
use Rattle.std.proofs.Common.{ap, sym, ◌∙◌, refl}
use Rattle.verifier.specs.declared.verdict.Cause.{Cause}
use Rattle.verifier.specs.declared.verdict.Place.{Place}
use Rattle.tree.specs.Stage.{Stage}
use Rattle.tree.proofs.StageLaws.{IsOnce, IsTotal}
use Rattle.verifier.specs.Together.{with_faults_named}
use Rattle.verifier.specs.Verdict.{located}

-- one answer
pub once_located : {A V : Type 0} (place : Place A) (check : Stage (Cause A) V) → IsOnce check → IsOnce (located place check)
once_located place check h = record {
  value = h.value;
  why = λ c e p q. λ i. ((p.0 ∙ sym q.0) i, h.why c.1 e.1 p.1 q.1 i);
  either = λ v c p q. h.either v c.1 p q.1;
}

-- and always one
pub total_located : {A V : Type 0} (place : Place A) (check : Stage (Cause A) V) → IsTotal check → IsTotal (located place check)
total_located place check h = record { ends = λ passes fails. h.ends passes (λ c q. fails (place, c) (refl, q)) }

pub once_named : {E F V : Type 0} (name : E → F) (check : Stage E V) → IsOnce check → IsOnce (with_faults_named name check)
once_named name check h = record {
  value = h.value;
  why = λ c e p q. p.2 ∙ ap name (h.why p.0 q.0 p.1 q.1) ∙ sym q.2;
  either = λ v c p q. h.either v q.0 p q.1;
}

pub total_named : {E F V : Type 0} (name : E → F) (check : Stage E V) → IsTotal check → IsTotal (with_faults_named name check)
total_named name check h = record { ends = λ passes fails. h.ends passes (λ e q. fails (name e) (e, q, refl)) }
