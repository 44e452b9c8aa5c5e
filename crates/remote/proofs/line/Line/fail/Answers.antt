use Rattle.std.proofs.Common.{◌≡◌, rules, refl}
use Rattle.remote.proofs.Lines.{memory_failed}
use Rattle.remote.proofs.line.Line.fail.Goals as goal

failed_itself : {X P : Type 0} {x : X} → (x ≡ x → ⊥) → P
failed_itself h = absurd (h refl)

pub returns-then-self : goal.returns-then-self
returns-then-self g c = record {
  flow = refl;
  broken = refl;
  failed = λ h. absurd (memory_failed h);
  unfailed = λ h. record { count = refl; fault = refl };
  full = λ h. search rules;
  bounded = search rules;
  server = record { host = refl; prefix = refl };
}

pub returns : goal.returns
returns g c = record {
  flow = refl;
  broken = refl;
  failed = λ h. (refl, refl);
  unfailed = failed_itself;
  full = failed_itself;
  bounded = search rules;
  server = record { host = refl; prefix = refl };
}
