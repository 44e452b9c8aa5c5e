use Rattle.std.proofs.Common.{rules, refl}
use Rattle.verifier.proofs.Checking.{not_read}
use Rattle.verifier.proofs.steps.decode_result.Goals as goal

pub returns-in-Err : goal.returns-in-Err
returns-in-Err g c = record {
  found = tt;
  none = ((λ r reads. not_read c.in-Err.field-0 r (λ h. search rules) (c.in-Err.ensures.only r reads)), refl);
  fetch = λ h. search rules;
}
