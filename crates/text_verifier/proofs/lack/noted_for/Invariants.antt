use Rattle.std.proofs.Common.{◌≡◌, drop, map}
use Rattle.plan.specs.Values.{StepValue}
use Rattle.text_verifier.specs.Lacking.{noted_for}
use Rattle.text_verifier.proofs.lack.noted_for.Given as goal

abbrev pub invariant-loop-number : goal.invariant-loop-number
invariant-loop-number g l =
    noted_for l.name (map (λ (s : StepValue). s.name) l.steps) l.digests
    ≡ noted_for l.name (drop l.number (map (λ (s : StepValue). s.name) l.steps)) (drop l.number l.digests)
