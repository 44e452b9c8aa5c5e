use Rattle.std.proofs.Common.{◌≡◌, ◌∙◌, ◌<◌, Some, ap, arith, length, sym, true, false}
use Rattle.std.specs.Str.{bytes_eq}
use Rattle.blob_digest.specs.Digest.{DigestValue, empty_digest}
use Rattle.plan.specs.Values.{StepValue}
use Rattle.text_verifier.proofs.Noted.{noted_here, noted_later}
use Rattle.text_verifier.proofs.lack.noted_for.Goals as goal

pub returns-then-eq : goal.returns-then-eq
returns-then-eq g c =
    let lt : c.loop-number.number < length c.args.steps.now = omega arith in
    let called : c.as_bytes.result.now ≡ c.index-steps-number.result.name = c.as_bytes.ensures.value ∙ ap (λ (s : StepValue). s.name) c.step.view_is in
    let yes : bytes_eq c.as_bytes.result.now c.args.name.now ≡ true = sym c.eq.ensures ∙ c.if-eq.true in
    sym (c.loop-number.invariant
    ∙ noted_here c.args.name.now c.args.steps.now c.args.digests.now c.loop-number.number c.index-steps-number.result c.as_bytes.result.now c.requires lt
    c.index-steps-number.is called c.index-digests-number.result yes
    ∙ ap (λ (d : DigestValue). Some d) (sym c.index-digests-number.is))

pub loop-number-preserved : goal.loop-number-preserved
loop-number-preserved g c =
    let lt : c.loop-number.number < length c.args.steps.now = omega arith in
    let called : c.as_bytes.result.now ≡ c.index-steps-number.result.name = c.as_bytes.ensures.value ∙ ap (λ (s : StepValue). s.name) c.step.view_is in
    let no : bytes_eq c.as_bytes.result.now c.args.name.now ≡ false = sym c.eq.ensures ∙ c.if-eq.false in
    c.loop-number.invariant
    ∙ noted_later c.args.name.now c.args.steps.now c.args.digests.now c.loop-number.number c.index-steps-number.result c.as_bytes.result.now c.requires lt
    c.index-steps-number.is called empty_digest no
