use Rattle.std.proofs.Common.{◌≡◌, ◌<◌, length, get_or, List, ℕ, ap, subst, sym, ◌∙◌, arith, not, true, false, nat_eq, Bool, refl}
use Rattle.std.specs.Cmp.Lexicographic.{pointwise}
use Rattle.plan.specs.Record.{RecordValue}
use Rattle.plan.specs.Values.{StepValue}
use Rattle.plan.proofs.Entries.{same_name, next_fit}
use Rattle.plan.proofs.Escapes.{told_apart}
use Rattle.plan.proofs.Spelled.{same_text}
use Rattle.plan.proofs.record.Record.fits.Goals as goal

not_false : (b : Bool) → not b ≡ false → b ≡ true
not_false true e = refl
not_false false e = absurd (cc e)

pub returns-then-ne-clause-fits : goal.returns-then-ne-clause-fits
returns-then-ne-clause-fits g c =
    let names : c.deref-name-items.result.now ≡ c.args.self.now.names = c.deref-name-items.ensures.value ∙ ap (λ (r : RecordValue). r.names) c.self.view_is in
    let lt : c.loop-number.number < length c.args.self.now.names = subst (λ (l : List (List ℕ)). c.loop-number.number < length l) names c.loop-number-test.true in
    let at : c.name-item.result ≡ get_or c.args.self.now.names c.loop-number.number c.name-item.result = c.name-item.is ∙ ap (λ (l : List (List ℕ)). get_or l c.loop-number.number c.name-item.result) names in
    let steps = c.steps-steps.ensures.value in
    let lens : length c.self.inside.names.items ≡ length c.args.self.now.names = ap (λ (r : RecordValue). length r.names) c.self.view_is in
    let counts : length c.steps-steps.result.now ≡ length c.args.plan.now.steps = ap (λ (ss : List StepValue). length ss) steps in
    let lu : c.loop-number.number < length c.args.plan.now.steps = omega (arith, c.len.ensures, c.if-len-steps.false, c.self.inside.names.ok) in
    let of : c.index-steps-number.result ≡ get_or c.args.plan.now.steps c.loop-number.number c.index-steps-number.result = c.index-steps-number.is ∙ ap (λ (ss : List StepValue). get_or ss c.loop-number.number c.index-steps-number.result) steps in
    let stepname : c.step.inside.name ≡ c.index-steps-number.result.name = ap (λ (s : StepValue). s.name) c.step.view_is in
    let apart = told_apart c.as_bytes.result.now c.as_bytes-in-loop-number.result.now (sym c.ne.ensures ∙ c.if-ne.true) in (
      λ no. cc no,
      λ fit. absurd (apart (c.as_bytes.ensures.value ∙ same_name c.args.self.now.names c.args.plan.now.steps c.loop-number.number c.name-item.result c.index-steps-number.result lt lu at of fit ∙ sym stepname ∙ sym c.as_bytes-in-loop-number.ensures.value)),
    )

pub loop-number-preserved : goal.loop-number-preserved
loop-number-preserved g c =
    let names : c.deref-name-items.result.now ≡ c.args.self.now.names = c.deref-name-items.ensures.value ∙ ap (λ (r : RecordValue). r.names) c.self.view_is in
    let lt : c.loop-number.number < length c.args.self.now.names = subst (λ (l : List (List ℕ)). c.loop-number.number < length l) names c.loop-number-test.true in
    let at : c.name-item.result ≡ get_or c.args.self.now.names c.loop-number.number c.name-item.result = c.name-item.is ∙ ap (λ (l : List (List ℕ)). get_or l c.loop-number.number c.name-item.result) names in
    let steps = c.steps-steps.ensures.value in
    let lens : length c.self.inside.names.items ≡ length c.args.self.now.names = ap (λ (r : RecordValue). length r.names) c.self.view_is in
    let counts : length c.steps-steps.result.now ≡ length c.args.plan.now.steps = ap (λ (ss : List StepValue). length ss) steps in
    let lu : c.loop-number.number < length c.args.plan.now.steps = omega (arith, c.len.ensures, c.if-len-steps.false, c.self.inside.names.ok) in
    let of : c.index-steps-number.result ≡ get_or c.args.plan.now.steps c.loop-number.number c.index-steps-number.result = c.index-steps-number.is ∙ ap (λ (ss : List StepValue). get_or ss c.loop-number.number c.index-steps-number.result) steps in
    let stepname : c.step.inside.name ≡ c.index-steps-number.result.name = ap (λ (s : StepValue). s.name) c.step.view_is in
    let same = same_text c.as_bytes.result.now c.as_bytes-in-loop-number.result.now (not_false (pointwise nat_eq c.as_bytes.result.now c.as_bytes-in-loop-number.result.now) (sym c.ne.ensures ∙ c.if-ne.false)) in
    next_fit c.args.self.now.names c.args.plan.now.steps c.loop-number.number c.name-item.result c.index-steps-number.result lt lu at of (sym c.as_bytes.ensures.value ∙ same ∙ c.as_bytes-in-loop-number.ensures.value ∙ stepname) c.loop-number.invariant
