use Rattle.std.proofs.Common.{◌≡◌, ◌∙◌, true, false, sym}
use Rattle.commands.proofs.OfTwo.{same_plan}
use Rattle.commands.proofs.comparing.compare_builds.Goals as goal

pub returns-then-not-same_digest : goal.returns-then-not-same_digest
returns-then-not-same_digest c = (
  sym c.plan-plan.ensures.value ∙ same_plan c.spells_one_plan.ensures c.plan-plan.result.now c.plan-other_plan.result.now c.in_ok-text.text.items c.in_ok-other_text.other_text.items c.steps.ensures.valid c.steps-2.ensures.valid (c.in_ok-text.ensures {u = tt}) (c.in_ok-other_text.ensures {u = tt})
      (sym c.deref.ensures.value ∙ c.in_default.ensures ∙ c.deref-2.ensures.value) ∙ c.plan-other_plan.ensures.value,
  c.sources-sources.ensures,
  c.sources-other_sources.ensures,
  λ same. (let yes = c.same_digest.ensures.1 same in let no = c.if-not-same_digest.true in let both : true ≡ false = sym yes ∙ no in cc),
)

pub compare_steps-requires-clause-question : goal.compare_steps-requires-clause-question
compare_steps-requires-clause-question c = record {
  plan = sym c.plan-plan.ensures.value ∙ same_plan c.spells_one_plan.ensures c.plan-plan.result.now c.plan-other_plan.result.now c.in_ok-text.text.items c.in_ok-other_text.other_text.items c.steps.ensures.valid c.steps-2.ensures.valid (c.in_ok-text.ensures {u = tt}) (c.in_ok-other_text.ensures {u = tt})
      (sym c.deref.ensures.value ∙ c.in_default.ensures ∙ c.deref-2.ensures.value) ∙ c.plan-other_plan.ensures.value;
  sources = sym c.sources-sources.ensures ∙ c.same_digest.ensures.0 c.if-not-same_digest.false ∙ c.sources-other_sources.ensures;
}
