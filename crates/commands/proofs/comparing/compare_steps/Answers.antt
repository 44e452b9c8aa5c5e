use Rattle.std.proofs.Common.{◌<◌, length, subst}
use Rattle.verifier.specs.declared.comparing.Comparison.TheVariants.{Alike, OtherAction, Unlike}
use Rattle.commands.proofs.OfTwo.{apart_within, compared_as, unlike_within}
use Rattle.commands.proofs.comparing.compare_steps.Goals as goal

pub compare_roots-requires-clause-alike : goal.compare_roots-requires-clause-alike
compare_roots-requires-clause-alike c =
    compared_as _ _ c.args.one.now.recalled.steps.items c.args.other.now.recalled.steps.items c.in_ok-compare.field-0 Alike c.deref.ensures.value c.deref-2.ensures.value c.in-Alike.is (c.in_ok-compare.ensures {u = tt})

pub step_of-requires-clause-recorded : goal.step_of-requires-clause-recorded
step_of-requires-clause-recorded c =
    (unlike_within c.args.one.now.recalled.steps.items c.args.other.now.recalled.steps.items c.in-Unlike.step c.in-Unlike.path
    (compared_as _ _ c.args.one.now.recalled.steps.items c.args.other.now.recalled.steps.items c.in_ok-compare.field-0 (Unlike c.in-Unlike.step c.in-Unlike.path) c.deref.ensures.value c.deref-2.ensures.value c.in-Unlike.is (c.in_ok-compare.ensures {u = tt}))).0

pub step_of-requires-clause-planned : goal.step_of-requires-clause-planned
step_of-requires-clause-planned c =
    subst (λ n. c.in-Unlike.step < n) c.requires.one.each
    (unlike_within c.args.one.now.recalled.steps.items c.args.other.now.recalled.steps.items c.in-Unlike.step c.in-Unlike.path
    (compared_as _ _ c.args.one.now.recalled.steps.items c.args.other.now.recalled.steps.items c.in_ok-compare.field-0 (Unlike c.in-Unlike.step c.in-Unlike.path) c.deref.ensures.value c.deref-2.ensures.value c.in-Unlike.is (c.in_ok-compare.ensures {u = tt}))).0

pub step_of-requires-in-OtherAction-clause-recorded : goal.step_of-requires-in-OtherAction-clause-recorded
step_of-requires-in-OtherAction-clause-recorded c =
    (apart_within c.args.one.now.recalled.steps.items c.args.other.now.recalled.steps.items c.in-OtherAction.step
    (compared_as _ _ c.args.one.now.recalled.steps.items c.args.other.now.recalled.steps.items c.in_ok-compare.field-0 (OtherAction c.in-OtherAction.step) c.deref.ensures.value c.deref-2.ensures.value c.in-OtherAction.is (c.in_ok-compare.ensures {u = tt}))).0

pub step_of-requires-in-OtherAction-clause-planned : goal.step_of-requires-in-OtherAction-clause-planned
step_of-requires-in-OtherAction-clause-planned c =
    subst (λ n. c.in-OtherAction.step < n) c.requires.one.each
    (apart_within c.args.one.now.recalled.steps.items c.args.other.now.recalled.steps.items c.in-OtherAction.step
    (compared_as _ _ c.args.one.now.recalled.steps.items c.args.other.now.recalled.steps.items c.in_ok-compare.field-0 (OtherAction c.in-OtherAction.step) c.deref.ensures.value c.deref-2.ensures.value c.in-OtherAction.is (c.in_ok-compare.ensures {u = tt}))).0

pub step_of-requires-in-OtherAction-2-clause-recorded : goal.step_of-requires-in-OtherAction-2-clause-recorded
step_of-requires-in-OtherAction-2-clause-recorded c =
    (apart_within c.args.one.now.recalled.steps.items c.args.other.now.recalled.steps.items c.in-OtherAction.step
    (compared_as _ _ c.args.one.now.recalled.steps.items c.args.other.now.recalled.steps.items c.in_ok-compare.field-0 (OtherAction c.in-OtherAction.step) c.deref.ensures.value c.deref-2.ensures.value c.in-OtherAction.is (c.in_ok-compare.ensures {u = tt}))).1

pub step_of-requires-in-OtherAction-2-clause-planned : goal.step_of-requires-in-OtherAction-2-clause-planned
step_of-requires-in-OtherAction-2-clause-planned c =
    subst (λ n. c.in-OtherAction.step < n) c.requires.other.each
    (apart_within c.args.one.now.recalled.steps.items c.args.other.now.recalled.steps.items c.in-OtherAction.step
    (compared_as _ _ c.args.one.now.recalled.steps.items c.args.other.now.recalled.steps.items c.in_ok-compare.field-0 (OtherAction c.in-OtherAction.step) c.deref.ensures.value c.deref-2.ensures.value c.in-OtherAction.is (c.in_ok-compare.ensures {u = tt}))).1

pub returns-in_ok-name-in-Unlike : goal.returns-in_ok-name-in-Unlike
returns-in_ok-name-in-Unlike c = (
  c.requires.question,
  c.in-Unlike.step,
  c.in_ok-name-in-Unlike.ensures {u = tt},
  compared_as _ _ c.args.one.now.recalled.steps.items c.args.other.now.recalled.steps.items c.in_ok-compare.field-0 (Unlike c.in-Unlike.step c.in-Unlike.path) c.deref.ensures.value c.deref-2.ensures.value c.in-Unlike.is (c.in_ok-compare.ensures {u = tt}),
)

pub returns-in_ok-other-in-OtherAction : goal.returns-in_ok-other-in-OtherAction
returns-in_ok-other-in-OtherAction c = (
  c.requires.question,
  c.in-OtherAction.step,
  c.in_ok-name-in-OtherAction.ensures {u = tt},
  (c.in_ok-other-in-OtherAction.field-0-0, c.in_ok-other-in-OtherAction.ensures {u = tt}),
  compared_as _ _ c.args.one.now.recalled.steps.items c.args.other.now.recalled.steps.items c.in_ok-compare.field-0 (OtherAction c.in-OtherAction.step) c.deref.ensures.value c.deref-2.ensures.value c.in-OtherAction.is (c.in_ok-compare.ensures {u = tt}),
)
