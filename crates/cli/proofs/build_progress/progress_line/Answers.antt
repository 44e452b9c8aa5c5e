use Rattle.std.proofs.Common.{◌≡◌, ◌∙◌, Some, string_bytes, ℕ, List, ◌++◌, codes, decimal, length, ap, refl, subst, sym, rules}
use Rattle.std.specs.Prelude.{option_and_then, slice_get}
use Rattle.std.proofs.lemmas.Option.{slice_get_read}
use Rattle.std.proofs.lemmas.Result.{IfOk-weaker}
use Rattle.plan.specs.Values.{StepValue}
use Rattle.worker.specs.declared.watching.Progress.{Progress}
use Rattle.cli.specs.Progress.{counts_text, progress_line, with_longest}
use Rattle.cli.proofs.build_progress.progress_line.Goals as goal

-- the line of a step of the plan that runs longest
line_by : (steps : List StepValue) (p : Progress) (number : ℕ) (step : StepValue) (counts name line : List ℕ) → p.longest ≡ Some number → slice_get steps number ≡ Some step
    → counts ≡ counts_text p → name ≡ step.name → line ≡ counts ++ (codes ", " ++ (decimal p.running ++ (codes " running, longest " ++ name))) → line ≡ progress_line steps p
line_by steps p number step counts name line longest found counts_are named is =
    is ∙ ap (λ (c : List ℕ). c ++ (codes ", " ++ (decimal p.running ++ (codes " running, longest " ++ name)))) counts_are
    ∙ ap (λ (n : List ℕ). counts_text p ++ (codes ", " ++ (decimal p.running ++ (codes " running, longest " ++ n)))) named
    ∙ sym (ap (with_longest (counts_text p) p.running) (ap (option_and_then (slice_get steps)) longest ∙ found))

pub returns : goal.returns
returns c =
    let step = c.in-Some-get.step.now in
    let told = c.in-Some-get.ensures.lookup in
    let found : slice_get c.args.plan.now.steps c.in-Some.number ≡ Some step = subst (λ l. slice_get l c.in-Some.number ≡ Some step) c.steps.ensures.value
    (slice_get_read c.steps.result.now (length c.steps.result.now) c.in-Some.number step refl told.3.0 told.1) in
    let named : c.as_str-name.result.now ≡ step.name = search rules in
    IfOk-weaker c.format-2.result _ _ (λ line is. line_by c.args.plan.now.steps c.args.progress c.in-Some.number step (string_bytes c.in_ok-counts.counts) c.as_str-name.result.now (string_bytes line) c.in-Some.is found c.in_ok-counts.ensures.ok named is) c.format-2.ensures.ok
