-- The line on a terminal that tells how far a build is.
use Rattle.std.specs.Prelude.{ℕ, List, ◌++◌, Option, None, Some, codes, decimal, option_and_then}
use Rattle.std.specs.Prelude.{slice_get}
use Rattle.plan.specs.Values.{StepValue}
use Rattle.worker.specs.declared.watching.Progress.{Progress}

-- the steps that have finished, all, and those that the store had
abbrev pub counts_text : Progress → List ℕ
counts_text p = codes "build " ++ (decimal p.finished ++ (codes " of " ++ (decimal p.steps
    ++ (codes " steps, " ++ (decimal p.taken ++ codes " from the store")))))

-- the counts, and then how many run, and the one that runs longest, where it is a step of the plan
abbrev pub with_longest : List ℕ → ℕ → Option StepValue → List ℕ
with_longest counts running None = counts
with_longest counts running (Some step) =
    counts ++ (codes ", " ++ (decimal running ++ (codes " running, longest " ++ step.name)))

abbrev pub progress_line : List StepValue → Progress → List ℕ
progress_line steps p =
    with_longest (counts_text p) p.running (option_and_then (slice_get steps) p.longest)
