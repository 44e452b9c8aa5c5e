use Rattle.plan.specs.Lines.{step_line}
use Rattle.plan.proofs.Written.{first_words, no_line}
use Rattle.plan.proofs.words.first_step.Goals as goal

pub returns-in_err-words : goal.returns-in_err-words
returns-in_err-words c = rw c.from_residual.ensures (λ name digest first. no_line c.args.text.now (c.in_err-words.ensures {u = tt}) (step_line name digest) first)

pub returns-in-None : goal.returns-in-None
returns-in-None c = λ name digest first.
    let split = c.in_ok-words.ensures in
    let parts = first_words c.in_ok-words.words.now c.in_ok-words.behind.now c.args.text.now (step_line name digest) split.0 split.1 first in
    c.in-None.ensures name digest first.0.0 first.0.1 parts.0
