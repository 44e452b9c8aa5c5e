use Rattle.plan.specs.Lines.{in_line}
use Rattle.plan.proofs.OneLine.{first_fault}
use Rattle.plan.proofs.Written.{no_line}
use Rattle.plan.proofs.line.first_line.Goals as goal

pub returns-in_default : goal.returns-in_default
returns-in_default g c = λ target origin first. no_line c.args.text.now c.in_default.ensures (in_line target origin) first

pub returns-in-Err : goal.returns-in-Err
returns-in-Err g c =
    let split = c.in-Some.ensures in
    let fault = rw c.in-Err.is at (c.in_ok-line.ensures {u = tt}) in
    first_fault c.args.steps.now c.args.text.now c.in-Some.words.now c.in-Some.behind.now c.in-Err.fault split.0 split.1 fault
