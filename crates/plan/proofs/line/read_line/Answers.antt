use Rattle.std.proofs.Common.{◌≡◌, sym, ◌∙◌}
use Rattle.messages.specs.Path.{IsPath}
use Rattle.plan.specs.Escape.{escaped_path}
use Rattle.plan.proofs.OneLine.{in_space, line_fault}
use Rattle.plan.proofs.Written.{in_parts}
use Rattle.plan.proofs.line.read_line.Goals as goal

pub returns-in_default-split_once : goal.returns-in_default-split_once
returns-in_default-split_once g c = λ target origin is told. c.in_default-split_once.ensures (in_space c.in-Some.rest.now target origin (sym c.in-Some.ensures ∙ told))

pub returns-in_default-2 : goal.returns-in_default-2
returns-in_default-2 g c = λ target origin is told.
    let split = c.in-Some-split_once.ensures in
    let parts = in_parts c.in-Some.rest.now c.in-Some-split_once.target.now c.in-Some-split_once.origin.now target origin is.0 split.1 split.0 (sym c.in-Some.ensures ∙ told) in
    absurd (c.in_default-2.not-Some target (c.in_ok-target.ensures.only target is.0 parts.0))

pub returns-in-Err : goal.returns-in-Err
returns-in-Err g c =
    let split = c.in-Some-split_once.ensures in
    let found : IsPath c.in-Some-2.target × (c.in-Some-split_once.target.now ≡ escaped_path c.in-Some-2.target) = rw c.in-Some-2.is at c.in_ok-target.ensures.found in
    let fault = rw c.in-Err.is at (c.in_ok-origin.ensures {u = tt}) in
    line_fault c.args.steps.now c.args.words.now c.in-Some.rest.now c.in-Some-split_once.target.now c.in-Some-split_once.origin.now c.in-Some-2.target c.in-Err.fault c.in-Some.ensures split.0 split.1 found.0 found.1 fault
