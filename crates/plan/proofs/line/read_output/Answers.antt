use Rattle.std.proofs.Common.{◌≡◌, ◌++◌, ◌∷◌, List, ℕ, ap, sym, ◌∙◌, codes}
use Rattle.messages.specs.Path.{IsPath}
use Rattle.plan.specs.Escape.{escaped_path}
use Rattle.plan.specs.Lines.{from_step}
use Rattle.plan.proofs.OneLine.{output_written, output_space}
use Rattle.plan.proofs.line.read_output.Goals as goal

pub returns-in_default : goal.returns-in_default
returns-in_default g c = λ origin is told. c.in_default.ensures (output_space c.args.words.now origin is told)

pub returns-then-not-is_step_name : goal.returns-then-not-is_step_name
returns-then-not-is_step_name g c = λ origin is told.
    let split = c.in-Some.ensures in
    let parts = output_written c.args.words.now c.in-Some.name.now c.in-Some.path.now origin split.0 split.1 is told in
    cc (sym c.if-not-is_step_name.true ∙ c.is_step_name.ensures.1 parts.0)

pub returns-in_default-2 : goal.returns-in_default-2
returns-in_default-2 g c = λ origin is told.
    let split = c.in-Some.ensures in
    let parts = output_written c.args.words.now c.in-Some.name.now c.in-Some.path.now origin split.0 split.1 is told in
    let found = c.in_ok-path.ensures.only parts.1.0 parts.1.1 parts.1.2 in
    absurd (c.in_default-2.not-Some parts.1.0 found)

pub returns-in-None : goal.returns-in-None
returns-in-None g c =
    let split = c.in-Some.ensures in
    let named = c.is_step_name.ensures.0 c.if-not-is_step_name.false in
    let found : IsPath c.in-Some-2.path × (c.in-Some.path.now ≡ escaped_path c.in-Some-2.path) = rw c.in-Some-2.is at c.in_ok-path.ensures.found in
    let whole = ap (λ (l : List ℕ). codes "out " ++ l) (split.0 ∙ ap (λ (l : List ℕ). c.in-Some.name.now ++ 32 ∷ l) found.1) in
    (from_step c.in-Some.name.now c.in-Some-2.path, (named, found.0), whole, c.in-None.ensures {u = tt})
