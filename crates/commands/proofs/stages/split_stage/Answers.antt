use Rattle.std.proofs.Common.{◌≡◌, Option, None, Some, ℕ}
use Rattle.std.specs.Prelude.{decimal}
use Rattle.commands.proofs.Listed.{ends_in_newline, first_line}
use Rattle.commands.proofs.stages.split_stage.Goals as goal

no_stage : (stage : ℕ) → ◌≡◌ {A = Option ℕ} None (Some stage) → ⊥
no_stage stage e = cc e

pub returns-in_err-line-clause-only : goal.returns-in_err-line-clause-only
returns-in_err-line-clause-only c none stage behind valid e = absurd (c.in_err-line.ensures (ends_in_newline (decimal stage) behind c.args.text.now e))

pub returns-in_err-read_stage-clause-only : goal.returns-in_err-read_stage-clause-only
returns-in_err-read_stage-clause-only c none stage behind valid e =
    no_stage stage (c.in_err-read_stage.ensures.only stage valid
    (first_line stage c.in_ok-line.line.now c.in_ok-line.behind.now behind c.args.text.now valid c.in_ok-line.ensures.1 c.in_ok-line.ensures.0 e))
