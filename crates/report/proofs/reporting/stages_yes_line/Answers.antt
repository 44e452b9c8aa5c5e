use Rattle.std.proofs.Common.{[], ◌∷◌, arith, rules}
use Rattle.std.specs.Prelude.{codes, decimal, string_bytes}
use Rattle.blob_digest.specs.Text.{digest_text}
use Rattle.report.proofs.Unbroken.{stages_written, stages_yes_line, where_ok}
use Rattle.report.proofs.reporting.stages_yes_line.Goals as goal

pub returns-clause-one : goal.returns-clause-one
returns-clause-one g c =
    let small = c.ranges.stages.fits in
    let wide = c.ranges.steps.fits in
    where_ok c.format.result (stages_yes_line c.args.root.now c.args.stages c.args.steps c.hash.ensures.valid (omega (arith, small)) (omega (arith, wide)))

pub returns-clause-value : goal.returns-clause-value
returns-clause-value g c = stages_written c.format.result (λ text. string_bytes text) (codes "yes ") (digest_text c.args.root.now) (codes " stages ") (decimal c.args.stages) (codes " steps ") (decimal c.args.steps) (10 ∷ []) (search rules)
