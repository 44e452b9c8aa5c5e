use Rattle.std.proofs.Common.{[], ◌∷◌, arith, rules}
use Rattle.std.specs.Prelude.{codes, decimal, string_bytes}
use Rattle.report.specs.Line.{cause_text, place_text}
use Rattle.report.proofs.Unbroken.{stage_no_line, stage_written, where_ok}
use Rattle.report.proofs.reporting.stage_no_line.Goals as goal

pub returns-clause-one : goal.returns-clause-one
returns-clause-one g c =
    let small = c.ranges.stage.fits in
    where_ok c.format.result (stage_no_line c.args.stage c.args.place.now c.args.cause.now (omega (arith, small)) c.in_ok-place.ensures.unbroken c.in_ok-cause.ensures.unbroken)

pub returns-clause-value : goal.returns-clause-value
returns-clause-value g c = stage_written c.format.result (λ text. string_bytes text) (codes "no stage ") (decimal c.args.stage) (place_text c.args.place.now) (codes " cause ") (cause_text c.args.cause.now) (10 ∷ []) (search rules)
