use Rattle.std.proofs.Common.{[], ◌∷◌, rules}
use Rattle.std.specs.Prelude.{codes, string_bytes}
use Rattle.report.specs.Line.{cause_text, place_text}
use Rattle.report.proofs.Unbroken.{no_line, where_ok, written}
use Rattle.report.proofs.reporting.no_line.Goals as goal

pub returns-clause-one : goal.returns-clause-one
returns-clause-one g c =
    where_ok c.format.result (no_line c.args.place.now c.args.cause.now c.in_ok-place.ensures.unbroken c.in_ok-cause.ensures.unbroken)

pub returns-clause-value : goal.returns-clause-value
returns-clause-value g c = written c.format.result (λ text. string_bytes text) (codes "no ") (place_text c.args.place.now) (codes " cause ") (cause_text c.args.cause.now) (10 ∷ []) (search rules)
