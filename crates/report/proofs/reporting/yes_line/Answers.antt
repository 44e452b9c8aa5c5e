use Rattle.std.proofs.Common.{[], ◌∷◌, arith, rules}
use Rattle.std.specs.Prelude.{codes, decimal, string_bytes}
use Rattle.blob_digest.specs.Text.{digest_text}
use Rattle.report.proofs.Unbroken.{where_ok, written, yes_line}
use Rattle.report.proofs.reporting.yes_line.Goals as goal

pub returns-clause-one : goal.returns-clause-one
returns-clause-one g c =
    let small = c.well_formed.1.1.0.1 in
    where_ok c.format.result (yes_line c.args.root.now c.args.steps c.hash.ensures.valid (omega (arith, small)))

pub returns-clause-value : goal.returns-clause-value
returns-clause-value g c = written c.format.result (λ text. string_bytes text) (codes "yes ") (digest_text c.args.root.now) (codes " steps ") (decimal c.args.steps) (10 ∷ []) (search rules)
