use Rattle.std.proofs.Common.{◌∙◌, refl}
use Rattle.std.specs.Prelude.{codes, string_bytes}
use Rattle.blob_digest.specs.Text.{digest_text}
use Rattle.report.specs.Compared.{digests_line, step_words}
use Rattle.report.proofs.ComparedLines.{differ_as, one_as, value_as}
use Rattle.report.proofs.comparing.actions_line.Goals as goal

pub returns-clause-value : goal.returns-clause-value
returns-clause-value g c =
    let one = digest_text c.args.one.now in let other = digest_text c.args.other.now in
    let words = step_words c.args.name.now (codes " actions") in
    value_as c.digests_line.result (λ text. string_bytes text) (digests_line c.as_str.result.now c.args.one.now c.args.other.now) (digests_line words c.args.one.now c.args.other.now)
    (differ_as c.as_str.result.now one other words one other (c.as_str.ensures.value ∙ c.in_ok-what.ensures.value) refl refl) c.digests_line.ensures.value

pub returns-clause-one : goal.returns-clause-one
returns-clause-one g c =
    let one = digest_text c.args.one.now in let other = digest_text c.args.other.now in
    let words = step_words c.args.name.now (codes " actions") in
    one_as c.digests_line.result (digests_line c.as_str.result.now c.args.one.now c.args.other.now) (digests_line words c.args.one.now c.args.other.now)
    (differ_as c.as_str.result.now one other words one other (c.as_str.ensures.value ∙ c.in_ok-what.ensures.value) refl refl) c.digests_line.ensures.one
