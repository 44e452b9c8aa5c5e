use Rattle.std.proofs.Common.{◌∙◌}
use Rattle.std.specs.Prelude.{codes, string_bytes}
use Rattle.blob_digest.specs.Text.{digest_text}
use Rattle.plan.specs.Escape.{escaped_path}
use Rattle.report.specs.Compared.{differ_line, step_words}
use Rattle.report.proofs.ComparedLines.{differ_as, none_as, one_as, value_as}
use Rattle.report.proofs.Unbroken.{none_in_digest, none_in_path}
use Rattle.report.proofs.comparing.step_line.Goals as goal

pub differ_line-requires-clause-one : goal.differ_line-requires-clause-one
differ_line-requires-clause-one g c = none_as c.as_str-2.result.now (digest_text c.args.action.now) (c.as_str-2.ensures.value ∙ c.in_ok-action.ensures {u = tt}) (none_in_digest c.args.action.now c.hash.ensures.valid)

pub differ_line-requires-clause-other : goal.differ_line-requires-clause-other
differ_line-requires-clause-other g c = none_as c.as_str-3.result.now (escaped_path c.args.path.now) (c.as_str-3.ensures.value ∙ c.in_ok-path.ensures.value) (none_in_path c.args.path.now)

pub returns-clause-value : goal.returns-clause-value
returns-clause-value g c =
    let words = step_words c.args.name.now (codes " action") in
    let digest = digest_text c.args.action.now in let path = escaped_path c.args.path.now in
    value_as c.differ_line.result (λ text. string_bytes text) (differ_line c.as_str.result.now c.as_str-2.result.now c.as_str-3.result.now) (differ_line words digest path)
    (differ_as c.as_str.result.now c.as_str-2.result.now c.as_str-3.result.now words digest path (c.as_str.ensures.value ∙ c.in_ok-what.ensures.value) (c.as_str-2.ensures.value ∙ c.in_ok-action.ensures {u = tt})
    (c.as_str-3.ensures.value ∙ c.in_ok-path.ensures.value)) c.differ_line.ensures.value

pub returns-clause-one : goal.returns-clause-one
returns-clause-one g c =
    let words = step_words c.args.name.now (codes " action") in
    let digest = digest_text c.args.action.now in let path = escaped_path c.args.path.now in
    one_as c.differ_line.result (differ_line c.as_str.result.now c.as_str-2.result.now c.as_str-3.result.now) (differ_line words digest path)
    (differ_as c.as_str.result.now c.as_str-2.result.now c.as_str-3.result.now words digest path (c.as_str.ensures.value ∙ c.in_ok-what.ensures.value) (c.as_str-2.ensures.value ∙ c.in_ok-action.ensures {u = tt})
    (c.as_str-3.ensures.value ∙ c.in_ok-path.ensures.value)) c.differ_line.ensures.one
