use Rattle.std.proofs.Common.{sym, ◌∙◌, subst}
use Rattle.std.specs.Str.Parse.{ParsesUnsigned}
use Rattle.http_core.proofs.Lengths.{length_parts, length_utf8, read_is, never_err}
use Rattle.http_core.proofs.rules.length_in.Goals as goal

pub returns-in_default : goal.returns-in_default
returns-in_default c = absurd (c.in_default.ensures.cases.0 (length_utf8 c.args.text.now (length_parts c.args.text.now (sym c.is_length.ensures ∙ c.if-not-is_length.false))))

pub returns-in-Ok-parse : goal.returns-in-Ok-parse
returns-in-Ok-parse c =
    read_is c.args.text.now c.parse.result c.in-Ok-parse.length (sym c.is_length.ensures ∙ c.if-not-is_length.false) (subst (λ z. ParsesUnsigned 64 10 z c.parse.result) c.in-Ok.ensures.cases.0 c.parse.ensures.value.0) c.in-Ok-parse.is

pub returns-in-Err : goal.returns-in-Err
returns-in-Err c =
    absurd (never_err c.args.text.now c.parse.result c.in-Err.field-0 (sym c.is_length.ensures ∙ c.if-not-is_length.false) (subst (λ z. ParsesUnsigned 64 10 z c.parse.result) c.in-Ok.ensures.cases.0 c.parse.ensures.value.0) c.in-Err.is)
