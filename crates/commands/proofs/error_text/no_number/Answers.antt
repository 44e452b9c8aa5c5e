use Rattle.std.proofs.Common.{◌∙◌, ◌++◌, IfOk, codes, subst, string_bytes}
use Rattle.commands.specs.ErrorText.{IsOfOption}
use Rattle.commands.proofs.error_text.no_number.Goals as goal

pub returns : goal.returns
returns c = subst (λ expected. IfOk c.not_expected.result (λ text. IsOfOption c.args.option.now (codes "expected " ++ expected) c.args.given.now (string_bytes text)))
    (c.as_str.ensures.value ∙ c.in_ok-expected.ensures.ok) c.not_expected.ensures
