use Rattle.std.proofs.Common.{◌∙◌, IfOk, subst, string_bytes}
use Rattle.commands.specs.ErrorText.{IsOfOption}
use Rattle.commands.proofs.error_text.not_expected.Goals as goal

pub returns : goal.returns
returns c = subst (λ said. IfOk c.of_option.result (λ text. IsOfOption c.args.option.now said c.args.given.now (string_bytes text)))
    (c.as_str.ensures.value ∙ c.in_ok-said.ensures.ok) c.of_option.ensures
