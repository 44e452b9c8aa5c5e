use Rattle.std.proofs.Common.{ap₂, ◌∙◌}
use Rattle.std.proofs.lemmas.Result.{IfOk-weaker}
use Rattle.clap.specs.Words.{with_rule}
use Rattle.command_lines.proofs.words.client.Goals as goal

pub returns : goal.returns
returns c =
    let with_1 = c.in_ok-arg.ensures.shape c.required.ensures.local ∙ ap₂ with_rule c.new.ensures.app c.required.ensures.rule in
    let with_2 = c.in_ok-arg-2.ensures.shape c.optional.ensures.local ∙ ap₂ with_rule with_1 c.optional.ensures.rule in
    IfOk-weaker c.arg-3.result _ _ (λ r h. h.shape c.optional-2.ensures.local ∙ ap₂ with_rule with_2 c.optional-2.ensures.rule) c.arg-3.ensures
