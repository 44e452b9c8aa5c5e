use Rattle.std.proofs.Common.{ap₂, ◌∙◌}
use Rattle.std.proofs.lemmas.Result.{IfOk-weaker}
use Rattle.clap.specs.Words.{with_rule}
use Rattle.command_lines.proofs.words.verify_command.Goals as goal

pub returns : goal.returns
returns c =
    let with_1 = c.in_ok-arg.ensures.shape c.optional.ensures.local ∙ ap₂ with_rule c.in_ok-placed_command.ensures c.optional.ensures.rule in
    let with_2 = c.in_ok-arg-2.ensures.shape c.optional-2.ensures.local ∙ ap₂ with_rule with_1 c.optional-2.ensures.rule in
    let with_3 = c.in_ok-arg-3.ensures.shape c.optional-3.ensures.local ∙ ap₂ with_rule with_2 c.optional-3.ensures.rule in
    let with_4 = c.in_ok-arg-4.ensures.shape c.optional-4.ensures.local ∙ ap₂ with_rule with_3 c.optional-4.ensures.rule in
    let with_5 = c.in_ok-arg-5.ensures.shape c.optional-5.ensures.local ∙ ap₂ with_rule with_4 c.optional-5.ensures.rule in
    let with_6 = c.in_ok-arg-6.ensures.shape c.optional-6.ensures.local ∙ ap₂ with_rule with_5 c.optional-6.ensures.rule in
    let with_7 = c.in_ok-arg-7.ensures.shape c.flag.ensures.local ∙ ap₂ with_rule with_6 c.flag.ensures.rule in
    IfOk-weaker c.arg-8.result _ _ (λ r h. h.shape c.optional_word.ensures.local ∙ ap₂ with_rule with_7 c.optional_word.ensures.rule) c.arg-8.ensures
