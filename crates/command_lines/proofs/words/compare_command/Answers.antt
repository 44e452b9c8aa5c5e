use Rattle.std.proofs.Common.{ap₂, ◌∙◌}
use Rattle.std.proofs.lemmas.Result.{IfOk-weaker}
use Rattle.clap.specs.Words.{with_rule}
use Rattle.command_lines.proofs.words.compare_command.Goals as goal

pub returns : goal.returns
returns c =
    let with_1 = c.in_ok-arg.ensures.shape c.word.ensures.local ∙ ap₂ with_rule c.new.ensures.app c.word.ensures.rule in
    IfOk-weaker c.arg-2.result _ _ (λ r h. h.shape c.word-2.ensures.local ∙ ap₂ with_rule with_1 c.word-2.ensures.rule) c.arg-2.ensures
