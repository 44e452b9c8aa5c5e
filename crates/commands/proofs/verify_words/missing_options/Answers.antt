use Rattle.std.proofs.Common.{◌∙◌, ◌++◌, ap₂}
use Rattle.std.proofs.lemmas.Result.{IfOk-weaker}
use Rattle.commands.proofs.verify_words.missing_options.Goals as goal

pub returns : goal.returns
returns g c = IfOk-weaker c.format.result _ _ (λ text is. is ∙ ap₂ ◌++◌ c.in_ok-sources.ensures (ap₂ ◌++◌ c.in_ok-plan.ensures (ap₂ ◌++◌ c.in_ok-record.ensures c.in_ok-claim.ensures))) c.format.ensures.ok
