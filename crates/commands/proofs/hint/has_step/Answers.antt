use Rattle.std.proofs.Common.{rules, tests, ◌==◌, ◌++◌, codes, drop}
use Rattle.std.proofs.lemmas.Iterator.{cases_from_any}
use Rattle.std.proofs.lemmas.Iterator.Adapters.{YieldsList-from_skip}
use Rattle.std.proofs.lemmas.Iterator.Splits.{YieldsList-from_slice_split}
use Rattle.commands.specs.Hints.{HasFirst, lines_of}
use Rattle.commands.proofs.Hints.{any_of_step}
use Rattle.commands.proofs.hint.has_step.Goals as goal

pub returns : goal.returns
returns c =
    let name = c.args.name.now in
    let text = c.args.text.now in
    any_of_step name c.any.result (drop c.args.before (lines_of text))
    (cases_from_any _ _ _ (HasFirst (codes "step " ++ name)) (λ l. HasFirst (codes "step " ++ name) l → ⊥) c.any.ensures.ran
    (YieldsList-from_skip c.args.before (YieldsList-from_slice_split _ (λ b. b == 10) text (cc) (cc) (cc) (λ x b q k. search (rules, tests))) c.skip.ensures.count)
    (λ x q k. search (rules, tests)) (λ x q k. search (rules, tests)))
