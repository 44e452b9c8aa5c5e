use Rattle.std.proofs.Common.{rules, tests, ◌==◌}
use Rattle.std.proofs.lemmas.Iterator.Splits.{YieldsList-from_slice_split}
use Rattle.std.proofs.lemmas.Iterator.Consumers.{nth_from_yields_List}
use Rattle.commands.proofs.hint.word_at.Goals as goal

pub returns : goal.returns
returns c = nth_from_yields_List _ _ c.args.before c.nth.ensures.ran (YieldsList-from_slice_split _ (λ b. b == 32) c.args.line.now c.split.ensures.rest c.split.ensures.done (cc) (λ x b q k. search (rules, tests)))
