use Rattle.std.proofs.Common.{rules, tests, ◌==◌}
use Rattle.std.proofs.lemmas.Iterator.Splits.{YieldsList-from_slice_split}
use Rattle.std.proofs.lemmas.Iterator.Consumers.{count_from_yields_List}
use Rattle.commands.proofs.hint.count_words.Goals as goal

pub returns : goal.returns
returns c = count_from_yields_List _ _ c.count.ensures.ran (YieldsList-from_slice_split _ (λ b. b == 32) c.args.line.now c.split.ensures.rest c.split.ensures.done (cc) (λ x b q k. search (rules, tests)))
