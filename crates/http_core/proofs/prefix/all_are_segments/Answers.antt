use Rattle.std.proofs.Common.{rules, tests, ◌==◌}
use Rattle.std.proofs.lemmas.Iterator.Splits.{YieldsList-from_slice_split}
use Rattle.std.proofs.lemmas.Iterator.Search.{all_from_yields_List}
use Rattle.http_core.specs.Prefix.{is_prefix_segment}
use Rattle.http_core.proofs.prefix.all_are_segments.Goals as goal

pub returns : goal.returns
returns c = all_from_yields_List is_prefix_segment _ _ _ c.all.ensures.ran (YieldsList-from_slice_split _ (λ b. b == 47) c.args.text.now c.split.ensures.rest c.split.ensures.done (cc) (λ x b q k. search (rules, tests))) (λ x b q k. search (rules, tests))
