use Rattle.std.proofs.Common.{rules, tests}
use Rattle.std.proofs.lemmas.Iterator.{YieldsList-from_slice}
use Rattle.std.proofs.lemmas.Iterator.Search.{all_from_yields_List}
use Rattle.http_core.specs.Prefix.{is_unreserved}
use Rattle.http_core.proofs.prefix.are_unreserved.Goals as goal

pub returns : goal.returns
returns c = all_from_yields_List is_unreserved _ _ _ c.all.ensures.ran (YieldsList-from_slice c.args.text.now (cc)) (λ x b q k. search (rules, tests))
