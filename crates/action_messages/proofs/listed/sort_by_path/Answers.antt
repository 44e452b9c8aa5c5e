use Rattle.std.proofs.Common.{rules}
use Rattle.std.specs.Ordering.{is_lt}
use Rattle.std.specs.Cmp.Lexicographic.{nat_list_cmp_total}
use Rattle.std.proofs.lemmas.List.Sorted.{ranks_by, answers_always}
use Rattle.messages.specs.Path.{path_text, text_cmp}
use Rattle.action_messages.proofs.listed.sort_by_path.Goals as goal

pub returns-clause-sorted : goal.returns-clause-sorted
returns-clause-sorted g c = c.sort_unstable_by.ensures.sorted (λ x y. is_lt (text_cmp (g.L.Listed.path_in x) (g.L.Listed.path_in y))) (ranks_by nat_list_cmp_total (λ x. path_text (g.L.Listed.path_in x))) (answers_always _ _ _ (λ f a r f' q. search rules))
