use Rattle.std.proofs.Common.{rules, subst}
use Rattle.std.specs.Prelude.{IsPermutation}
use Rattle.std.specs.Ordering.{is_lt}
use Rattle.worker.specs.Values.{contents_of}
use Rattle.std.specs.Cmp.Lexicographic.{nat_list_cmp_total}
use Rattle.std.proofs.lemmas.List.Sorted.{ranks_by, answers_always}
use Rattle.messages.specs.Path.{path_text, text_cmp}
use Rattle.worker.proofs.Sorting.{sorted_contents, permuted_contents}
use Rattle.worker.proofs.laying_out.sort.Goals as goal

pub returns-clause-files : goal.returns-clause-files
returns-clause-files g c =
    subst (λ l. IsPermutation l.files (contents_of c.sort_unstable_by-2.new.self.items)) c.layout.view_is
    (permuted_contents c.layout.inside.files.items c.sort_unstable_by-2.new.self.items c.sort_unstable_by-2.ensures.permutation)

pub returns-clause-folders_sorted : goal.returns-clause-folders_sorted
returns-clause-folders_sorted g c = c.sort_unstable_by.ensures.sorted (λ x y. is_lt (text_cmp x y)) (ranks_by nat_list_cmp_total (λ x. path_text x)) (answers_always _ _ _ (λ f a r f' q. search rules))

pub returns-clause-files_sorted : goal.returns-clause-files_sorted
returns-clause-files_sorted g c =
    sorted_contents c.sort_unstable_by-2.new.self.items
    (c.sort_unstable_by-2.ensures.sorted (λ x y. is_lt (text_cmp x.0 y.0)) (ranks_by nat_list_cmp_total (λ x. path_text x.0)) (answers_always _ _ _ (λ f a r f' q. search rules)))
