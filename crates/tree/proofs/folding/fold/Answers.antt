use Rattle.std.proofs.Common.{◌≡◌, [], ap, sym, subst, ◌∙◌, map}
use Rattle.std.proofs.lemmas.Map.Iter.{iter_end}
use Rattle.std.specs.Map.Iter.{deref_pair}
use Rattle.tree.specs.FlatTree.{flat_value, IsListOf}
use Rattle.tree.specs.Folded.{unseen}
use Rattle.tree.specs.Visiting.{line_entries}
use Rattle.tree.proofs.folding.fold.Goals as goal

pub visit_entries-requires : goal.visit_entries-requires
visit_entries-requires g c =
    let all : map deref_pair c.loop-names.yielded ≡ c.tree.inside.entries.entries = (iter_end deref_pair c.tree.inside.entries.entries c.loop-names.yielded _ _ _ _ (c.into_iter-names-iterator.ensures.into_iter_gives ∙ c.iter-names-items.ensures.rest) c.loop-names.yielded_by c.in-None.is c.next.ensures.steps).0 in
    let lines = ap line_entries c.deref-2.ensures.value ∙ c.loop-names.invariant ∙ ap flat_value all in
    (c.tree.invariant.tree, subst (λ es. IsListOf es c.tree.invariant.tree) (sym lines) c.tree.invariant.list)

pub returns : goal.returns
returns g c =
    let all : map deref_pair c.loop-names.yielded ≡ c.tree.inside.entries.entries = (iter_end deref_pair c.tree.inside.entries.entries c.loop-names.yielded _ _ _ _ (c.into_iter-names-iterator.ensures.into_iter_gives ∙ c.iter-names-items.ensures.rest) c.loop-names.yielded_by c.in-None.is c.next.ensures.steps).0 in
    let lines = ap line_entries c.deref-2.ensures.value ∙ c.loop-names.invariant ∙ ap flat_value all in
    let t = c.tree.invariant.tree in
    let visit = c.in_ok-visited.ensures {u = tt} t (subst (λ es. IsListOf es t) (sym lines) c.tree.invariant.list) in
    record {
      tree = t;
      list = subst (λ es. IsListOf es t) c.tree.view_is c.tree.invariant.list;
      fold = record {
        root = visit.root;
        directories = c.in_ok-each_once.ensures {u = tt} ∙ ap (unseen []) visit.encodings;
      };
    }
