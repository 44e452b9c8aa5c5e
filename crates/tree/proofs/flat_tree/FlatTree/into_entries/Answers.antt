-- The entries so far, and those that are left.
use Rattle.std.proofs.Common.{rules, ◌≡◌, List, [], ◌∷◌, ◌++◌, ap, sym, subst, ◌∙◌, append_assoc, append-nil}
use Rattle.std.proofs.lemmas.List.{map-append}
use Rattle.std.specs.List.{AllByRecursion}
use Rattle.std.specs.declared.vec.Vec.{Vec}
use Rattle.messages.specs.Path.{IsPath}
use Rattle.tree.specs.Tree.{Name}
use Rattle.tree.specs.declared.flat_tree.FlatEntry.{FlatEntry}
use Rattle.tree.specs.FlatTree.{FlatValue, entry_value, flat_value, path_values}
use Rattle.tree.proofs.flat_tree.FlatTree.into_entries.Goals as goal

moved : {A : Type 0} (done more : List (List Name × FlatEntry A)) (p : List Name) (e : FlatEntry A) (names : Vec Name A) (left : List (Vec Name A × FlatEntry A)) (whole : FlatValue)
    → more ≡ done ++ (p, e) ∷ [] → p ≡ names.items → path_values done ++ flat_value ((names, e) ∷ left) ≡ whole → path_values more ++ flat_value left ≡ whole
moved done more p e names left whole pushed same all =
    ap (λ xs. path_values xs ++ flat_value left) pushed
    ∙ ap (λ xs. xs ++ flat_value left) (map-append (λ x. (x.0, entry_value x.1)) done ((p, e) ∷ []))
    ∙ append_assoc (path_values done) ((p, entry_value e) ∷ []) (flat_value left)
    ∙ ap (λ q. path_values done ++ (q, entry_value e) ∷ flat_value left) same ∙ all

pub loop-names-init : goal.loop-names-init
loop-names-init g c =
    let same = c.into_iter-names-iterator.ensures.into_iter_gives.0 in
    record {
      next = tt;
      finite = tt;
      paths = subst (λ l. AllByRecursion (λ e. IsPath e.0) (flat_value l)) (sym same) c.self.invariant.paths;
      entries = ap (λ xs. path_values xs ++ flat_value c.into_iter-names-iterator.result) c.new-entries.ensures.items ∙ ap flat_value same ∙ c.self.view_is;
    }

pub path_of-requires : goal.path_of-requires
path_of-requires g c =
    let paths = subst (λ l. AllByRecursion (λ e. IsPath e.0) (flat_value l)) c.in-Some.ensures.steps c.loop-names.invariant.paths in
    subst IsPath (sym c.deref.ensures.value) paths.0

pub loop-names-preserved : goal.loop-names-preserved
loop-names-preserved g c = record {
  next = tt;
  finite = tt;
  paths = (subst (λ l. AllByRecursion (λ e. IsPath e.0) (flat_value l)) c.in-Some.ensures.steps c.loop-names.invariant.paths).1;
  entries = moved c.loop-names.entries.items c.push.new.self.items c.in_ok-path_of.field-0 c.in-Some.entry c.in-Some.names c.next.new.self c.args.self (search rules) (search rules)
      (subst (λ l. path_values c.loop-names.entries.items ++ flat_value l ≡ c.args.self) c.in-Some.ensures.steps c.loop-names.invariant.entries);
}

pub returns-clause-value : goal.returns-clause-value
returns-clause-value g c =
    let none = c.in-None.ensures.steps.0 in
    sym (append-nil (path_values c.loop-names.entries.items)) ∙ ap (λ l. path_values c.loop-names.entries.items ++ flat_value l) (sym none) ∙ c.loop-names.invariant.entries
