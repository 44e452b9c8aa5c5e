-- The shortest missing beginning becomes a directory, and then the longer ones, or the entry itself.
use Rattle.std.proofs.Common.{◌≡◌, ◌+◌, ◌-◌, ◌<◌, arith, length, take, ap, sym, ◌∙◌, inr, subst}
use Rattle.std.specs.BTreeMap.{insert_entry}
use Rattle.std.specs.Map.{remove_entry}
use Rattle.std.specs.Ordering.{is_eq}
use Rattle.tree.specs.Tree.{path_cmp, a_directory}
use Rattle.tree.specs.FlatTree.{standing_in, IsFlatTree, IsAdded, entry_value, flat_value}
use Rattle.tree.proofs.FlatTrees.{at_inserted, planted_at, added_last, added_more, still_free, is_value, flat_after, removed_again}
use Rattle.tree.proofs.flat_tree.+grow.Goals as goal

pub returns-then-depth-names-clause-flat : goal.returns-then-depth-names-clause-flat
returns-then-depth-names-clause-flat g t c =
    let es = flat_value c.args.entries.now.entries in
    let after = flat_after c.args.entries.now.entries c.insert.new.self.entries c.in_ok-key.key c.args.entry (take c.args.depth c.args.names.now) (c.in_ok-key.ensures {u = tt}) (c.in_ok-insert.ensures {u = tt}).entries in
    subst IsFlatTree (sym after)
    (planted_at es c.args.names.now c.args.depth (entry_value c.args.entry) c.requires.flat c.requires.valid c.requires.some c.requires.within (is_value c.args.entry) c.requires.parent
    (c.requires.free c.args.depth (omega arith) c.requires.within))

pub returns-then-depth-names-clause-added : goal.returns-then-depth-names-clause-added
returns-then-depth-names-clause-added g t c =
    let es = flat_value c.args.entries.now.entries in
    let after = flat_after c.args.entries.now.entries c.insert.new.self.entries c.in_ok-key.key c.args.entry (take c.args.depth c.args.names.now) (c.in_ok-key.ensures {u = tt}) (c.in_ok-insert.ensures {u = tt}).entries in
    subst (λ fs. IsAdded c.args.depth c.args.names.now (entry_value c.args.entry) es fs) (sym after)
    (added_last es c.args.names.now c.args.depth (entry_value c.args.entry) (omega (arith, c.if-depth-names.true)))

pub grow-requires : goal.grow-requires
grow-requires g t c κs within =
    let es = flat_value c.args.entries.now.entries in
    let names = c.args.names.now in
    let d = c.args.depth in
    let lt : d < length names = omega (arith, c.if-depth-names.false, c.requires.within) in
    let after = flat_after c.args.entries.now.entries c.insert-2.new.self.entries c.in_ok-key.key _ (take d names) (c.in_ok-key.ensures {u = tt}) (c.in_ok-insert-2.ensures {u = tt}).entries in
    let flat = planted_at es names d a_directory c.requires.flat c.requires.valid c.requires.some c.requires.within (λ e. cc) c.requires.parent (c.requires.free d (omega arith) c.requires.within) in
    let back : d + 1 - 1 ≡ d = omega arith in (
      omega (arith, c.decreases, lt),
      (
        within,
        (
          subst IsFlatTree (sym after) flat,
          (
            omega arith,
            (
              omega (arith, lt),
              (
                c.requires.valid,
                (
                  inr (ap (λ fs. standing_in fs (take (d + 1 - 1) names)) after ∙ ap (λ i. standing_in (insert_entry path_cmp es (take d names) a_directory) (take i names)) back ∙ at_inserted es (take d names) a_directory),
                  λ k more le. ap (λ fs. standing_in fs (take k names)) after ∙ still_free es names d k more le (c.requires.free k (omega arith) le),
                ),
              ),
            ),
          ),
        ),
      ),
    )

pub returns-in-Ok-clause-added : goal.returns-in-Ok-clause-added
returns-in-Ok-clause-added g t c =
    let es = flat_value c.args.entries.now.entries in
    let names = c.args.names.now in
    let d = c.args.depth in
    let lt : d < length names = omega (arith, c.if-depth-names.false, c.requires.within) in
    let after = flat_after c.args.entries.now.entries c.insert-2.new.self.entries c.in_ok-key.key _ (take d names) (c.in_ok-key.ensures {u = tt}) (c.in_ok-insert-2.ensures {u = tt}).entries in
    added_more es (flat_value c.grow.new.entries.entries) names d (entry_value c.args.entry) lt
    (subst (λ fs. IsAdded (d + 1) names (entry_value c.args.entry) fs (flat_value c.grow.new.entries.entries)) after (c.in-Ok.ensures {u = tt}).added)

pub returns-in-Err-clause-err : goal.returns-in-Err-clause-err
returns-in-Err-clause-err g t c =
    let names = c.args.names.now in
    let d = c.args.depth in
    let key = c.in_ok-key.ensures {u = tt} in
    let before = (c.in-Err.ensures {u = tt}).err ∙ (c.in_ok-insert-2.ensures {u = tt}).entries in
    c.remove.ensures.entries ∙ ap (remove_entry (λ j. is_eq (path_cmp (take d names) j.items))) before
    ∙ removed_again c.args.entries.now.entries c.in_ok-key.key _ (take d names) (sym key) (c.requires.free d (omega arith) c.requires.within)
