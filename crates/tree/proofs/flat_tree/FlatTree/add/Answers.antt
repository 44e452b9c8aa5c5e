-- The entry is added from the first missing directory on.
use Rattle.std.proofs.Common.{◌≡◌, arith, sym, ◌∙◌, refl, subst}
use Rattle.tree.specs.FlatTree.{IsFlatTree, IsTaken, IsAdded, IsFirstMissing, entry_value, flat_value}
use Rattle.tree.proofs.FlatTrees.{free_below, added_from, has_room}
use Rattle.tree.proofs.flat_tree.FlatTree.add.Goals as goal

pub grow-requires-clause-free : goal.grow-requires-clause-free
grow-requires-clause-free g c =
    let es = flat_value c.self.inside.entries.entries in
    let names = c.deref-in-Some.result.now in
    let same : c.deref.result.now ≡ names = c.deref.ensures.value ∙ sym c.deref-in-Some.ensures.value in
    let first = subst (λ p. IsFirstMissing es p c.in-Some.depth) same (subst (λ e. IsFirstMissing e c.deref.result.now c.in-Some.depth) (sym c.self.view_is) (c.in-Some.ensures {u = tt}).free) in
    let some = first.some in
    let within = first.within in
    λ k le few. free_below es names c.in-Some.depth k c.self.invariant first.some (omega (arith, some, within)) le first.missing

pub returns-in_ok-grow-in-Some-clause-added : goal.returns-in_ok-grow-in-Some-clause-added
returns-in_ok-grow-in-Some-clause-added g c =
    let now = c.args.self.now in
    let new = flat_value c.grow.new.entries.entries in
    let s = entry_value c.args.entry in
    let d = c.in-Some.depth in
    let path = (c.in_ok-names.ensures {u = tt}).value in
    let first = subst (λ p. IsFirstMissing now p d) (c.deref.ensures.value ∙ path) (c.in-Some.ensures {u = tt}).free in
    let grown = subst (λ p. IsAdded d p s (flat_value c.self.inside.entries.entries) new) (c.deref-in-Some.ensures.value ∙ path) (c.in_ok-grow-in-Some.ensures {u = tt}).added in
    added_from now new c.args.path d s first (subst (λ es. IsAdded d c.args.path s es new) c.self.view_is grown)

pub returns-in_ok-grow-in-Some-clause-room : goal.returns-in_ok-grow-in-Some-clause-room
returns-in_ok-grow-in-Some-clause-room g c =
    let path = (c.in_ok-names.ensures {u = tt}).value in
    let first = subst (λ p. IsFirstMissing c.args.self.now p c.in-Some.depth) (c.deref.ensures.value ∙ path) (c.in-Some.ensures {u = tt}).free in
    has_room c.args.self.now c.args.path c.in-Some.depth (subst IsFlatTree c.self.view_is c.self.invariant) first

pub returns-in-None-clause-refused : goal.returns-in-None-clause-refused
returns-in-None-clause-refused g c =
    (refl, subst (IsTaken c.args.self.now) (c.deref.ensures.value ∙ (c.in_ok-names.ensures {u = tt}).value) (c.in-None.ensures {u = tt}).taken)
