use Rattle.std.proofs.Common.{◌≡◌, List, ◌∷◌, Ok, sym, ap, ◌∙◌}
use Rattle.blob_digest.specs.DigestValue.{DigestValue}
use Rattle.messages.specs.DirectoryRules.{DirectoryValue}
use Rattle.messages.specs.Tree.{TreeValue, named_by, named_in, child_digests, children_checked}
use Rattle.messages.proofs.Trees.{children_there}
use Rattle.messages.proofs.tree.checked_tree.Goals as goal

pub invariant_of-result : goal.invariant_of-result
invariant_of-result g c =
    let t : TreeValue = record { root = c.args.root; children = c.args.children.items } in
    let named : c.deref-2.result.now ≡ named_in t = c.deref-2.ensures.value ∙ c.in_ok-named.ensures.named ∙ ap (λ (l : List DirectoryValue). named_by (c.args.root ∷ l)) c.deref.ensures.value in
    let held : c.deref-3.result.now ≡ child_digests t = c.deref-3.ensures.value ∙ c.requires in
    let exact : children_checked (named_in t) (child_digests t) ≡ Ok tt = ap (λ (l : List DigestValue). children_checked l (child_digests t)) (sym named) ∙ ap (children_checked c.deref-2.result.now) (sym held) ∙ c.in_ok-check_children.ensures in
    let there = children_there (named_in t) (child_digests t) exact in
    (record { root = c.in_ok-named.ensures.root; children = rw c.deref.ensures.value at c.in_ok-named.ensures.children; held = there.0; named = there.1 }, c.requires)

pub returns-clause-valid : goal.returns-clause-valid
returns-clause-valid g c =
    let t : TreeValue = record { root = c.args.root; children = c.args.children.items } in
    let named : c.deref-2.result.now ≡ named_in t = c.deref-2.ensures.value ∙ c.in_ok-named.ensures.named ∙ ap (λ (l : List DirectoryValue). named_by (c.args.root ∷ l)) c.deref.ensures.value in
    let held : c.deref-3.result.now ≡ child_digests t = c.deref-3.ensures.value ∙ c.requires in
    let exact : children_checked (named_in t) (child_digests t) ≡ Ok tt = ap (λ (l : List DigestValue). children_checked l (child_digests t)) (sym named) ∙ ap (children_checked c.deref-2.result.now) (sym held) ∙ c.in_ok-check_children.ensures in
    let there = children_there (named_in t) (child_digests t) exact in
    record { root = c.in_ok-named.ensures.root; children = rw c.deref.ensures.value at c.in_ok-named.ensures.children; held = there.0; named = there.1 }
