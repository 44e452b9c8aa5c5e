use Rattle.std.proofs.Common.{◌≡◌, ◌<◌, ◌≤◌, ◌∷◌, length, get_or, take, ap, sym, subst, ◌∙◌, rules}
use Rattle.messages.specs.Directory.{directory_bytes}
use Rattle.blob_digest.specs.Digest.{digest_of}
use Rattle.tree.specs.Merging.{IsFirstIn}
use Rattle.tree.proofs.MergeTrees.{NotAmong, root_first, child_first, none_next, none_there, differ, same_count}
use Rattle.tree.proofs.merging.directory_in.Goals as goal

pub returns-then-eq : goal.returns-then-eq
returns-then-eq g c =
    let same : c.of.result ≡ c.args.digest.now = search rules in
    let t = c.args.tree.now in
    let is = ap (λ m. digest_of (directory_bytes m)) (sym c.root.ensures.value) ∙ ap digest_of (sym (c.in_ok-encode.ensures {u = tt}).bytes ∙ sym c.deref.ensures.value) ∙ sym c.of.ensures ∙ same in
    subst (IsFirstIn (t.root ∷ t.children) c.args.digest.now) (sym c.root-then-eq.ensures.value) (root_first t c.args.digest.now is)

pub returns-then-eq-2 : goal.returns-then-eq-2
returns-then-eq-2 g c =
    let t = c.args.tree.now in
    let i = c.loop-index.index in
    let e = c.other-item.result in
    let m = c.index-children-index.result in
    let same : e ≡ c.args.digest.now = search rules in
    let digests = c.child_digests-other-items.ensures.value in
    let lt = subst (λ ds. i < length ds) digests c.loop-index-test.true in
    let root = ap (λ x. digest_of (directory_bytes x)) (sym c.root.ensures.value) ∙ ap digest_of (sym (c.in_ok-encode.ensures {u = tt}).bytes ∙ sym c.deref.ensures.value) ∙ sym c.of.ensures in
    child_first t c.args.digest.now e i m (λ is. differ c.of.result c.args.digest.now c.if-eq.ensures (sym root ∙ is)) (subst (λ ds. NotAmong c.args.digest.now (take i ds)) digests c.loop-index.invariant)
    (subst (λ n. i < n) (same_count t) lt) (subst (λ ds. e ≡ get_or ds i e) digests c.other-item.is) same (subst (λ ms. m ≡ get_or ms i m) c.children.ensures.value c.index-children-index.is)

pub loop-index-preserved : goal.loop-index-preserved
loop-index-preserved g c =
    none_next c.args.digest.now c.other-item.result c.child_digests-other-items.result.now c.loop-index.index c.loop-index-test.true c.other-item.is (differ c.other-item.result c.args.digest.now c.if-eq-2.ensures) c.loop-index.invariant

pub unreachable-requires : goal.unreachable-requires
unreachable-requires g c =
    let t = c.args.tree.now in
    let digests = c.child_digests-other-items.ensures.value in
    let root = ap (λ x. digest_of (directory_bytes x)) (sym c.root.ensures.value) ∙ ap digest_of (sym (c.in_ok-encode.ensures {u = tt}).bytes ∙ sym c.deref.ensures.value) ∙ sym c.of.ensures in
    none_there t c.args.digest.now c.loop-index.index (λ is. differ c.of.result c.args.digest.now c.if-eq.ensures (sym root ∙ is)) (subst (λ ds. length ds ≤ c.loop-index.index) digests c.loop-index-test.false)
    (subst (λ ds. NotAmong c.args.digest.now (take c.loop-index.index ds)) digests c.loop-index.invariant) c.requires.1
