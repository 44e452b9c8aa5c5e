use Rattle.std.proofs.Common.{◌≡◌, ℕ, ◌+◌, ◌∷◌, [], ◌++◌, Bool, true, false, cond, List, take, ap, sym, subst, ◌∙◌, bytes_eq}
use Rattle.std.specs.Ordering.{nat_cmp, is_eq}
use Rattle.std.specs.Cmp.Lexicographic.{slice_cmp}
use Rattle.std.specs.BTreeSet.{contains}
use Rattle.std.proofs.lemmas.List.{take_more}
use Rattle.blob_digest.specs.Digest.{DigestValue, empty_digest}
use Rattle.blob_store.specs.Blobs.{is_empty, hashes_of}
use Rattle.blob_store.proofs.BlobLemmas.{empty_test}
use Rattle.eviction.specs.Pinning.{is_among}
use Rattle.action_cache.specs.Survey.{AreOnce}
use Rattle.action_cache.proofs.Once.{none_once, once_empty, step_again, step_more, not_false, not_true}
use Rattle.action_cache.proofs.survey.each_once.Goals as goal

pub loop-digest-init : goal.loop-digest-init
loop-digest-init g c =
    subst (λ (l : List DigestValue). AreOnce [] l × ((h : List ℕ) → contains (slice_cmp nat_cmp) c.new-seen.result h ≡ is_among bytes_eq (hashes_of l) h) × (c.empty-empty.result ≡ empty_digest)) (sym c.new-once.ensures.items)
    (none_once, λ h. ap (λ ks. contains (slice_cmp nat_cmp) (record { keys = ks }) h) c.new-seen.ensures.empty, c.empty-empty.ensures)

pub loop-digest-preserved-then-eq : goal.loop-digest-preserved-then-eq
loop-digest-preserved-then-eq g c =
    let ds = c.args.digests.now in
    let i = c.loop-digest.digest-index in
    let d = c.digest-item.result in
    let inv = c.loop-digest.invariant in
    let more : take (i + 1) ds ≡ take i ds ++ d ∷ [] = take_more ds i d c.loop-digest-test.true ∙ ap (λ y. take i ds ++ y ∷ []) (sym c.digest-item.is) in
    let empty : is_empty d ≡ true = sym (empty_test d c.empty-empty.result inv.2) ∙ sym c.eq.ensures ∙ c.if-eq.true in
    (subst (λ l. AreOnce l c.loop-digest.once.items) (sym more) (once_empty (take i ds) c.loop-digest.once.items d inv.0 empty), inv.1, inv.2)

pub loop-digest-preserved-then-not-branch : goal.loop-digest-preserved-then-not-branch
loop-digest-preserved-then-not-branch g c =
    let ds = c.args.digests.now in
    let i = c.loop-digest.digest-index in
    let d = c.digest-item.result in
    let inv = c.loop-digest.invariant in
    let more : take (i + 1) ds ≡ take i ds ++ d ∷ [] = take_more ds i d c.loop-digest-test.true ∙ ap (λ y. take i ds ++ y ∷ []) (sym c.digest-item.is) in
    let some : is_empty d ≡ false = sym (empty_test d c.empty-empty.result inv.2) ∙ sym c.eq.ensures ∙ c.if-eq.false in
    let old : List ℕ → Bool = contains (slice_cmp nat_cmp) c.loop-digest.seen in
    let new : List ℕ → Bool = contains (slice_cmp nat_cmp) c.insert.new.self in
    let put : (h : List ℕ) → new h ≡ cond (is_eq (slice_cmp nat_cmp d.hash h)) true (old h) = subst (λ k. (h : List ℕ) → new h ≡ cond (is_eq (slice_cmp nat_cmp k h)) true (old h)) c.hash.ensures.value c.in_ok-insert.ensures.updates.0 in
    let came : old d.hash ≡ true = ap old (sym c.hash.ensures.value) ∙ not_false (old c.hash.result) (sym c.in_ok-insert.ensures.added ∙ c.if-not-branch.true) in
    let s = step_again (take i ds) c.loop-digest.once.items d old new inv.0 inv.1 put some came in
    (subst (λ l. AreOnce l c.loop-digest.once.items) (sym more) s.0, s.1, inv.2)

pub loop-digest-preserved : goal.loop-digest-preserved
loop-digest-preserved g c =
    let ds = c.args.digests.now in
    let i = c.loop-digest.digest-index in
    let d = c.digest-item.result in
    let inv = c.loop-digest.invariant in
    let more : take (i + 1) ds ≡ take i ds ++ d ∷ [] = take_more ds i d c.loop-digest-test.true ∙ ap (λ y. take i ds ++ y ∷ []) (sym c.digest-item.is) in
    let some : is_empty d ≡ false = sym (empty_test d c.empty-empty.result inv.2) ∙ sym c.eq.ensures ∙ c.if-eq.false in
    let old : List ℕ → Bool = contains (slice_cmp nat_cmp) c.loop-digest.seen in
    let new : List ℕ → Bool = contains (slice_cmp nat_cmp) c.insert.new.self in
    let put : (h : List ℕ) → new h ≡ cond (is_eq (slice_cmp nat_cmp d.hash h)) true (old h) = subst (λ k. (h : List ℕ) → new h ≡ cond (is_eq (slice_cmp nat_cmp k h)) true (old h)) c.hash.ensures.value c.in_ok-insert.ensures.updates.0 in
    let came : old d.hash ≡ false = ap old (sym c.hash.ensures.value) ∙ not_true (old c.hash.result) (sym c.in_ok-insert.ensures.added ∙ c.if-not-branch.false) in
    let s = step_more (take i ds) c.loop-digest.once.items d old new inv.0 inv.1 put some came in
    rw c.in_ok-push.ensures.items (subst (λ l. AreOnce l (c.loop-digest.once.items ++ d ∷ [])) (sym more) s.0, s.1, inv.2)
