use Rattle.std.proofs.Common.{◌≡◌, List, ℕ, true, bytes_eq, refl, ap, sym, subst, ◌∙◌}
use Rattle.eviction.specs.Kept.{Kept}
use Rattle.eviction.specs.Pinning.{one_less, all_pinned}
use Rattle.blob_store.specs.declared.error.BlobError.TheVariants.{Memory, NotPinned}
use Rattle.blob_store.specs.Blobs.{hashes_of}
use Rattle.blob_store.proofs.BlobLemmas.{repinned_blobs, each_pinned, wanting_not}
use Rattle.blob_store.proofs.store.BlobStore.unpin.Goals as goal

pub returns-then-not-pins_all-clause-not_pinned : goal.returns-then-not-pins_all-clause-not_pinned
returns-then-not-pins_all-clause-not_pinned g c =
    (λ _. sym (each_pinned c.args.self.now.entries c.args.digests.now) ∙ sym c.pins_all.ensures ∙ c.if-not-pins_all.true, λ _. refl)

pub returns-in_err-hashes-clause-not_pinned : goal.returns-in_err-hashes-clause-not_pinned
returns-in_err-hashes-clause-not_pinned g c =
    let all : all_pinned bytes_eq c.args.self.now.entries (hashes_of c.args.digests.now) ≡ true = sym (each_pinned c.args.self.now.entries c.args.digests.now) ∙ sym c.pins_all.ensures ∙ c.if-not-pins_all.false in
    (λ h. absurd (wanting_not c.from_residual.result NotPinned c.from_residual.ensures.1 (λ (q : NotPinned ≡ Memory). absurd cc) h), λ f. absurd cc)

pub returns-in_err-unpin-clause-not_pinned : goal.returns-in_err-unpin-clause-not_pinned
returns-in_err-unpin-clause-not_pinned g c =
    let keys : c.deref.result.now ≡ hashes_of c.args.digests.now = c.deref.ensures.value ∙ c.in_ok-hashes.ensures.ok in
    let es = c.self.inside.blobs.entries in
    let all : all_pinned bytes_eq c.args.self.now.entries (hashes_of c.args.digests.now) ≡ true = sym (each_pinned c.args.self.now.entries c.args.digests.now) ∙ sym c.pins_all.ensures ∙ c.if-not-pins_all.false in
    let stored : all_pinned bytes_eq es c.deref.result.now ≡ true = ap (all_pinned bytes_eq es) keys ∙ subst (λ (w : Kept (List ℕ)). all_pinned bytes_eq w.entries (hashes_of c.args.digests.now) ≡ true) (sym c.self.view_is) all in
    let refused = c.in_err-unpin.ensures.not_pinned in
    absurd cc

pub returns-clause-not_pinned : goal.returns-clause-not_pinned
returns-clause-not_pinned g c =
    let all : all_pinned bytes_eq c.args.self.now.entries (hashes_of c.args.digests.now) ≡ true = sym (each_pinned c.args.self.now.entries c.args.digests.now) ∙ sym c.pins_all.ensures ∙ c.if-not-pins_all.false in
    (λ h. absurd cc, λ f. absurd cc)

pub invariant_of-self-2 : goal.invariant_of-self-2
invariant_of-self-2 g c = rw c.in_ok-unpin.ensures.ok (repinned_blobs (one_less bytes_eq c.deref.result.now) c.self.inside.blobs.entries c.self.invariant.0, c.self.invariant.1, c.self.invariant.2)
