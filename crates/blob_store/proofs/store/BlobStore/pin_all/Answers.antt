use Rattle.std.proofs.Common.{◌≡◌, ◌+◌, ◌<◌, ◌^◌, ℕ, List, true, subst, sym, ap, ◌∙◌, bytes_eq}
use Rattle.eviction.specs.Kept.{Kept}
use Rattle.eviction.specs.Pinning.{one_more, is_among, pins_of, all_stored}
use Rattle.blob_store.specs.Blobs.{hashes_of, found_in, all_held}
use Rattle.blob_store.proofs.BlobLemmas.{repinned_blobs, held_stored}
use Rattle.blob_store.proofs.store.BlobStore.pin_all.Goals as goal

pub pin_all-requires-clause-counts : goal.pin_all-requires-clause-counts
pin_all-requires-clause-counts g c = λ k a.
    let keys : c.deref.result.now ≡ hashes_of c.args.digests.now = c.deref.ensures.value ∙ c.in_ok-hashes.ensures.ok in
    subst (λ (w : Kept (List ℕ)). pins_of bytes_eq w.entries k + 1 < 2 ^ 64) (sym c.self.view_is) (c.requires.counts k (subst (λ l. is_among bytes_eq l k ≡ true) keys a))

pub returns-in_err-pin_all-clause-not_held : goal.returns-in_err-pin_all-clause-not_held
returns-in_err-pin_all-clause-not_held g c =
    let keys : c.deref.result.now ≡ hashes_of c.args.digests.now = c.deref.ensures.value ∙ c.in_ok-hashes.ensures.ok in
    let es = c.self.inside.blobs.entries in
    let all : all_held (found_in es) c.args.digests.now ≡ true = subst (λ (w : Kept (List ℕ)). all_held (found_in w.entries) c.args.digests.now ≡ true) (sym c.self.view_is) (sym c.contains_all.ensures ∙ c.if-not-contains_all.false) in
    let stored = ap (λ ks. all_stored bytes_eq es ks) keys ∙ held_stored es c.args.digests.now all in
    let refused = c.in_err-pin_all.ensures.not_held in
    absurd cc

pub invariant_of-self-2 : goal.invariant_of-self-2
invariant_of-self-2 g c = rw c.in_ok-pin_all.ensures.ok (repinned_blobs (one_more bytes_eq c.deref.result.now) c.self.inside.blobs.entries c.self.invariant.0, c.self.invariant.1, c.self.invariant.2)
