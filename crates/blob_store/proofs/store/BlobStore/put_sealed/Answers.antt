use Rattle.std.proofs.Common.{◌≡◌, List, ℕ, false, None, sym, ap, ◌∙◌, subst, bytes_eq}
use Rattle.std.proofs.lemmas.Slice.Eq.{bytes_eq-Decides}
use Rattle.sha2.specs.Sha256.{sha256}
use Rattle.eviction.specs.Kept.{Kept}
use Rattle.eviction.specs.Entering.{entered}
use Rattle.eviction.specs.Pinning.{is_stored}
use Rattle.eviction.proofs.Entered.{entered_is}
use Rattle.blob_store.specs.Blobs.{held_under, found_in}
use Rattle.blob_store.proofs.BlobLemmas.{touched_blobs, entered_blobs, not_held}
use Rattle.blob_store.proofs.store.BlobStore.put_sealed.Goals as goal

pub invariant_of-self : goal.invariant_of-self
invariant_of-self g c = rw c.touch-held.ensures.moves (touched_blobs c.args.hash c.self.inside.blobs.entries c.self.invariant.0, c.self.invariant.1, c.self.invariant.2)

pub returns-in_err-put-clause-memory : goal.returns-in_err-put-clause-memory
returns-in_err-put-clause-memory g c _ =
    let off = ap (λ n. bytes_eq n c.args.hash) (sym c.self.invariant.2) ∙ sym c.eq.ensures ∙ c.if-eq.false in
    let none : is_stored bytes_eq c.self.inside.blobs.entries c.args.hash ≡ false = sym c.contains.ensures ∙ c.if-contains.false in
    subst (λ (t : Kept (List ℕ)). held_under (found_in t.entries) c.args.hash ≡ None) c.self.view_is (not_held c.self.inside.blobs.entries c.args.hash off none)

pub invariant_of-self-2 : goal.invariant_of-self-2
invariant_of-self-2 g c =
    let s = c.self.inside.blobs in
    let b = c.args.sealed in
    let off = ap (λ n. bytes_eq n c.args.hash) (sym c.self.invariant.2) ∙ sym c.eq.ensures ∙ c.if-eq.false in
    let hash : c.args.hash ≡ sha256 b = sym ((bytes_eq-Decides (sha256 b) c.args.hash).0 (sym c.has_hash.ensures ∙ c.if-not-has_hash.false)) in
    let put = ap (λ l. entered bytes_eq s c.args.hash l) (sym c.into_bytes.ensures) ∙ c.in_ok-put.ensures.ok in
    (entered_blobs s c.put.new.self c.args.hash b put hash off c.self.invariant.0, (entered_is bytes_eq s c.put.new.self c.args.hash b put).overhead ∙ c.self.invariant.1, c.self.invariant.2)
