use Rattle.std.proofs.Common.{ℕ, List, refl, ap, subst, sym, ◌∙◌}
use Rattle.eviction.specs.Kept.{Kept}
use Rattle.blob_store.specs.Blobs.{HasHash, held_under, found_in}
use Rattle.blob_store.proofs.BlobLemmas.{held_has_hash, used_blobs, used_overhead, held_used}
use Rattle.blob_store.proofs.store.BlobStore.get.Goals as goal

pub invariant_of-self : goal.invariant_of-self
invariant_of-self g c =
    let s = c.self.inside.blobs in
    let h = c.args.hash.now in
    rw c.use_blob.ensures (used_blobs s h c.self.invariant.0, used_overhead s h ∙ c.self.invariant.1, c.self.invariant.2)

pub returns-in_err-bytes : goal.returns-in_err-bytes
returns-in_err-bytes g c =
    let s = c.self.inside.blobs in
    let h = c.args.hash.now in
    let v = (rw c.in_err-bytes.was at c.held_under.ensures) ∙ ap (λ (t : Kept (List ℕ)). held_under (found_in t.entries) h) c.use_blob.ensures ∙ held_used s h h in
    let k = subst (λ o. HasHash o h) (sym v) (held_has_hash s.entries h c.self.invariant.0) in
    rw (← c.self.view_is, c.from_residual.ensures) ((refl, λ _. tt, c.use_blob.ensures), record { moves = tt; value = v; hash = k })

pub returns : goal.returns
returns g c =
    let s = c.self.inside.blobs in
    let h = c.args.hash.now in
    let v = (rw c.in_ok-bytes.was at c.held_under.ensures) ∙ ap (λ (t : Kept (List ℕ)). held_under (found_in t.entries) h) c.use_blob.ensures ∙ held_used s h h in
    let k = subst (λ o. HasHash o h) (sym v) (held_has_hash s.entries h c.self.invariant.0) in
    rw (← c.self.view_is) ((refl, λ _. tt, c.use_blob.ensures), record { moves = tt; value = v; hash = k })
