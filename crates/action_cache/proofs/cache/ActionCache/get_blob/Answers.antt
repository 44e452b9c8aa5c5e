use Rattle.std.proofs.Common.{ℕ, List, refl, ap, ◌∙◌}
use Rattle.eviction.specs.Kept.{Kept}
use Rattle.blob_store.specs.Blobs.{held_under, found_in}
use Rattle.blob_store.proofs.BlobLemmas.{used_overhead, held_used}
use Rattle.action_cache.specs.Reading.{by_messages}
use Rattle.action_cache.specs.State.{state_of}
use Rattle.action_cache.proofs.Fetching.{used_tied, used_got, given_is}
use Rattle.action_cache.proofs.cache.ActionCache.get_blob.Goals as goal

pub invariant_of-self : goal.invariant_of-self
invariant_of-self g c =
    let i = c.self.inside in
    let h = c.args.hash.now in
    rw c.use_blob.ensures (used_tied by_messages i.blobs i.results.limit i.results.entries h c.self.invariant.0, used_overhead i.blobs h ∙ c.self.invariant.1, c.self.invariant.2)

pub returns-in_err-bytes : goal.returns-in_err-bytes
returns-in_err-bytes g c =
    let i = c.self.inside in
    let h = c.args.hash.now in
    let s = ap (λ (t : Kept (List ℕ)). state_of t.limit i.results.limit t.entries i.results.entries) c.use_blob.ensures ∙ used_got by_messages i.blobs i.results.limit i.results.entries h in
    let v = (rw c.in_err-bytes.was at c.peek.ensures.value) ∙ ap (λ (t : Kept (List ℕ)). held_under (found_in t.entries) h) c.use_blob.ensures ∙ held_used i.blobs h h ∙ given_is by_messages i.blobs i.results.limit i.results.entries h in
    let k = rw c.in_err-bytes.was at c.peek.ensures.hash in
    rw (← c.self.view_is, c.from_residual.ensures) ((refl, λ _. tt, s), record { moves = tt; value = v; hash = k })

pub returns : goal.returns
returns g c =
    let i = c.self.inside in
    let h = c.args.hash.now in
    let s = ap (λ (t : Kept (List ℕ)). state_of t.limit i.results.limit t.entries i.results.entries) c.use_blob.ensures ∙ used_got by_messages i.blobs i.results.limit i.results.entries h in
    let v = (rw c.in_ok-bytes.was at c.peek.ensures.value) ∙ ap (λ (t : Kept (List ℕ)). held_under (found_in t.entries) h) c.use_blob.ensures ∙ held_used i.blobs h h ∙ given_is by_messages i.blobs i.results.limit i.results.entries h in
    let k = rw c.in_ok-bytes.was at c.peek.ensures.hash in
    rw (← c.self.view_is) ((refl, λ _. tt, s), record { moves = tt; value = v; hash = k })
