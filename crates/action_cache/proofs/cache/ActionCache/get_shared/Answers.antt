use Rattle.std.proofs.Common.{ℕ, List, ap, sym, ◌∙◌}
use Rattle.eviction.specs.Kept.{Kept}
use Rattle.blob_store.proofs.BlobLemmas.{used_overhead}
use Rattle.action_cache.specs.Machine.{CacheState, get_blob as blob_got}
use Rattle.action_cache.specs.Reading.{by_messages}
use Rattle.action_cache.specs.State.{answer_of, state_of}
use Rattle.action_cache.proofs.Fetching.{used_tied, got_is}
use Rattle.action_cache.proofs.cache.ActionCache.get_shared.Goals as goal

pub invariant_of-self-2 : goal.invariant_of-self-2
invariant_of-self-2 g c =
    let i = c.self.inside in
    let h = c.args.hash.now in
    rw c.in_ok-found.ensures.moves (used_tied by_messages i.blobs i.results.limit i.results.entries h c.self.invariant.0, used_overhead i.blobs h ∙ c.self.invariant.1, c.self.invariant.2)

pub returns-clause-ok : goal.returns-clause-ok
returns-clause-ok g c =
    let i = c.self.inside in
    let h = c.args.hash.now in
    let s = ap (λ (t : Kept (List ℕ)). state_of t.limit i.results.limit t.entries i.results.entries) c.in_ok-found.ensures.moves in
    ap (λ (z : CacheState). blob_got by_messages z h) (sym c.self.view_is) ∙ got_is by_messages i.blobs i.results.limit i.results.entries h c.in_ok-found.found c.in_ok-found.ensures.value ∙ ap (λ z. (answer_of c.in_ok-found.found, z)) (sym s)
