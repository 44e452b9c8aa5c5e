use Rattle.std.proofs.Common.{ℕ, List, length, ap, ◌∙◌}
use Rattle.eviction.specs.Kept.{total}
use Rattle.action_cache.specs.Machine.{CacheState}
use Rattle.action_cache.proofs.Costs.{total-plain}
use Rattle.action_cache.proofs.cache.ActionCache.held_bytes.Goals as goal

pub returns : goal.returns
returns g c =
    c.held_bytes.ensures.value ∙ total-plain c.self.inside.blobs.entries ∙ ap (λ (w : CacheState). total (λ (b : List ℕ × List ℕ). length b.1) w.blobs) c.self.view_is
