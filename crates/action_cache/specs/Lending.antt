-- How a cache ends, once what was lent from it is given back.
use Rattle.std.specs.Prelude.{⊤}
use Rattle.std.specs.Borrow.{Fml, RattleType, MutBor, follows_so}
use Rattle.std.specs.declared.alloc.Allocator as alloc
use mathlib.Core.Option.{none}
use Rattle.action_cache.specs.Machine.{CacheState}
use Rattle.action_cache.specs.contracts.cache.ActionCache.{the_row}

module _ (A : RattleType) (heap : alloc.Ghosts A.Denot) where
  -- the cache ends with P, whatever the result borrows
  abbrev pub Ends : MutBor CacheState → (CacheState → Type 0) → Fml
  Ends s P = follows_so (the_row A heap) (the_row A heap) s.ghost_name none (λ _ _. ⊤) P
