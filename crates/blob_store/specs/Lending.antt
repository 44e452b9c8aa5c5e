-- How a blob store ends, once what was lent from it is given back.
use Rattle.std.specs.Prelude.{ℕ, List, ⊤}
use Rattle.std.specs.Borrow.{Fml, RattleType, MutBor, follows_so}
use Rattle.std.specs.declared.alloc.Allocator as alloc
use mathlib.Core.Option.{none}
use Rattle.eviction.specs.Kept.{Kept}
use Rattle.blob_store.specs.contracts.store.BlobStore.{the_row}

module _ (A : RattleType) (heap : alloc.Ghosts A.Denot) where
  -- the store ends with P, whatever the result borrows
  abbrev pub Ends : MutBor (Kept (List ℕ)) → (Kept (List ℕ) → Type 0) → Fml
  Ends s P = follows_so (the_row A heap) (the_row A heap) s.ghost_name none (λ _ _. ⊤) P
