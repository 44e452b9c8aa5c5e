-- How a store ends, once what was lent from it is given back.
use Rattle.std.specs.Prelude.{⊤}
use Rattle.std.specs.Borrow.{Fml, RattleType, MutBor, follows_so}
use Rattle.std.specs.HashMap.Lent.{HashMembers}
use Rattle.std.specs.declared.alloc.Allocator as alloc
use mathlib.Core.Option.{none}
use Rattle.eviction.specs.Kept.{Kept}
use Rattle.eviction.specs.contracts.bounded.Bounded.{the_row}

module _ (K A : RattleType) (key : HashMembers K.Denot) (heap : alloc.Ghosts A.Denot) where
  -- the store as what is lent speaks of it
  abbrev pub store_row : RattleType
  store_row =
      the_row K A (record {}) (record { eq = key.eq }) (record { hash_input = key.hash_input }) heap

  -- the store ends with P, whatever the result borrows
  abbrev pub Ends : MutBor (Kept K.Denot) → (Kept K.Denot → Type 0) → Fml
  Ends s P = follows_so store_row store_row s.ghost_name none (λ _ _. ⊤) P
