-- One after another: turns of those in the queue, and ends of those that were silent for too long.
use Rattle.std.specs.Prelude.{◌≡◌, ℕ, ◌+◌, ◌≤◌, ◌⊎◌, ◌++◌, ◌∷◌, [], List, Bool, true, false}
use Rattle.std.specs.Prelude.{Option, Some, None, nat_le}
use Rattle.service.specs.Member.{GoesAhead, IsDeadline, MemberValue, load_after, no_load}
use Rattle.service.specs.Together.{AreFull, AreSameButHeld, Members, OthersAreSame, member_at}
use Rattle.service.specs.declared.load.Load.{Load}
use Rattle.service.specs.declared.together.Together.{Together}

-- `tried` says of a stream that a call was made there at a time.
module _ {S : Type 0} (tried : S → ℕ → Type 0) where
  -- the open connection with the number went ahead at this time
  pub record GoesAheadAt (now k : ℕ) (old new : Members S) : Type 0 where
    pub before : MemberValue S
    pub after : MemberValue S
    pub held : member_at old k ≡ Some before
    pub at : member_at new k ≡ Some after
    pub goes : GoesAhead tried now before after

  -- The first in the queue had a turn at this time. It is out of the queue, or behind the others
  -- there if it went ahead; unless memory was wanting for that.
  pub record FirstHasTurn (now : ℕ) (old new : Together S) : Type 0 where
    pub first : ℕ
    pub others : List ℕ
    pub was : old.ready.items ≡ first ∷ others
    pub is : new.short ≡ false → (new.ready.items ≡ others)
        ⊎ ((new.ready.items ≡ others ++ first ∷ [])
        × GoesAheadAt now first old.members.entries new.members.entries)

  -- the first in the queue had a turn, or the queue was empty and still is, and the connections are
  -- the same
  abbrev pub HasTurn : ℕ → Together S → Together S → Type 0
  HasTurn now old new =
      ((old.ready.items ≡ []) × (new.ready.items ≡ []) × (new.members ≡ old.members))
      ⊎ FirstHasTurn now old new

  -- a number of turns, one after another
  pub data TakeTurns : ℕ → Together S → Together S → Type 0 where
    NoTurn : (all : Together S) → TakeTurns 0 all all
    OneTurn : (count now : ℕ) (old mid new : Together S)
        → TakeTurns count old mid → HasTurn now mid new → TakeTurns (count + 1) old new

  -- a number of turns, and then some that waited for others may wait no more
  pub record TakesTurns
      (spoke : ℕ → S → List ℕ → List ℕ → Type 0) (count : ℕ) (old new : Together S)
      : Type 0 where
    pub last : Together S
    pub turns : TakeTurns count old last
    pub now : ℕ
    pub same : AreSameButHeld spoke now last.members.entries new.members.entries

-- whether others wait for memory: requests that aren't whole hold too much, or answers do
pub record ArePressed {S : Type 0} (members : Members S) (load : Load) (pressed : Bool)
    : Type 0 where
  pub requests : nat_le 268435456 load.requests ≡ true → pressed ≡ true
  pub answers : nat_le 268435456 load.requests ≡ false → AreFull members load pressed

-- a connection was ended whose deadline was over, as much as all held then
pub record EndsLate
    {S : Type 0} (idle : Option ℕ) (now : ℕ) (members : Members S) (load : Load)
    (members' : Members S) (load' : Load) : Type 0 where
  pub k : ℕ
  pub m : MemberValue S
  pub held : member_at members k ≡ Some m
  pub pressed : Bool
  pub are : ArePressed members load pressed
  pub deadline : ℕ
  pub is : IsDeadline m idle pressed (Some deadline)
  pub over : deadline ≤ now
  pub gone : member_at members' k ≡ None
  pub others : OthersAreSame k members members'
  pub less : load' ≡ load_after load m.load no_load

-- connections whose deadlines were over were ended, one after another
pub data EndLate {S : Type 0} (idle : Option ℕ) (now : ℕ)
    : Members S → Load → Members S → Load → Type 0 where
  NoneEnds : (members : Members S) (load : Load) → EndLate idle now members load members load
  OneEnds : (old mid new : Members S) (before between after : Load)
      → EndLate idle now old before mid between → EndsLate idle now mid between new after
      → EndLate idle now old before new after
