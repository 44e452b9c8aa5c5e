-- Who has a turn, and who is ended, one after another.
use Rattle.std.proofs.Common.{◌≡◌, ℕ, ◌+◌, ◌≤◌, ◌⊎◌, inl, inr, Bool, true, false, Option, Some, None, List, [], ◌∷◌, ◌++◌, refl, sym, ◌∙◌, ap, subst, arith}
use Rattle.std.specs.Prelude.{IfSome, IsSome, if◌then◌else◌, option_map}
use Rattle.service.specs.Member.{GoesAhead, IsDeadline, MemberValue, in_queue, load_after, no_load}
use Rattle.service.specs.Rounds.{ArePressed, EndLate, EndsLate, GoesAheadAt, HasTurn, NoneEnds, OneEnds, TakeTurns, TakesTurns}
use Rattle.service.specs.Together.{AreSameButHeld, Members, OthersAreSame, joining, member_at}
use Rattle.service.specs.declared.load.Load.{Load}
use Rattle.service.specs.declared.together.Together.{Together}

-- once more
pub goes_further : {S : Type 0} (tried : S → ℕ → Type 0) (now : ℕ) (old mid new : MemberValue S) → GoesAhead tried now old mid → GoesAhead tried now mid new → GoesAhead tried now old new
goes_further tried now old mid new first (inl t) = inl t
goes_further tried now old mid new (inl t) (inr (same, less)) = inl (subst (λ s. tried s now) (sym same) t)
goes_further tried now old mid new (inr (e, before)) (inr (same, less)) = inr (same ∙ e, omega (arith, before, less))

-- or for the first time
pub goes_first : {S : Type 0} (tried : S → ℕ → Type 0) (now : ℕ) (none : Type 0) (old mid new : MemberValue S) → (none × (mid ≡ old)) ⊎ GoesAhead tried now old mid → GoesAhead tried now mid new → GoesAhead tried now old new
goes_first tried now none old mid new (inl (z, same)) goes = subst (λ m. GoesAhead tried now m new) same goes
goes_first tried now none old mid new (inr before) goes = goes_further tried now old mid new before goes

-- none yet
pub none_ends : {S : Type 0} (idle : Option ℕ) (now : ℕ) (members : Members S) (load : Load) → EndLate idle now members load members load
none_ends idle now members load = NoneEnds members load

-- the connection with the number went ahead
pub goes_at : {S : Type 0} (tried : S → ℕ → Type 0) (now k : ℕ) (old new : Members S) (before after : MemberValue S) → member_at old k ≡ Some before → member_at new k ≡ Some after
    → GoesAhead tried now before after → GoesAheadAt tried now k old new
goes_at tried now k old new before after held at goes = record {
  before = before;
  after = after;
  held = held;
  at = at;
  goes = goes;
}

-- it is out of the queue
pub is_out : {S : Type 0} (tried : S → ℕ → Type 0) (now k : ℕ) (others : List ℕ) (old new : Together S) → old.ready.items ≡ k ∷ others → new.ready.items ≡ others → HasTurn tried now old new
is_out tried now k others old new was is = inr (record {
  first = k;
  others = others;
  was = was;
  is = λ few. inl is;
})

joining_one : {S : Type 0} (k : ℕ) (o : Option (MemberValue S)) (m : MemberValue S) → o ≡ Some m → IfSome o (λ m. m.queued ≡ false) → joining o k ≡ k ∷ []
joining_one {S} k o m is queued = ap (λ o. joining o k) is ∙ ap (λ b. if b then [] else k ∷ []) (subst (λ o. IfSome o (λ m. m.queued ≡ false)) is queued)

-- or behind the others there
pub is_behind : {S : Type 0} {w : Together S} (tried : S → ℕ → Type 0) (now k : ℕ) (old mid new : Together S) → old.ready.items ≡ k ∷ w.ready.items → mid ≡ w
    → GoesAheadAt tried now k old.members.entries mid.members.entries → IfSome (member_at mid.members.entries k) (λ m. m.queued ≡ false)
    → member_at new.members.entries k ≡ option_map in_queue (member_at mid.members.entries k) → (new.short ≡ false → new.ready.items ≡ mid.ready.items ++ joining (member_at mid.members.entries k) k)
    → HasTurn tried now old new
is_behind {S} {w} tried now k old mid new was rest goes queued at list = inr (record {
  first = k;
  others = w.ready.items;
  was = was;
  is = λ few. inr (
    list few ∙ ap (λ (z : Together S). z.ready.items ++ joining (member_at mid.members.entries k) k) rest ∙ ap (λ ks. w.ready.items ++ ks) (joining_one k (member_at mid.members.entries k) goes.after goes.at queued),
    record {
      before = goes.before;
      after = in_queue goes.after;
      held = goes.held;
      at = at ∙ ap (option_map in_queue) goes.at;
      goes = goes.goes;
    },
  );
})

-- one more is ended
pub ends_one : {S : Type 0} (idle limit : Option ℕ) (pressed : Bool) (now number deadline : ℕ) (old mid new : Members S) (before between after : Load)
    → EndLate idle now old before mid between → limit ≡ idle → IsSome (member_at mid number) → ArePressed mid between pressed
    → IfSome (member_at mid number) (λ m. IsDeadline m limit pressed (Some deadline)) → deadline ≤ now → member_at new number ≡ None → OthersAreSame number mid new
    → IfSome (member_at mid number) (λ m. after ≡ load_after between m.load no_load) → EndLate idle now old before new after
ends_one {S} idle limit pressed now number deadline old mid new before between after ends same some are late due gone others less =
    OneEnds old mid new before between after ends (by (member_at mid number) refl some late less)
  where
    by : (o : Option (MemberValue S)) → member_at mid number ≡ o → IsSome o → IfSome o (λ m. IsDeadline m limit pressed (Some deadline)) → IfSome o (λ m. after ≡ load_after between m.load no_load) → EndsLate idle now mid between new after
    by None at some late less = let c : false ≡ true = some in absurd cc
    by (Some m) at some late less = record {
      k = number;
      m = m;
      held = at;
      pressed = pressed;
      are = are;
      deadline = deadline;
      is = subst (λ l. IsDeadline m l pressed (Some deadline)) same late;
      over = due;
      gone = gone;
      others = others;
      less = less;
    }

-- so many turns were taken, whatever was let go behind them
pub took_turns : {S : Type 0} {count all : ℕ} (spoke : ℕ → S → List ℕ → List ℕ → Type 0) (tried : S → ℕ → Type 0) (now : ℕ) (old last new : Together S) → count ≡ all → TakeTurns tried count old last
    → AreSameButHeld spoke now last.members.entries new.members.entries → TakesTurns tried spoke all old new
took_turns spoke tried now old last new are turns same = record {
  last = last;
  turns = subst (λ n. TakeTurns tried n old last) are turns;
  now = now;
  same = same;
}

-- one more was accepted, or none waits
pub counts_on : (was is : Bool) (first count mid new : ℕ) → was ≡ true → (was ≡ false) ⊎ (first + count ≡ mid) → (new ≡ mid + 1) ⊎ ((is ≡ false) × (new ≡ mid)) → (is ≡ false) ⊎ (first + (count + 1) ≡ new)
counts_on was is first count mid new waits before (inr (none, same)) = inl none
counts_on was is first count mid new waits (inl none) (inl one) = let c : true ≡ false = sym waits ∙ none in absurd cc
counts_on was is first count mid new waits (inr all) (inl one) = inr (omega (arith, all, one))
