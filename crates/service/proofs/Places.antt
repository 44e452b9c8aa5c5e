-- Places for connections: each is free or has one.
use Rattle.std.proofs.Common.{◌≡◌, ℕ, zero, suc, ◌+◌, ◌<◌, ◌≤◌, ◌⊎◌, inl, inr, true, false, cond, Option, Some, None, List, [], ◌∷◌, length, refl, sym, ◌∙◌, ap, subst, arith}
use Rattle.std.proofs.Math.Dec.{eqb}
use Rattle.std.proofs.lemmas.Bool.{cases_lt}
use Rattle.std.proofs.lemmas.Bool.Decides.{eqb_tells}
use Rattle.std.proofs.lemmas.Cmp.{nat_cmp_total, tied_itself}
use Rattle.std.specs.Ordering.{is_eq}
use Rattle.std.specs.declared.cmp.Ordering.{Ordering}
use Rattle.cache_server.specs.Server.{ServerValue}
use Rattle.service.specs.Sockets.{Cause, Why, CountsOne, GivesPlace, KeepsPlaces, ServesPlaces, TakesPlace}
use Rattle.std.specs.Prelude.{option_map}
use Rattle.service.specs.Member.{in_queue, marked_by}
use Rattle.service.specs.Together.{member_at, ArePlaced, StaysPlaced, AreSame, AreSameButHeld, AreMarkedBy, OthersAreSame, MovesOnAt, EntersAt, Members}
use Rattle.service.specs.declared.sockets.Ready.{Ready}
use Rattle.service.proofs.Keeping.{held_alike, none_alike, none_is_some, queued_alike}

none_left : {S : Type 0} (members : Members S) → ((k : ℕ) → member_at members k ≡ None) → length members ≡ 0
none_left [] gone = refl
none_left (m ∷ members) gone = none_is_some (member_at (m ∷ members) m.0) m.1 own (gone m.0)
  where
    own : member_at (m ∷ members) m.0 ≡ Some m.1
    own = ap (λ (o : Ordering). cond (is_eq o) (Some m.1) (member_at members m.0)) (tied_itself nat_cmp_total m.0)

-- all connections but one are as they were, and that one isn't new
fresh_but : {S : Type 0} (k : ℕ) (l m : Members S) (a : ℕ) → OthersAreSame k l m → (a ≤ k → member_at m k ≡ None)
    → ((j : ℕ) → a ≤ j → member_at l j ≡ None) → (j : ℕ) → a ≤ j → member_at m j ≡ None
fresh_but {S} k l m a others own fresh j above = by_test (eqb_tells j k)
  where
    by_test : ((eqb j k ≡ true) × (j ≡ k)) ⊎ ((eqb j k ≡ false) × (j ≡ k → ⊥)) → member_at m j ≡ None
    by_test (inl (t, e)) = subst (λ (i : ℕ). member_at m i ≡ None) (sym e) (own (subst (λ (i : ℕ). a ≤ i) e above))
    by_test (inr (f, n)) = others j n ∙ fresh j above

one_more : {N : Type 0} (places : N → ℕ → ℕ → Type 0) (s : N) (free before a : ℕ) → places s free (before + a + 1) → places s free (before + (a + 1))
one_more places s free before a are = let e : before + a + 1 ≡ before + (a + 1) = omega arith in subst (places s free) e are

none_more : {N : Type 0} (places : N → ℕ → ℕ → Type 0) (s : N) (free given : ℕ) → places s free given → places s free (given + 0)
none_more places s free given are = let e : given ≡ given + 0 = omega arith in subst (places s free) e are

module _ {N S : Type 0} {places : N → ℕ → ℕ → Type 0} {all : ℕ} where
  pub placed_nowhere : (s : N) (l : Members S) (a : ℕ) → StaysPlaced places all s l a s l a
  placed_nowhere s l a = record { on = λ before h. h }

  pub placed_further : {s t u : N} {l m n : Members S} {a b c : ℕ} → StaysPlaced places all s l a t m b → StaysPlaced places all t m b u n c → StaysPlaced places all s l a u n c
  placed_further p q = record { on = λ before h. q.on before (p.on before h) }

  -- as many are free, and the connections are the same
  pub placed_same : (s t : N) (l m : Members S) (a : ℕ) → KeepsPlaces places s t → AreSame l m → StaysPlaced places all s l a t m a
  placed_same s t l m a keeps same = record {
    on = λ before h. record {
      free = h.free;
      are = keeps h.free (before + a) h.are;
      sum = ap (λ (z : ℕ). h.free + z) same.1 ∙ h.sum;
      fresh = λ k above. same.0 k ∙ h.fresh k above;
    };
  }

  pub placed_still : (s : N) (l m : Members S) (a : ℕ) → AreSame l m → StaysPlaced places all s l a s m a
  placed_still s l m a same = placed_same s s l m a (λ free given h. h) same

  -- where there was none there is none
  placed_alike : (s : N) (l m : Members S) (a : ℕ) → ((k : ℕ) → member_at l k ≡ None → member_at m k ≡ None) → length m ≡ length l → StaysPlaced places all s l a s m a
  placed_alike s l m a none many = record {
    on = λ before h. record {
      free = h.free;
      are = h.are;
      sum = ap (λ (z : ℕ). h.free + z) many ∙ h.sum;
      fresh = λ k above. none k (h.fresh k above);
    };
  }

  pub placed_but_held : (spoke : ℕ → S → List ℕ → List ℕ → Type 0) (now : ℕ) (s : N) (l m : Members S) (a : ℕ) → AreSameButHeld spoke now l m → StaysPlaced places all s l a s m a
  placed_but_held spoke now s l m a same = placed_alike s l m a (λ k. none_alike spoke (member_at l k) (member_at m k) (held_alike spoke now (member_at l k) (member_at m k) (same.0 k))) same.1

  pub placed_queued : (spoke : ℕ → S → List ℕ → List ℕ → Type 0) (k : ℕ) (s : N) (l m : Members S) (a : ℕ) → member_at m k ≡ option_map in_queue (member_at l k) → OthersAreSame k l m → length m ≡ length l → StaysPlaced places all s l a s m a
  placed_queued spoke k s l m a at others many = placed_alike s l m a (λ j. none_alike spoke (member_at l j) (member_at m j) (queued_alike spoke k l m at others j)) many

  pub placed_told : (events : List Ready) (s : N) (l m : Members S) (a : ℕ) → AreMarkedBy events l m → StaysPlaced places all s l a s m a
  placed_told events s l m a told = placed_alike s l m a (λ k none. told.0 k ∙ ap (option_map (marked_by events k)) none) told.1

  pub placed_moved : {most : ℕ} (end : Option Why) (spoke : ℕ → S → List ℕ → List ℕ → Type 0) (over : S → Cause → Type 0) (k : ℕ) (old new : ServerValue) (s : N) (l m : Members S) (a : ℕ)
      → MovesOnAt spoke over most end k old l new m → StaysPlaced places all s l a s m a
  placed_moved end spoke over k old new s l m a moves = record {
    on = λ before h. record {
      free = h.free;
      are = h.are;
      sum = ap (λ (z : ℕ). h.free + z) moves.many ∙ h.sum;
      fresh = fresh_but k l m a moves.others (λ above. none_is_some (member_at l k) moves.before moves.held (h.fresh k above)) h.fresh;
    };
  }

  -- one has ended
  pub placed_left : (k : ℕ) (s t : N) (l m : Members S) (a : ℕ) → GivesPlace places s t → length m + 1 ≡ length l → member_at m k ≡ None → OthersAreSame k l m
      → StaysPlaced places all s l a t m a
  placed_left k s t l m a gives fewer gone others = record {
    on = λ before h. record {
      free = h.free + 1;
      are = gives h.free (before + a) h.are;
      sum = let e : h.free + length l ≡ all = h.sum in omega (arith, fewer, e);
      fresh = fresh_but k l m a others (λ above. gone) h.fresh;
    };
  }

  -- a place is free, so it can be taken
  taken : (s t : N) (l : Members S) (a before : ℕ) → TakesPlace places s t → length l < all → ArePlaced places all before s l a
      → (free : ℕ) × places t free (before + (a + 1)) × (free + 1 + length l ≡ all)
  taken s t l a before takes less h = by h.free h.are h.sum
    where
      by : (free : ℕ) → places s free (before + a) → free + length l ≡ all → (free : ℕ) × places t free (before + (a + 1)) × (free + 1 + length l ≡ all)
      by zero are sum = absurd (omega (arith, less, sum))
      by (suc free) are sum = (free, one_more places t free before a (takes free (before + a) (let e : suc free ≡ free + 1 = omega arith in subst (λ n. places s n (before + a)) e are)), omega (arith, sum))

  -- one has come in
  pub placed_entered : (s t : N) (k : ℕ) (stream : S) (now : ℕ) (l m : Members S) → TakesPlace places s t → length l < all → EntersAt k stream now l m → StaysPlaced places all s l k t m (k + 1)
  placed_entered s t k stream now l m takes less enters = record { on = λ before h. go before h (taken s t l k before takes less h) }
    where
      go : (before : ℕ) → ArePlaced places all before s l k → ((free : ℕ) × places t free (before + (k + 1)) × (free + 1 + length l ≡ all)) → ArePlaced places all before t m (k + 1)
      go before h (free, are, sum) = record {
        free = free;
        are = are;
        sum = let more : length m ≡ length l + 1 = enters.more (h.fresh k (omega arith)) in omega (arith, more, sum);
        fresh = λ j above. enters.others j (λ (e : j ≡ k). absurd (omega arith)) ∙ h.fresh j (omega arith);
      }

  -- one came in, and was ended at once
  pub placed_back : (s t u : N) (l m : Members S) (a : ℕ) → TakesPlace places s t → GivesPlace places t u → length l < all → AreSame l m → StaysPlaced places all s l a u m (a + 1)
  placed_back s t u l m a takes gives less same = record { on = λ before h. go before h (taken s t l a before takes less h) }
    where
      go : (before : ℕ) → ArePlaced places all before s l a → ((free : ℕ) × places t free (before + (a + 1)) × (free + 1 + length l ≡ all)) → ArePlaced places all before u m (a + 1)
      go before h (free, are, sum) = record {
        free = free + 1;
        are = gives free (before + (a + 1)) are;
        sum = ap (λ (z : ℕ). free + 1 + z) same.1 ∙ sum;
        fresh = λ k above. same.0 k ∙ h.fresh k (omega arith);
      }

  -- one has ended as it was accepted
  pub placed_lost : (s t : N) (l m : Members S) (a : ℕ) → CountsOne places s t → AreSame l m → StaysPlaced places all s l a t m (a + 1)
  placed_lost s t l m a counts same = record {
    on = λ before h. record {
      free = h.free;
      are = one_more places t h.free before a (counts h.free (before + a) h.are);
      sum = ap (λ (z : ℕ). h.free + z) same.1 ∙ h.sum;
      fresh = λ k above. same.0 k ∙ h.fresh k (omega arith);
    };
  }

  -- from none that is open, to none
  pub placed_whole : (s t : N) (none m : Members S) (a : ℕ) → none ≡ [] → StaysPlaced places all s none 0 t m a → ((k : ℕ) → k < a → member_at m k ≡ None) → ServesPlaces places all a s t
  placed_whole s t none m a e stays gone given are = by (stays.on given first)
    where
      first : ArePlaced places all given s none 0
      first = record {
        free = all;
        are = none_more places s all given are;
        sum = let z : length none ≡ 0 = ap length e in omega (arith, z);
        fresh = λ k above. ap (λ (z : Members S). member_at z k) e;
      }

      by : ArePlaced places all given t m a → places t all (given + a)
      by h = let z : length m ≡ 0 = none_left m each in let sum : h.free + length m ≡ all = h.sum in let all_free : h.free ≡ all = omega (arith, z, sum) in subst (λ n. places t n (given + a)) all_free h.are
        where
          order : (k : ℕ) → (k < a) ⊎ (a ≤ k) → member_at m k ≡ None
          order k (inl below) = gone k below
          order k (inr above) = h.fresh k above

          each : (k : ℕ) → member_at m k ≡ None
          each k = order k (cases_lt k a)
