-- What the system tells of connections, one event after another; and which of them wait for others
-- no more.
use Rattle.std.proofs.Common.{◌≡◌, ℕ, ◌⊎◌, inl, inr, Bool, true, false, Option, Some, None, List, [], ◌∷◌, length, refl, sym, ◌∙◌, ap, subst}
use Rattle.std.proofs.Math.Dec.{eqb}
use Rattle.std.proofs.lemmas.Bool.Decides.{eqb_tells}
use Rattle.std.specs.Prelude.{◌==◌, if◌then◌else◌, option_map}
use Rattle.std.specs.Option.{option_map_or}
use Rattle.std.specs.List.{AllByRecursion}
use Rattle.service.specs.Member.{IsLetGo, MemberValue, in_queue, let_go, marked_by, roused, tells_of}
use Rattle.service.specs.Sockets.{Stays}
use Rattle.service.specs.Together.{member_at, AreMarkedBy, AreSameButHeld, IsFree, OthersAreSame, Members}
use Rattle.service.specs.declared.sockets.Ready.{Ready}

-- the number is among these
abbrev Among : List ℕ → ℕ → Type 0
Among [] k = ⊥
Among (n ∷ rest) k = (n ≡ k) ⊎ Among rest k

all_among : (P : ℕ → Type 0) (ks : List ℕ) → ((k : ℕ) → Among ks k → P k) → AllByRecursion P ks
all_among P [] each = tt
all_among P (k ∷ ks) each = (each k (inl refl), all_among P ks (λ j h. each j (inr h)))

module _ {S : Type 0} where
  -- once the events that are left are told too, all are
  pub record ToTell (all left : List Ready) (old now : Members S) : Type 0 where
    pub each : (k : ℕ) → option_map (marked_by left k) (member_at now k) ≡ option_map (marked_by all k) (member_at old k)
    pub many : length now ≡ length old

  -- ---- who waits for others no more

  -- each of them is free, or among those that are left
  abbrev pub AreFreeBut : ℕ → List ℕ → List ℕ → Members S → Type 0
  AreFreeBut time held left now = (k : ℕ) → Among held k → IsFree time (member_at now k) ⊎ Among left k

module _ {S : Type 0} (spoke : ℕ → S → List ℕ → List ℕ → Type 0) (time : ℕ) where
  pub let_go_none : (o p : Option (MemberValue S)) → o ≡ None → p ≡ o → IsLetGo spoke time o p
  let_go_none o p none same = subst (λ q. IsLetGo spoke time q p) (sym none) (same ∙ none)

  pub let_go_some : (o q p : Option (MemberValue S)) (m n : MemberValue S) → o ≡ Some m → q ≡ Some n → p ≡ option_map in_queue q → Stays spoke m.stream n.stream → n ≡ record m { stream = n.stream; moved = time; held = false } → IsLetGo spoke time o p
  let_go_some o q p m n old mid new stays is = subst (λ q. IsLetGo spoke time q p) (sym old) (n.stream, stays, new ∙ ap (option_map in_queue) mid ∙ ap (λ (z : MemberValue S). Some (in_queue z)) is)

  free_once : (o p : Option (MemberValue S)) → IsLetGo spoke time o p → IsFree time p
  free_once None p none = subst (λ q. IsFree time q) (sym none) tt
  free_once (Some m) p (stream, stays, is) = subst (λ q. IsFree time q) (sym is) (refl, refl, refl)

  let_go_twice : (m : MemberValue S) (stream : S) (q : Option (MemberValue S)) → Stays spoke m.stream stream → IsLetGo spoke time (Some (let_go time stream m)) q → IsLetGo spoke time (Some m) q
  let_go_twice m stream q stays (again, on, is) = (again, λ k read sent said. on k read sent (stays k read sent said), is)

  let_go_after : (o p q : Option (MemberValue S)) → (p ≡ o) ⊎ IsLetGo spoke time o p → IsLetGo spoke time p q → IsLetGo spoke time o q
  let_go_after o p q (inl same) h = subst (λ r. IsLetGo spoke time r q) same h
  let_go_after None p q (inr none) h = subst (λ r. IsLetGo spoke time r q) none h
  let_go_after (Some m) p q (inr (stream, stays, is)) h = let_go_twice m stream q stays (subst (λ r. IsLetGo spoke time r q) is h)

  pub frees_next : (held left rest : List ℕ) (n : ℕ) (l m : Members S) → left ≡ n ∷ rest → IsLetGo spoke time (member_at l n) (member_at m n) → OthersAreSame n l m → AreFreeBut time held left l → AreFreeBut time held rest m
  frees_next held left rest n l m is at others free k among = by (eqb_tells k n) (free k among)
    where
      own : IsFree time (member_at m n)
      own = free_once (member_at l n) (member_at m n) at

      further : (k ≡ n → ⊥) → Among (n ∷ rest) k → IsFree time (member_at m k) ⊎ Among rest k
      further other (inl is) = absurd (other (sym is))
      further other (inr more) = inr more

      by : ((eqb k n ≡ true) × (k ≡ n)) ⊎ ((eqb k n ≡ false) × (k ≡ n → ⊥)) → IsFree time (member_at l k) ⊎ Among left k → IsFree time (member_at m k) ⊎ Among rest k
      by (inl (t, e)) h = inl (subst (λ i. IsFree time (member_at m i)) (sym e) own)
      by (inr (f, other)) (inl h) = inl (subst (λ o. IsFree time o) (sym (others k other)) h)
      by (inr (f, other)) (inr h) = further other (subst (λ ks. Among ks k) is h)

  pub frees_all : (held left : List ℕ) (l : Members S) → left ≡ [] → AreFreeBut time held left l → AllByRecursion (λ k. IsFree time (member_at l k)) held
  frees_all held left l none free = all_among (λ k. IsFree time (member_at l k)) held (λ k among. by k (free k among))
    where
      by : (k : ℕ) → IsFree time (member_at l k) ⊎ Among left k → IsFree time (member_at l k)
      by k (inl h) = h
      by k (inr h) = absurd (subst (λ ks. Among ks k) none h)

  pub goes_but_held : (old l m : Members S) (k : ℕ) → IsLetGo spoke time (member_at l k) (member_at m k) → OthersAreSame k l m → length m ≡ length l → AreSameButHeld spoke time old l → AreSameButHeld spoke time old m
  goes_but_held old l m k at others many held = (λ j. by j (eqb_tells j k), many ∙ held.1)
    where
      by : (j : ℕ) → ((eqb j k ≡ true) × (j ≡ k)) ⊎ ((eqb j k ≡ false) × (j ≡ k → ⊥)) → (member_at m j ≡ member_at old j) ⊎ IsLetGo spoke time (member_at old j) (member_at m j)
      by j (inl (t, e)) = inr (subst (λ i. IsLetGo spoke time (member_at old i) (member_at m i)) (sym e) (let_go_after (member_at old k) (member_at l k) (member_at m k) (held.0 k) at))
      by j (inr (f, other)) = subst (λ o. (o ≡ member_at old j) ⊎ IsLetGo spoke time (member_at old j) o) (sym (others j other)) (held.0 j)

-- ---- one event

module _ {S : Type 0} (event : Ready) where
  not_told : (k : ℕ) (own : Bool) (o : Option (MemberValue S)) → own ≡ false → o ≡ option_map (λ m. if own then in_queue (roused event m) else m) o
  not_told k own None e = refl
  not_told k own (Some m) e = subst (λ b. Some m ≡ Some (if b then in_queue (roused event m) else m)) (sym e) refl

  told : (k : ℕ) (own : Bool) (o : Option (MemberValue S)) → own ≡ true → option_map in_queue (option_map (roused event) o) ≡ option_map (λ m. if own then in_queue (roused event m) else m) o
  told k own None e = refl
  told k own (Some m) e = subst (λ b. Some (in_queue (roused event m)) ≡ Some (if b then in_queue (roused event m) else m)) (sym e) refl

  -- it is of the listener
  pub marks_none : (l m : Members S) → event.number ≡ None → m ≡ l → AreMarkedBy (event ∷ []) l m
  marks_none l m none same = (λ j. ap (λ ms. member_at ms j) same ∙ not_told j (tells_of j event) (member_at l j) (ap (λ o. option_map_or (λ number. number == j) o false) none), ap length same)

  -- or of this connection
  pub marks_one : (k : ℕ) (l m n : Members S) → event.number ≡ Some k → member_at m k ≡ option_map (roused event) (member_at l k) → OthersAreSame k l m → length m ≡ length l
      → member_at n k ≡ option_map in_queue (member_at m k) → OthersAreSame k m n → length n ≡ length m → AreMarkedBy (event ∷ []) l n
  marks_one k l m n is at others many at' others' many' = (λ j. by j (eqb_tells k j), many' ∙ many)
    where
      own_of : (j : ℕ) (b : Bool) → eqb k j ≡ b → tells_of j event ≡ b
      own_of j b e = ap (λ o. option_map_or (λ number. number == j) o false) is ∙ e

      by : (j : ℕ) → ((eqb k j ≡ true) × (k ≡ j)) ⊎ ((eqb k j ≡ false) × (k ≡ j → ⊥)) → member_at n j ≡ option_map (marked_by (event ∷ []) j) (member_at l j)
      by j (inl (t, e)) = subst (λ i. member_at n i ≡ option_map (marked_by (event ∷ []) j) (member_at l i)) e (at' ∙ ap (option_map in_queue) at ∙ told j (tells_of j event) (member_at l k) (own_of j true t))
      by j (inr (f, n)) = others' j (λ e. n (sym e)) ∙ others j (λ e. n (sym e)) ∙ not_told j (tells_of j event) (member_at l j) (own_of j false f)
