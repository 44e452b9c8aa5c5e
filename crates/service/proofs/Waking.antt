-- When connections will have been silent for too long, and what they hold.
use Rattle.std.proofs.Common.{◌≡◌, ℕ, ◌+◌, ◌<◌, ◌≤◌, ◌⊎◌, inl, inr, Bool, true, false, cond, Option, Some, None, [], ◌∷◌, refl, sym, ◌∙◌, ap, subst, arith}
use Rattle.std.proofs.Math.Dec.{eqb}
use Rattle.std.proofs.lemmas.Bool.{cases_lt, leb-true}
use Rattle.std.proofs.lemmas.Bool.Decides.{eqb_tells}
use Rattle.std.specs.Prelude.{min, nat_le, ◌&&◌, if◌then◌else◌, IfSome, IsTrue, length}
use Rattle.std.specs.Option.{unwrap_or}
use Rattle.std.specs.Ordering.{is_eq, nat_cmp}
use Rattle.cache_server.specs.Answer.{AnswerValue}
use Rattle.service.specs.Member.{MemberValue, HoldsAlone, IsDeadline, deadline_at, deadline_of, own_size, pressed_limit}
use Rattle.service.specs.Together.{AreFull, AreHeavyInTime, HoldAlone, HoldLittle, IsInTime, Members, OthersAreSame, SparesInTime, first_deadline, member_at}
use Rattle.service.specs.declared.lingering.Lingering.{Lingering}
use Rattle.service.specs.declared.load.Load.{Load}

-- the time, or where there is none the last of all
abbrev pub or_never : Option ℕ → ℕ
or_never time = unwrap_or time 18446744073709551615

pressed_sooner : (lingering : Option Lingering) (held : Bool) (moved : ℕ) (idle : Option ℕ) → or_never (deadline_of lingering held moved (Some (pressed_limit idle))) ≤ or_never (deadline_of lingering held moved idle)
pressed_sooner (Some it) held moved idle = omega arith
pressed_sooner None true moved idle = omega arith
pressed_sooner None false moved None = omega arith
pressed_sooner None false moved (Some time) = omega arith

no_later : {S : Type 0} (m : MemberValue S) (idle : Option ℕ) (pressed : Bool) (r : Option ℕ) → IsDeadline m idle pressed r → or_never r ≤ or_never (deadline_at m idle)
no_later m idle pressed r (inl e) = let same : or_never r ≡ or_never (deadline_at m idle) = ap or_never e in omega (arith, same)
no_later m idle pressed r (inr (p, heavy, e)) =
    let same : or_never r ≡ or_never (deadline_at m (Some (pressed_limit idle))) = ap or_never e in
    let less : or_never (deadline_at m (Some (pressed_limit idle))) ≤ or_never (deadline_at m idle) = pressed_sooner m.lingering m.held m.moved idle in omega (arith, same, less)

pub first_below : {S : Type 0} (idle : Option ℕ) (members : Members S) → first_deadline idle members ≤ 18446744073709551615
first_below idle [] = omega arith
first_below idle (m ∷ members) = let h : first_deadline idle members ≤ 18446744073709551615 = first_below idle members in omega (arith, h)

-- one more was looked at
pub wakes_sooner : {S : Type 0} (idle : Option ℕ) (pressed : Bool) (wake bound : ℕ) (left rest : Members S) (entry : ℕ × MemberValue S) (r : Option ℕ) → left ≡ entry ∷ rest
    → IsDeadline entry.1 idle pressed r → min wake (first_deadline idle left) ≤ bound → min (min wake (or_never r)) (first_deadline idle rest) ≤ bound
wakes_sooner idle pressed wake bound left rest entry r e is h =
    let first : first_deadline idle left ≡ first_deadline idle (entry ∷ rest) = ap (first_deadline idle) e in
    let n : or_never r ≤ or_never (deadline_at entry.1 idle) = no_later entry.1 idle pressed r is in omega (arith, n, h, first)

pub wakes_calm : {S : Type 0} (idle : Option ℕ) (pressed : Bool) (wake bound : ℕ) (left rest : Members S) (entry : ℕ × MemberValue S) (r : Option ℕ) → left ≡ entry ∷ rest
    → IsDeadline entry.1 idle pressed r → pressed ≡ false → min wake (first_deadline idle left) ≡ bound → min (min wake (or_never r)) (first_deadline idle rest) ≡ bound
wakes_calm idle pressed wake bound left rest entry r e (inl is) calm h =
    let first : first_deadline idle left ≡ first_deadline idle (entry ∷ rest) = ap (first_deadline idle) e in
    let same : or_never r ≡ or_never (deadline_at entry.1 idle) = ap or_never is in omega (arith, same, h, first)
wakes_calm idle pressed wake bound left rest entry r e (inr (p, heavy, is)) calm h = let not : false ≡ true = sym calm ∙ p in absurd cc

-- one more was looked at, whose deadline isn't over
pub heavy_later : {S : Type 0} (idle : Option ℕ) (now : ℕ) (left rest : Members S) (entry : ℕ × MemberValue S) (r : Option ℕ) (Whole : Type 0) → left ≡ entry ∷ rest
    → ((65536 < entry.1.own) ⊎ (65536 < entry.1.load.requests) → r ≡ deadline_at entry.1 (Some (pressed_limit idle))) → IfSome r (λ deadline. now < deadline)
    → (AreHeavyInTime idle now left → Whole) → AreHeavyInTime idle now rest → Whole
heavy_later idle now left rest entry r Whole e heavy later whole others =
    whole (subst (λ ms. AreHeavyInTime idle now ms) (sym e) (λ much. subst (λ o. IfSome o (λ deadline. now < deadline)) (heavy much) later, others))

-- all of them are to be looked at
pub wakes_first : {S : Type 0} (idle : Option ℕ) (members left : Members S) → left ≡ members → min 18446744073709551615 (first_deadline idle left) ≡ first_deadline idle members
wakes_first idle members left e = let b : first_deadline idle members ≤ 18446744073709551615 = first_below idle members in
    subst (λ ms. min 18446744073709551615 (first_deadline idle ms) ≡ first_deadline idle members) (sym e) (omega (arith, b))

-- and to no later a time than the first of their deadlines
pub first_at_most : {S : Type 0} (idle : Option ℕ) (members : Members S) (k wake : ℕ) → wake ≤ first_deadline idle members → IfSome (member_at members k) (λ m. wake ≤ or_never (deadline_at m idle))
first_at_most idle [] k wake h = tt
first_at_most {S} idle (m ∷ members) k wake h = by (is_eq (nat_cmp k m.0)) (first_at_most idle members k wake)
  where
    by : (b : Bool) → (wake ≤ first_deadline idle members → IfSome (member_at members k) (λ m. wake ≤ or_never (deadline_at m idle))) → IfSome (cond b (Some m.1) (member_at members k)) (λ m. wake ≤ or_never (deadline_at m idle))
    by true rest = omega (arith, h)
    by false rest = rest (omega (arith, h))

pub wakes_later : (now wake deadline least : ℕ) → least ≡ min wake deadline → (now < wake) ⊎ (wake ≡ 18446744073709551615) → now < deadline → (now < least) ⊎ (least ≡ 18446744073709551615)
wakes_later now wake deadline least m (inl h) d = inl (omega (arith, m, h, d))
wakes_later now wake deadline least m (inr e) d = by (cases_lt now 18446744073709551615)
  where
    by : (now < 18446744073709551615) ⊎ (18446744073709551615 ≤ now) → (now < least) ⊎ (least ≡ 18446744073709551615)
    by (inl h) = inl (omega (arith, m, h, e, d))
    by (inr h) = inr (omega (arith, m, h, e, d))

-- ---- who is in time

-- while they are the same
pub spares_all : {S : Type 0} (calm : Bool) (idle : Option ℕ) (now : ℕ) (members : Members S) → SparesInTime calm idle now members members
spares_all {S} calm idle now members k = at (member_at members k)
  where
    at : (o : Option (MemberValue S)) → IfSome o (λ m. IsInTime calm m idle now → o ≡ Some m)
    at None = tt
    at (Some m) = λ time. refl

-- one more was ended, whose deadline is over
pub spares_on : {S : Type 0} (calm : Bool) (idle limit : Option ℕ) (pressed : Bool) (now number deadline : ℕ) (old mid new : Members S)
    → (calm ≡ true → pressed ≡ false) → SparesInTime calm idle now old mid → limit ≡ idle → IfSome (member_at mid number) (λ m. IsDeadline m limit pressed (Some deadline)) → deadline ≤ now
    → OthersAreSame number mid new → SparesInTime calm idle now old new
spares_on {S} calm idle limit pressed now number deadline old mid new only spares same late due others k = by_test (eqb_tells k number)
  where
    late_at : (m : MemberValue S) → member_at mid number ≡ Some m → IsDeadline m idle pressed (Some deadline)
    late_at m is = subst (λ l. IsDeadline m l pressed (Some deadline)) same (subst (λ o. IfSome o (λ m. IsDeadline m limit pressed (Some deadline))) is late)

    ended : (o : Option (MemberValue S)) → k ≡ number → IfSome o (λ m. IsInTime calm m idle now → member_at mid k ≡ Some m) → IfSome o (λ m. IsInTime calm m idle now → member_at new k ≡ Some m)
    ended None e h = h
    ended (Some m) e h = λ time. let over : now < deadline = time pressed deadline only (late_at m (subst (λ (i : ℕ). member_at mid i ≡ Some m) e (h time))) in absurd (omega (arith, over, due))

    other : (o : Option (MemberValue S)) → (k ≡ number → ⊥) → IfSome o (λ m. IsInTime calm m idle now → member_at mid k ≡ Some m) → IfSome o (λ m. IsInTime calm m idle now → member_at new k ≡ Some m)
    other None n h = h
    other (Some m) n h = λ time. others k n ∙ h time

    by_test : ((eqb k number ≡ true) × (k ≡ number)) ⊎ ((eqb k number ≡ false) × (k ≡ number → ⊥)) → IfSome (member_at old k) (λ m. IsInTime calm m idle now → member_at new k ≡ Some m)
    by_test (inl (t, e)) = ended (member_at old k) e (spares k)
    by_test (inr (f, n)) = other (member_at old k) n (spares k)

-- where neither holds too much, none waits for memory
pub is_calm : {S : Type 0} (members : Members S) (load : Load) (pressed : Bool) → (nat_le 268435456 load.requests ≡ false → AreFull members load pressed) → HoldLittle load → pressed ≡ false
is_calm members load pressed full (answers, requests) = by (full (above load.requests requests))
  where
    above : (count : ℕ) → count < 268435456 → nat_le 268435456 count ≡ false
    above count less = by_test (nat_le 268435456 count) refl
      where
        by_test : (b : Bool) → nat_le 268435456 count ≡ b → b ≡ false
        by_test false e = refl
        by_test true e = let most = leb-true 268435456 count e in absurd (omega (arith, less, most))

    by : AreFull members load pressed → pressed ≡ false
    by (alone, are, is) = is ∙ ap (λ b. b && nat_le 268435456 alone) (above load.answers answers)

-- ---- what nobody else holds

-- of those that were looked at so much, of which a machine word counts so much
abbrev pub HoldSo : {S : Type 0} → Members S → Members S → ℕ → Type 0
HoldSo members left sum = (own : ℕ) × (sum ≡ min own 18446744073709551615) × ((others : ℕ) → HoldAlone left others → HoldAlone members (own + others))

-- of an answer that isn't alone nobody owns a byte
pub shared_owns_none : (o : Option AnswerValue) (answer : AnswerValue) (alone : Bool) → o ≡ Some answer → (answer.shared ≡ false → IsTrue alone) → alone ≡ false → own_size o ≡ 0
shared_owns_none o answer alone is told not = ap own_size is ∙ by answer.shared told
  where
    by : (shared : Bool) → (shared ≡ false → IsTrue alone) → (if shared then 0 else length answer.body) ≡ 0
    by true told = refl
    by false told = let yes : alone ≡ true = told refl in let none : true ≡ false = sym yes ∙ not in cc

-- so many bytes are held alone, whatever that is
pub some_alone : {S : Type 0} (members : Members S) → (count : ℕ) × HoldAlone members count
some_alone [] = (0, refl)
some_alone (m ∷ members) = let others = some_alone members in (m.1.load.answers + others.0, (m.1.load.answers, others.0, inl refl, others.1, refl))

pub alone_first : {S : Type 0} (members left : Members S) → left ≡ members → HoldSo members left 0
alone_first members left e = (0, omega arith, λ others h. let z : others ≡ 0 + others = omega arith in subst (λ n. HoldAlone members n) z (subst (λ ms. HoldAlone ms others) e h))

pub alone_more : {S : Type 0} (members left rest : Members S) (entry : ℕ × MemberValue S) (sum more held : ℕ) → left ≡ entry ∷ rest → HoldsAlone entry.1 held
    → more ≡ min (sum + held) 18446744073709551615 → HoldSo members left sum → HoldSo members rest more
alone_more members left rest entry sum more held e own is (before, counted, all) = (
  before + held,
  omega (arith, is, counted),
  λ others h.
      let z : before + (held + others) ≡ before + held + others = omega arith in
      subst (λ n. HoldAlone members n) z (all (held + others) (subst (λ ms. HoldAlone ms (held + others)) (sym e) (held, others, own, h, refl))),
)

pub alone_last : {S : Type 0} (members left : Members S) (sum : ℕ) → left ≡ [] → HoldSo members left sum → (own : ℕ) × HoldAlone members own × (sum ≡ min own 18446744073709551615)
alone_last members left sum e (own, counted, all) =
    let z : own + 0 ≡ own = omega arith in (own, subst (λ n. HoldAlone members n) z (all 0 (subst (λ ms. HoldAlone ms 0) (sym e) refl)), counted)

pub not_full : (a b c : Bool) → a ≡ b → a ≡ false → a ≡ b && c
not_full a b c e f = let g : b ≡ false = sym e ∙ f in cc
