-- Nobody is forgotten: who is queued stands in the queue, who is held is listed, and each other waits
-- for an event.
use Rattle.std.proofs.Common.{◌≡◌, ℕ, zero, suc, ◌<◌, ◌≤◌, ◌⊎◌, inl, inr, Bool, true, false, Option, Some, None, List, [], ◌∷◌, ◌++◌, refl, sym, ◌∙◌, ap, subst, arith}
use Rattle.std.proofs.Math.Dec.{eqb}
use Rattle.std.proofs.lemmas.Bool.Decides.{eqb_tells}
use Rattle.std.proofs.lemmas.List.Elements.{Contains-append_cases, Contains-append_left, Contains-append_right}
use Rattle.std.specs.Prelude.{◌↔◌, IfSome, IsTrue, if◌then◌else◌, min, option_map, ⊤}
use Rattle.std.specs.List.{Contains}
use Rattle.std.specs.Option.{unwrap_or}
use Rattle.service.specs.Member.{AwaitsEvent, IsLetGo, MemberValue, deadline_at, in_queue, let_go, roused}
use Rattle.service.specs.Together.{AreSeenTo, IsSeenTo, OthersAreSame, joining, member_at}
use Rattle.service.specs.declared.load.Scales.{Scales}
use Rattle.service.specs.declared.sockets.Ready.{Ready}
use Rattle.service.specs.declared.status.StatusLine.{StatusLine}
use Rattle.service.specs.declared.together.Together.{Together}

alone : (k : ℕ) → Contains (k ∷ []) k
alone k = (0, omega arith, refl)

pub not_first : (k j : ℕ) (rest : List ℕ) → (j ≡ k → ⊥) → Contains (k ∷ rest) j → Contains rest j
not_first k j rest n there = by (Contains-append_cases (k ∷ []) rest j there)
  where
    by : Contains (k ∷ []) j ⊎ Contains rest j → Contains rest j
    by (inl (zero, lt, is)) = absurd (n (sym is))
    by (inl (suc i, lt, is)) = absurd (omega arith)
    by (inr h) = h

-- a number is listed, if it wasn't before
pub is_in : (k : ℕ) (old new : List ℕ) (was : Bool) → new ≡ old ++ (if was then [] else k ∷ []) → (was ≡ true → Contains old k) → Contains new k
is_in k old new true list there = subst (λ ks. Contains ks k) (sym list) (Contains-append_left old [] k (there refl))
is_in k old new false list there = subst (λ ks. Contains ks k) (sym list) (Contains-append_right old (k ∷ []) k (alone k))

module _ {S : Type 0} where
  -- of the connection with the number this is kept, whether it has something to do or not
  pub record IsKept (all : Together S) (k : ℕ) (m : MemberValue S) : Type 0 where
    pub queued : IsTrue m.queued → all.short ≡ false → Contains all.ready.items k
    pub held : IsTrue m.held → Contains all.held.items k
    pub wakes : all.wake ≤ unwrap_or (deadline_at m all.idle) 18446744073709551615

  -- nothing was lost of the connections of whose numbers this holds
  pub record KeepsFor (of : ℕ → Type 0) (t u : Together S) : Type 0 where
    pub same : (j : ℕ) → of j → member_at u.members.entries j ≡ member_at t.members.entries j
    pub short : u.short ≡ false → t.short ≡ false
    pub ready : (j : ℕ) → of j → u.short ≡ false → Contains t.ready.items j → Contains u.ready.items j
    pub held : (j : ℕ) → of j → Contains t.held.items j → Contains u.held.items j
    pub wake : u.wake ≤ t.wake
    pub idle : u.idle ≡ t.idle

  abbrev pub KeepsOthers : ℕ → Together S → Together S → Type 0
  KeepsOthers k t u = KeepsFor (λ j. j ≡ k → ⊥) t u

  pub keeps_on : (of : ℕ → Type 0) (t u v : Together S) → KeepsFor of t u → KeepsFor of u v → KeepsFor of t v
  keeps_on of t u v p q = record {
    same = λ j n. q.same j n ∙ p.same j n;
    short = λ few. p.short (q.short few);
    ready = λ j n few there. q.ready j n few (p.ready j n (q.short few) there);
    held = λ j n there. q.held j n (p.held j n there);
    wake = let a = p.wake in let b = q.wake in omega (arith, a, b);
    idle = q.idle ∙ p.idle;
  }

  still_short : (t u : Together S) → (t.short ≡ true → u.short ≡ true) → u.short ≡ false → t.short ≡ false
  still_short t u short few = by t.short refl
    where
      by : (b : Bool) → t.short ≡ b → t.short ≡ false
      by false e = e
      by true e = let c : true ≡ false = sym (short e) ∙ few in absurd cc

  joined_keeps : (k : ℕ) (t u : Together S) → OthersAreSame k t.members.entries u.members.entries → (u.short ≡ false → u.ready.items ≡ t.ready.items ++ joining (member_at t.members.entries k) k) → (t.short ≡ true → u.short ≡ true)
      → u.held ≡ t.held → u.wake ≤ t.wake → u.idle ≡ t.idle → KeepsOthers k t u
  joined_keeps k t u others list short held wake idle = record {
    same = others;
    short = still_short t u short;
    ready = λ j n few there. subst (λ ks. Contains ks j) (sym (list few)) (Contains-append_left t.ready.items (joining (member_at t.members.entries k) k) j there);
    held = λ j n there. subst (λ h. Contains h.items j) (sym held) there;
    wake = wake;
    idle = idle;
  }

  -- only the connections, those that are held, and the next wake are others
  kept_by : {v : Together S} (of : ℕ → Type 0) (t u : Together S) → u ≡ v → v.short ≡ t.short → v.ready ≡ t.ready → v.idle ≡ t.idle → ((j : ℕ) → of j → member_at u.members.entries j ≡ member_at t.members.entries j)
      → ((j : ℕ) → of j → Contains t.held.items j → Contains u.held.items j) → u.wake ≤ t.wake → KeepsFor of t u
  kept_by of t u rest short ready idle same held wake = record {
    same = same;
    short = λ few. sym (ap (λ (z : Together S). z.short) rest ∙ short) ∙ few;
    ready = λ j n few there. subst (λ r. Contains r.items j) (sym (ap (λ (z : Together S). z.ready) rest ∙ ready)) there;
    held = held;
    wake = wake;
    idle = ap (λ (z : Together S). z.idle) rest ∙ idle;
  }

  -- only the connections are
  kept_but : {v : Together S} (of : ℕ → Type 0) (t u : Together S) → u ≡ v → v.short ≡ t.short → v.ready ≡ t.ready → v.idle ≡ t.idle → v.held ≡ t.held → v.wake ≡ t.wake
      → ((j : ℕ) → of j → member_at u.members.entries j ≡ member_at t.members.entries j) → KeepsFor of t u
  kept_but of t u rest short ready idle held wake same = kept_by of t u rest short ready idle same
      (λ j n there. subst (λ h. Contains h.items j) (sym (ap (λ (z : Together S). z.held) rest ∙ held)) there) (let e = ap (λ (z : Together S). z.wake) rest ∙ wake in omega (arith, e))

  -- one is queued
  queue_keeps : (k : ℕ) (t u : Together S) → OthersAreSame k t.members.entries u.members.entries → (u.short ≡ false → u.ready.items ≡ t.ready.items ++ joining (member_at t.members.entries k) k) → (t.short ≡ true → u.short ≡ true)
      → u ≡ record t { members = u.members; ready = u.ready; short = u.short } → KeepsOthers k t u
  queue_keeps k t u others list short rest =
      joined_keeps k t u others list short (ap (λ (z : Together S). z.held) rest) (let e = ap (λ (z : Together S). z.wake) rest in omega (arith, e)) (ap (λ (z : Together S). z.idle) rest)

  -- that one is held was not listed
  pub list_keeps : (k : ℕ) (t u : Together S) → u.held.items ≡ t.held.items → u ≡ record t { held = u.held } → KeepsOthers k t u
  list_keeps k t u list same = kept_by (λ j. j ≡ k → ⊥) t u same refl refl refl (λ j n. ap (λ (z : Together S). member_at z.members.entries j) same)
      (λ j n there. subst (λ ks. Contains ks j) (sym list) there) (let e = ap (λ (z : Together S). z.wake) same in omega (arith, e))

  -- one was ended
  pub ended_keeps : (k : ℕ) (t u : Together S) → OthersAreSame k t.members.entries u.members.entries → u ≡ record t { members = u.members; scales = u.scales; waits = u.waits; line = u.line } → KeepsOthers k t u
  ended_keeps k t u others rest = kept_but (λ j. j ≡ k → ⊥) t u rest refl refl refl refl refl others

  queued_own : (k : ℕ) (t u : Together S) → member_at u.members.entries k ≡ option_map in_queue (member_at t.members.entries k) → (u.short ≡ false → u.ready.items ≡ t.ready.items ++ joining (member_at t.members.entries k) k)
      → KeepsOthers k t u → u ≡ record t { members = u.members; ready = u.ready; short = u.short } → (full dry : S → Type 0) → IfSome (member_at t.members.entries k) (IsKept t k) → IfSome (member_at u.members.entries k) (IsSeenTo full dry u k)
  queued_own k t u at list keeps rest full dry kept = subst (λ o. IfSome o (IsSeenTo full dry u k)) (sym at) (by (member_at t.members.entries k) list kept)
    where
      by : (o : Option (MemberValue S)) → (u.short ≡ false → u.ready.items ≡ t.ready.items ++ joining o k) → IfSome o (IsKept t k) → IfSome (option_map in_queue o) (IsSeenTo full dry u k)
      by None list kept = tt
      by (Some m) list kept = record {
        queued = λ is few. is_in k t.ready.items u.ready.items m.queued (list few) (λ was. kept.queued was (keeps.short few));
        held = λ is. subst (λ (z : Together S). Contains z.held.items k) (sym rest) (kept.held is);
        goes = inl (inl refl);
        wakes = subst (λ (z : Together S). z.wake ≤ unwrap_or (deadline_at m z.idle) 18446744073709551615) (sym rest) kept.wakes;
      }

  -- the first of the queue was taken out of it
  pub first_keeps : {w : Together S} (k : ℕ) (t v : Together S) → OthersAreSame k t.members.entries v.members.entries → v ≡ w → t.ready.items ≡ k ∷ w.ready.items → w.short ≡ t.short → w.held ≡ t.held → w.idle ≡ t.idle → v.wake ≤ t.wake → KeepsOthers k t v
  first_keeps {w} k t v others rest first short held idle wake = record {
    same = others;
    short = λ few. sym (ap (λ (z : Together S). z.short) rest ∙ short) ∙ few;
    ready = λ j n few there. subst (λ (z : Together S). Contains z.ready.items j) (sym rest) (not_first k j w.ready.items n (subst (λ ks. Contains ks j) first there));
    held = λ j n there. subst (λ h. Contains h.items j) (sym (ap (λ (z : Together S). z.held) rest ∙ held)) there;
    wake = wake;
    idle = ap (λ (z : Together S). z.idle) rest ∙ idle;
  }

  -- it had its turn, and this it is then
  pub record HadTurn (k : ℕ) (t v : Together S) (m : MemberValue S) : Type 0 where
    pub keeps : KeepsOthers k t v
    pub held : v.held ≡ t.held
    pub at : member_at v.members.entries k ≡ Some m
    pub queued : m.queued ≡ false
    pub wakes : v.wake ≤ unwrap_or (deadline_at m v.idle) 18446744073709551615

  pub had_turn : {w : Together S} (k : ℕ) (t v : Together S) (m : MemberValue S) → v ≡ w → t.ready.items ≡ k ∷ w.ready.items → w.short ≡ t.short → w.held ≡ t.held → w.idle ≡ t.idle → OthersAreSame k t.members.entries v.members.entries → member_at v.members.entries k ≡ Some m
      → IfSome (member_at v.members.entries k) (λ n. n.queued ≡ false) → IfSome (member_at v.members.entries k) (λ n. v.wake ≡ min t.wake (unwrap_or (deadline_at n t.idle) 18446744073709551615)) → HadTurn k t v m
  had_turn k t v m rest first short held idle others at queued wake = record {
    keeps = first_keeps k t v others rest first short held idle (let e = least in omega (arith, e));
    held = ap (λ (z : Together S). z.held) rest ∙ held;
    at = at;
    queued = subst (λ o. IfSome o (λ n. n.queued ≡ false)) at queued;
    wakes = subst (λ (i : Option ℕ). v.wake ≤ unwrap_or (deadline_at m i) 18446744073709551615) (sym (ap (λ (z : Together S). z.idle) rest ∙ idle)) (let e = least in omega (arith, e));
  }
    where
      least : v.wake ≡ min t.wake (unwrap_or (deadline_at m t.idle) 18446744073709551615)
      least = subst (λ o. IfSome o (λ n. v.wake ≡ min t.wake (unwrap_or (deadline_at n t.idle) 18446744073709551615))) at wake

  -- one that isn't queued, nor held, may be queued
  pub kept_idle : (k : ℕ) (all : Together S) (m : MemberValue S) → member_at all.members.entries k ≡ Some m → m.queued ≡ false → (IsTrue m.held → ⊥) → all.wake ≤ unwrap_or (deadline_at m all.idle) 18446744073709551615 → IfSome (member_at all.members.entries k) (IsKept all k)
  kept_idle k all m at queued held wakes = subst (λ o. IfSome o (IsKept all k)) (sym at) (record {
    queued = λ is few. let c : false ≡ true = sym queued ∙ is in absurd cc;
    held = λ is. absurd (held is);
    wakes = wakes;
  })

  -- so may one after its turn
  pub kept_after : (k : ℕ) (t v : Together S) (m : MemberValue S) (Waits : Type 0) → HadTurn k t v m → IfSome (member_at v.members.entries k) (λ n. IsTrue n.held ↔ Waits) → (Waits → ⊥) → IfSome (member_at v.members.entries k) (IsKept v k)
  kept_after k t v m Waits turn held not = kept_idle k v m turn.at turn.queued (λ is. not ((subst (λ o. IfSome o (λ n. IsTrue n.held ↔ Waits)) turn.at held).0 is)) turn.wakes

  -- one comes in
  pub enter_keeps : (k : ℕ) (t v : Together S) → OthersAreSame k t.members.entries v.members.entries → v ≡ record t { members = v.members; wake = v.wake } → v.wake ≤ t.wake → KeepsOthers k t v
  enter_keeps k t v others rest wake = kept_by (λ j. j ≡ k → ⊥) t v rest refl refl refl others (λ j n there. subst (λ (z : Together S). Contains z.held.items j) (sym rest) there) wake

  module _ (full dry : S → Type 0) where
    still_seen : (of : ℕ → Type 0) (t u : Together S) → KeepsFor of t u → (j : ℕ) → of j → IfSome (member_at t.members.entries j) (IsSeenTo full dry t j) → IfSome (member_at u.members.entries j) (IsSeenTo full dry u j)
    still_seen of t u keeps j n seen = subst (λ o. IfSome o (IsSeenTo full dry u j)) (sym (keeps.same j n)) (by (member_at t.members.entries j) seen)
      where
        by : (o : Option (MemberValue S)) → IfSome o (IsSeenTo full dry t j) → IfSome o (IsSeenTo full dry u j)
        by None h = tt
        by (Some m) h = record {
          queued = λ is few. keeps.ready j n few (h.queued is (keeps.short few));
          held = λ is. keeps.held j n (h.held is);
          goes = h.goes;
          wakes = subst (λ (i : Option ℕ). u.wake ≤ unwrap_or (deadline_at m i) 18446744073709551615) (sym keeps.idle) (let a = h.wakes in let b = keeps.wake in omega (arith, a, b));
        }

    -- all of them are the same
    pub seen_as : (t u : Together S) → KeepsFor (λ j. ⊤) t u → AreSeenTo full dry t → AreSeenTo full dry u
    seen_as t u keeps seen = record {
      each = λ j. still_seen (λ j. ⊤) t u keeps j tt (seen.each j);
      patient = subst (λ o. IfSome o (λ time. 0 < time)) (sym keeps.idle) seen.patient;
    }

    -- all but this one, and this one is seen to
    pub seen_but : (k : ℕ) (t u : Together S) → KeepsOthers k t u → IfSome (member_at u.members.entries k) (IsSeenTo full dry u k) → AreSeenTo full dry t → AreSeenTo full dry u
    seen_but k t u keeps own seen = record { each = λ j. by j (eqb_tells j k); patient = subst (λ o. IfSome o (λ time. 0 < time)) (sym keeps.idle) seen.patient }
      where
        by : (j : ℕ) → ((eqb j k ≡ true) × (j ≡ k)) ⊎ ((eqb j k ≡ false) × (j ≡ k → ⊥)) → IfSome (member_at u.members.entries j) (IsSeenTo full dry u j)
        by j (inl (t, e)) = subst (λ i. IfSome (member_at u.members.entries i) (IsSeenTo full dry u i)) (sym e) own
        by j (inr (f, n)) = still_seen (λ j. j ≡ k → ⊥) t u keeps j n (seen.each j)

    -- it is gone
    pub seen_gone : (k : ℕ) (t u : Together S) → KeepsOthers k t u → member_at u.members.entries k ≡ None → AreSeenTo full dry t → AreSeenTo full dry u
    seen_gone k t u keeps gone = seen_but k t u keeps (subst (λ o. IfSome o (IsSeenTo full dry u k)) (sym gone) tt)

    -- it is queued
    pub seen_queued : (k : ℕ) (t v u : Together S) → KeepsOthers k t v → IfSome (member_at v.members.entries k) (IsKept v k)
        → member_at u.members.entries k ≡ option_map in_queue (member_at v.members.entries k) → OthersAreSame k v.members.entries u.members.entries
        → (u.short ≡ false → u.ready.items ≡ v.ready.items ++ joining (member_at v.members.entries k) k) → (v.short ≡ true → u.short ≡ true)
        → u ≡ record v { members = u.members; ready = u.ready; short = u.short } → AreSeenTo full dry t → AreSeenTo full dry u
    seen_queued k t v u keeps kept at others list short rest =
        let on : KeepsOthers k v u = queue_keeps k v u others list short rest in seen_but k t u (keeps_on (λ j. j ≡ k → ⊥) t v u keeps on) (queued_own k v u at list on rest full dry kept)

    -- the system told something of it
    pub seen_roused : (event : Ready) (k : ℕ) (t v u : Together S) → member_at v.members.entries k ≡ option_map (roused event) (member_at t.members.entries k) → OthersAreSame k t.members.entries v.members.entries → v ≡ record t { members = v.members }
        → member_at u.members.entries k ≡ option_map in_queue (member_at v.members.entries k) → OthersAreSame k v.members.entries u.members.entries
        → (u.short ≡ false → u.ready.items ≡ v.ready.items ++ joining (member_at v.members.entries k) k) → (v.short ≡ true → u.short ≡ true)
        → u ≡ record v { members = u.members; ready = u.ready; short = u.short } → AreSeenTo full dry t → AreSeenTo full dry u
    seen_roused event k t v u woke others same at others' list short rest seen = seen_queued k t v u keeps own at others' list short rest seen
      where
        keeps : KeepsOthers k t v
        keeps = kept_but (λ j. j ≡ k → ⊥) t v same refl refl refl refl refl others

        by : (o : Option (MemberValue S)) → IfSome o (IsSeenTo full dry t k) → IfSome (option_map (roused event) o) (IsKept v k)
        by None h = tt
        by (Some m) h = record {
          queued = λ is few. subst (λ (z : Together S). Contains z.ready.items k) (sym same) (h.queued is (keeps.short few));
          held = λ is. subst (λ (z : Together S). Contains z.held.items k) (sym same) (h.held is);
          wakes = subst (λ (z : Together S). z.wake ≤ unwrap_or (deadline_at m z.idle) 18446744073709551615) (sym same) h.wakes;
        }

        own : IfSome (member_at v.members.entries k) (IsKept v k)
        own = subst (λ o. IfSome o (IsKept v k)) (sym woke) (by (member_at t.members.entries k) (seen.each k))

    -- it was the first of those that are held, and needn't wait any more
    pub seen_let_go : (spoke : ℕ → S → List ℕ → List ℕ → Type 0) (now k : ℕ) (t v u : Together S) → ((j : ℕ) → (j ≡ k → ⊥) → Contains t.held.items j → Contains v.held.items j) → v ≡ record t { held = v.held }
        → IsLetGo spoke now (member_at v.members.entries k) (member_at u.members.entries k) → OthersAreSame k v.members.entries u.members.entries
        → IfSome (member_at u.members.entries k) (λ m. u.wake ≡ min v.wake (unwrap_or (deadline_at m v.idle) 18446744073709551615)) → u.wake ≤ v.wake
        → (u.short ≡ false → u.ready.items ≡ v.ready.items ++ joining (member_at v.members.entries k) k) → (v.short ≡ true → u.short ≡ true)
        → u ≡ record v { members = u.members; ready = u.ready; short = u.short; wake = u.wake } → AreSeenTo full dry t → AreSeenTo full dry u
    seen_let_go spoke now k t v u listed same goes others wake sooner list short rest seen = seen_but k t u (keeps_on (λ j. j ≡ k → ⊥) t v u keeps on) own seen
      where
        keeps : KeepsOthers k t v
        keeps = kept_by (λ j. j ≡ k → ⊥) t v same refl refl refl (λ j n. ap (λ (z : Together S). member_at z.members.entries j) same) listed (let e = ap (λ (z : Together S). z.wake) same in omega (arith, e))

        on : KeepsOthers k v u
        on = joined_keeps k v u others list short (ap (λ (z : Together S). z.held) rest) sooner (ap (λ (z : Together S). z.idle) rest)

        by : (o p : Option (MemberValue S)) → member_at v.members.entries k ≡ o → member_at u.members.entries k ≡ p → IfSome o (IsSeenTo full dry t k) → IsLetGo spoke now o p → IfSome p (IsSeenTo full dry u k)
        by None p was is h none = subst (λ q. IfSome q (IsSeenTo full dry u k)) (sym none) tt
        by (Some m) p was is h (stream, stays, free) = subst (λ q. IfSome q (IsSeenTo full dry u k)) (sym free) (record {
          queued = λ queued few. is_in k v.ready.items u.ready.items m.queued (subst (λ o. u.ready.items ≡ v.ready.items ++ joining o k) was (list few))
              (λ q. subst (λ (z : Together S). Contains z.ready.items k) (sym same) (h.queued q (keeps.short (on.short few))));
          held = λ held. let c : false ≡ true = held in absurd cc;
          goes = inl (inl refl);
          wakes = let e : u.wake ≡ min v.wake (unwrap_or (deadline_at (let_go now stream m) v.idle) 18446744073709551615) = subst (λ q. IfSome q (λ n. u.wake ≡ min v.wake (unwrap_or (deadline_at n v.idle) 18446744073709551615))) (is ∙ free) wake in
              subst (λ (i : Option ℕ). u.wake ≤ unwrap_or (deadline_at (let_go now stream m) i) 18446744073709551615) (sym on.idle) (omega (arith, e));
        })

        own : IfSome (member_at u.members.entries k) (IsSeenTo full dry u k)
        own = by (member_at v.members.entries k) (member_at u.members.entries k) refl refl (subst (λ ms. IfSome (member_at ms k) (IsSeenTo full dry t k)) (sym (ap (λ (z : Together S). z.members.entries) same)) (seen.each k)) goes

    -- nothing of this was changed
    pub seen_same : (t u : Together S) {scales : Scales} {waits : Bool} {retry : ℕ} {line : StatusLine} → u ≡ record t { scales = scales; waits = waits; retry = retry; line = line } → AreSeenTo full dry t → AreSeenTo full dry u
    seen_same t u same = seen_as t u (kept_but (λ j. ⊤) t u same refl refl refl refl refl (λ j h. ap (λ (z : Together S). member_at z.members.entries j) same))

    -- nor were the members
    pub seen_members : (t u : Together S) → ((j : ℕ) → member_at u.members.entries j ≡ member_at t.members.entries j) → u ≡ record t { members = u.members } → AreSeenTo full dry t → AreSeenTo full dry u
    seen_members t u members same = seen_as t u (kept_but (λ j. ⊤) t u same refl refl refl refl refl (λ j h. members j))

    -- after its turn it waits for an event
    pub seen_awaiting : (k : ℕ) (t v : Together S) (m : MemberValue S) (Waits : Type 0) → HadTurn k t v m → IfSome (member_at v.members.entries k) (λ n. IsTrue n.held ↔ Waits) → (Waits → ⊥) → IfSome (member_at v.members.entries k) (AwaitsEvent full dry) → AreSeenTo full dry t → AreSeenTo full dry v
    seen_awaiting k t v m Waits turn held not awaits = seen_but k t v turn.keeps (subst (λ o. IfSome o (IsSeenTo full dry v k)) (sym turn.at) (record {
      queued = λ is few. let c : false ≡ true = sym turn.queued ∙ is in absurd cc;
      held = λ is. absurd (not ((subst (λ o. IfSome o (λ n. IsTrue n.held ↔ Waits)) turn.at held).0 is));
      goes = inr (subst (λ o. IfSome o (AwaitsEvent full dry)) turn.at awaits);
      wakes = turn.wakes;
    }))

    -- or it waits for others, and is listed
    pub seen_held : (k : ℕ) (t v u : Together S) (before m : MemberValue S) (was : Bool) (Waits : Type 0) → HadTurn k t v m → IfSome (member_at v.members.entries k) (λ n. IsTrue n.held ↔ Waits) → Waits
        → member_at t.members.entries k ≡ Some before → IfSome (member_at t.members.entries k) (λ n. was ≡ n.held) → u ≡ record v { held = u.held } → u.held.items ≡ v.held.items ++ (if was then [] else k ∷ []) → AreSeenTo full dry t → AreSeenTo full dry u
    seen_held k t v u before m was Waits turn held waits was_open told same list seen = seen_but k t u (keeps_on (λ j. j ≡ k → ⊥) t v u turn.keeps on) own seen
      where
        on : KeepsOthers k v u
        on = kept_by (λ j. j ≡ k → ⊥) v u same refl refl refl (λ j n. ap (λ (z : Together S). member_at z.members.entries j) same)
            (λ j n there. subst (λ ks. Contains ks j) (sym list) (Contains-append_left v.held.items (if was then [] else k ∷ []) j there)) (let e = ap (λ (z : Together S). z.wake) same in omega (arith, e))

        first : IsSeenTo full dry t k before
        first = subst (λ o. IfSome o (IsSeenTo full dry t k)) was_open (seen.each k)

        listed : was ≡ true → Contains v.held.items k
        listed is = subst (λ h. Contains h.items k) (sym turn.held) (first.held (sym (subst (λ o. IfSome o (λ n. was ≡ n.held)) was_open told) ∙ is))

        own : IfSome (member_at u.members.entries k) (IsSeenTo full dry u k)
        own = subst (λ (z : Together S). IfSome (member_at z.members.entries k) (IsSeenTo full dry u k)) (sym same) (subst (λ o. IfSome o (IsSeenTo full dry u k)) (sym turn.at) (record {
          queued = λ is few. let c : false ≡ true = sym turn.queued ∙ is in absurd cc;
          held = λ is. is_in k v.held.items u.held.items was list listed;
          goes = inl (inr ((subst (λ o. IfSome o (λ n. IsTrue n.held ↔ Waits)) turn.at held).1 waits));
          wakes = subst (λ (z : Together S). z.wake ≤ unwrap_or (deadline_at m z.idle) 18446744073709551615) (sym same) turn.wakes;
        }))

    -- the next wake is another
    pub seen_wake : (t : Together S) (wake : ℕ) → ((k : ℕ) → IfSome (member_at t.members.entries k) (λ m. wake ≤ unwrap_or (deadline_at m t.idle) 18446744073709551615)) → AreSeenTo full dry t → AreSeenTo full dry (record t { wake = wake })
    seen_wake t wake sooner seen = record { each = λ k. by k (member_at t.members.entries k) (sooner k) (seen.each k); patient = seen.patient }
      where
        by : (k : ℕ) (o : Option (MemberValue S)) → IfSome o (λ m. wake ≤ unwrap_or (deadline_at m t.idle) 18446744073709551615) → IfSome o (IsSeenTo full dry t k) → IfSome o (IsSeenTo full dry (record t { wake = wake }) k)
        by k None w h = tt
        by k (Some m) w h = record { queued = h.queued; held = h.held; goes = h.goes; wakes = w }
