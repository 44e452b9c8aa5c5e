-- To unpin a result, in the stores and in the machine.
use Rattle.std.proofs.Common.{◌≡◌, ℕ, ◌+◌, ◌-◌, ◌<◌, ◌≤◌, Bool, true, false, cond, ◌&&◌, ◌||◌, nat_lt, List, [], ◌∷◌, map, bytes_eq, Option, Some, None, is_some, is_none, option_map, refl, ap, sym, ◌∙◌, subst, arith}
use Rattle.std.specs.Prelude.{Result, Ok, Err, OnOk, OnErr, IsSome, IsSomeAnd}
use Rattle.std.specs.List.{filter, list_all, AllByRecursion, IsDistinct}
use Rattle.std.specs.Option.{option_map_or}
use Rattle.std.specs.Map.{keys_of, lookup}
use Rattle.std.specs.Cmp.Lexicographic.{nat_list_eq_equiv}
use Rattle.std.proofs.lemmas.Bool.Decides.{nat_tests}
use Rattle.eviction.specs.Kept.{Held, is_pinned}
use Rattle.eviction.specs.Pinning.{repinned, is_among, pins_of, one_less, all_pinned}
use Rattle.eviction.proofs.Repins.{repinned_same}
use Rattle.action_cache.specs.References.{Reader, refers, is_complete, first_fault, outputs_of}
use Rattle.action_cache.specs.Machine.{CacheState, Answer, Marked, done, refused, not_pinned, under, unpin, unpinned_now, with_results, marked}
use Rattle.action_cache.specs.Tied.{how_many, marks, found_in, IsTied}
use Rattle.action_cache.specs.State.{state_of}
use Rattle.action_cache.proofs.Pins.{toggled_down, unpin_tied, plain-repinned}

-- a call that can't be refused has done what it does
pub settled : {X E : Type 0} (r : Result X E) (P : Type 0) (b : Bool) → OnOk r P → OnErr r (b ≡ false) → b ≡ true → P
settled (Ok x) P b p q t = p
settled (Err e) P b p q t = absurd cc

-- what holds of each that is among the keys holds of all
pub all_among : (p : List ℕ → Bool) (ks : List (List ℕ)) → ((k : List ℕ) → is_among bytes_eq ks k ≡ true → p k ≡ true) → list_all p ks ≡ true
all_among p [] on = refl
all_among p (k ∷ ks) on =
    (λ i. on k ((λ j. nat_list_eq_equiv.refl k j || is_among bytes_eq ks k)) i && all_among p ks (λ j a. on j (later (bytes_eq k j) (is_among bytes_eq ks j) a)) i)
  where
    later : (a b : Bool) → b ≡ true → (a || b) ≡ true
    later true b h = refl
    later false b h = h

-- the mark of an entry
abbrev pub mark : Held → Marked
mark x = record { bytes = x.bytes; pinned = nat_lt 0 x.pins }

pub under-marks : (h : List ℕ) (es : List (List ℕ × Held)) → under h (marks es) ≡ option_map mark (lookup (bytes_eq h) es)
under-marks h [] = refl
under-marks h (e ∷ es) = elim (bytes_eq h e.0) as (λ b. cond b (Some (mark e.1)) (under h (marks es)) ≡ option_map mark (cond b (Some e.1) (lookup (bytes_eq h) es)))
    [ true ↦ refl | false ↦ under-marks h es ]

pub once_of : (h : List ℕ) (es : List (List ℕ × Held)) (v : Held) → lookup (bytes_eq h) es ≡ Some v → AllByRecursion (λ r. r.1.pins ≤ 1) es → v.pins ≤ 1
once_of h [] v e a = absurd cc
once_of h (x ∷ es) v e a = (elim (bytes_eq h x.0) as (λ b. bytes_eq h x.0 ≡ b → v.pins ≤ 1) [
  | true ↦ λ t. let e' = rw t at e in let same : x.1 ≡ v = cc in subst (λ (y : Held). y.pins ≤ 1) same a.0
  | false ↦ λ t. once_of h es v (rw t at e) a.1
]) refl

-- the marks after one was taken off
pub marks-less : (h : List ℕ) (es : List (List ℕ × Held)) → AllByRecursion (λ r. r.1.pins ≤ 1) es
    → map (λ (r : List ℕ × Marked). (r.0, let m : Marked = record { bytes = r.1.bytes; pinned = cond (bytes_eq h r.0) false r.1.pinned } in m)) (marks es) ≡ marks (repinned (λ k n. cond (bytes_eq h k) (n - 1) n) es)
marks-less h [] a = refl
marks-less h (e ∷ es) a = λ i. (e.0, record { bytes = e.1.bytes; pinned = less (bytes_eq h e.0) e.1.pins a.0 i }) ∷ marks-less h es a.1 i
  where
    less : (b : Bool) (n : ℕ) → n ≤ 1 → cond b false (nat_lt 0 n) ≡ nat_lt 0 (cond b (n - 1) n)
    less true n l = grind (arith, nat_tests)
    less false n l = refl

one_key : (h : List ℕ) (es : List (List ℕ × Held)) → repinned (one_less bytes_eq (h ∷ [])) es ≡ repinned (λ k n. cond (bytes_eq h k) (n - 1) n) es
one_key h es = repinned_same (one_less bytes_eq (h ∷ [])) (λ k n. cond (bytes_eq h k) (n - 1) n) (λ k n. or_false (bytes_eq h k) n) es
  where
    or_false : (b : Bool) (n : ℕ) → cond (b || false) (n - 1) n ≡ cond b (n - 1) n
    or_false true n = refl
    or_false false n = refl

module _ (reader : Reader) (limit rl : ℕ) (blobs results : List (List ℕ × Held)) (d : IsDistinct bytes_eq (keys_of results)) (tied : IsTied reader blobs results) (h : List ℕ) (v : Held) (held : lookup (bytes_eq h) results ≡ Some v) where
  abbrev st : CacheState
  st = state_of limit rl blobs results

  module _ (pinned : 0 < v.pins) where
    one : v.pins ≡ 1
    one = let most = once_of h results v held tied.once in omega arith

    -- a pinned result was read and found complete when it was pinned
    pub was_complete : is_complete (found_in blobs) reader v.bytes ≡ true
    was_complete = (toggled_down (λ _. true) (λ bytes. is_complete (found_in blobs) reader bytes ≡ true) h results v d held one).here tied.complete

    pub was_read : is_some (reader.outputs v.bytes) ≡ false → ⊥
    was_read none = read_once (is_some (reader.outputs v.bytes)) (is_none (first_fault (found_in blobs) reader (outputs_of reader v.bytes))) was_complete none
      where
        read_once : (a b : Bool) → (a && b) ≡ true → a ≡ false → ⊥
        read_once true b t f = cc
        read_once false b t f = cc

    module _ (ks : List (List ℕ)) (names : (b : List ℕ) → is_among bytes_eq ks b ≡ refers (found_in blobs) reader v.bytes b) where
      counted : (b : List ℕ) → is_among bytes_eq ks b ≡ true → 0 < pins_of bytes_eq blobs b
      counted b a =
          let down = toggled_down (λ bytes. refers (found_in blobs) reader bytes b) (λ _. Unit {0}) h results v d held one in
          more (refers (found_in blobs) reader v.bytes b) (pins_of bytes_eq blobs b) (how_many (λ (r : List ℕ × Held). refers (found_in blobs) reader r.1.bytes b) (filter is_pinned (repinned (λ k n. cond (bytes_eq h k) (n - 1) n) results))) (sym (names b) ∙ a) (tied.counts b ∙ down.more)
        where
          more : (y : Bool) (p n : ℕ) → y ≡ true → p ≡ cond y 1 0 + n → 0 < p
          more true p n t e = omega arith
          more false p n t e = absurd cc

      pub all_counted : all_pinned bytes_eq blobs ks ≡ true
      all_counted = all_among (λ k. nat_lt 0 (pins_of bytes_eq blobs k)) ks (λ k a. above (pins_of bytes_eq blobs k) (counted k a))
        where
          above : (n : ℕ) → 0 < n → nat_lt 0 n ≡ true
          above n p = grind (arith, nat_tests)

      pub result_pinned : all_pinned bytes_eq results (h ∷ []) ≡ true
      result_pinned = ap (λ o. nat_lt 0 (option_map_or (λ (x : Held). x.pins) o 0) && true) held ∙ (λ i. nat_lt 0 (one i) && true)

      pub still_tied : IsTied reader (repinned (one_less bytes_eq ks) blobs) (repinned (one_less bytes_eq (h ∷ [])) results)
      still_tied = subst (IsTied reader (repinned (one_less bytes_eq ks) blobs)) (sym (one_key h results)) (unpin_tied reader blobs results ks h v d held names one counted tied)

      pub unpinned : unpin reader st h ≡ (done, state_of limit rl (repinned (one_less bytes_eq ks) blobs) (repinned (one_less bytes_eq (h ∷ [])) results))
      unpinned =
          ap (unpinned_now reader st h) (under-marks h results ∙ ap (option_map mark) held)
          ∙ (λ i. cond (nat_lt 0 (one i)) (done, with_results reader st (marked reader st false h)) (refused not_pinned, st))
          ∙ (λ i. (done, let s : CacheState = record { blobs = sym (plain-repinned (one_less bytes_eq ks) blobs) i; results = (marks-less h results tied.once ∙ ap marks (sym (one_key h results))) i; limit = limit; result_limit = rl } in s))

-- an entry that is pinned
pub pinned_entry : (o : Option Held) → 0 < option_map_or (λ (x : Held). x.pins) o 0 → (v : Held) × (o ≡ Some v) × (0 < v.pins)
pinned_entry None p = absurd (omega arith)
pinned_entry (Some v) p = (v, refl, p)

-- what is marked as pinned is unpinned
pub unpins : (reader : Reader) (limit rl : ℕ) (blobs results : List (List ℕ × Held)) (h : List ℕ) (v : Held) → lookup (bytes_eq h) results ≡ Some v → 0 < v.pins → (unpin reader (state_of limit rl blobs results) h).0 ≡ done
unpins reader limit rl blobs results h v held pinned =
    let st = state_of limit rl blobs results in
    ap (λ (o : Option Marked). (unpinned_now reader st h o).0) (under-marks h results ∙ ap (option_map mark) held) ∙ by_mark (nat_lt 0 v.pins) (above v.pins pinned)
  where
    above : (n : ℕ) → 0 < n → nat_lt 0 n ≡ true
    above n p = grind (arith, nat_tests)

    by_mark : (b : Bool) → b ≡ true → (cond {A = Answer × CacheState} b (done, with_results reader (state_of limit rl blobs results) (marked reader (state_of limit rl blobs results) false h)) (refused not_pinned, state_of limit rl blobs results)).0 ≡ done
    by_mark true t = refl
    by_mark false t = absurd cc

-- a result that is held, and one that isn't pinned
pub held_under : (h : List ℕ) (es : List (List ℕ × Held)) (v : Held) → lookup (bytes_eq h) es ≡ Some v → IsSome (under h (marks es))
held_under h es v held = subst (λ (o : Option Marked). IsSome o) (sym (under-marks h es ∙ ap (option_map mark) held)) refl

pub unmarked : (h : List ℕ) (es : List (List ℕ × Held)) (v : Held) → lookup (bytes_eq h) es ≡ Some v → v.pins ≡ 0 → IsSomeAnd (under h (marks es)) (λ r. r.pinned ≡ false)
unmarked h es v held none = subst (λ (o : Option Marked). IsSomeAnd o (λ r. r.pinned ≡ false)) (sym (under-marks h es ∙ ap (option_map mark) held)) (ap (nat_lt 0) none)

-- an entry with these bytes
pub find_entry : (o : Option Held) (b : List ℕ) → Some b ≡ option_map (λ (x : Held). x.bytes) o → (v : Held) × (o ≡ Some v) × (v.bytes ≡ b)
find_entry None b e = absurd cc
find_entry (Some v) b e = (v, refl, (let same : v.bytes ≡ b = cc in same))

pub no_pins : (reader : Reader) (limit rl : ℕ) (blobs results : List (List ℕ × Held)) (h : List ℕ) → pins_of bytes_eq results h ≡ 0
    → unpin reader (state_of limit rl blobs results) h ≡ (refused not_pinned, state_of limit rl blobs results)
no_pins reader limit rl blobs results h none = ap (unpinned_now reader (state_of limit rl blobs results) h) (under-marks h results) ∙ by_entry (lookup (bytes_eq h) results) none
  where
    by_entry : (o : Option Held) → option_map_or (λ (x : Held). x.pins) o 0 ≡ 0 → unpinned_now reader (state_of limit rl blobs results) h (option_map mark o) ≡ (refused not_pinned, state_of limit rl blobs results)
    by_entry None e = refl
    by_entry (Some v) e = λ i. cond (nat_lt 0 (e i)) (done, with_results reader (state_of limit rl blobs results) (marked reader (state_of limit rl blobs results) false h)) (refused not_pinned, state_of limit rl blobs results)

-- a count that is told is that of the entry
pub pins_found : (es : List (List ℕ × Held)) (h : List ℕ) (v : Held) (n : ℕ) → lookup (bytes_eq h) es ≡ Some v → n ≡ pins_of bytes_eq es h → n ≡ v.pins
pins_found es h v n e told = told ∙ ap (λ o. option_map_or (λ (x : Held). x.pins) o 0) e

pub one_distinct : (h : List ℕ) → IsDistinct bytes_eq (h ∷ [])
unfolding IsDistinct
one_distinct h = (tt, tt)
