-- What a watcher is told.
use Rattle.std.proofs.Common.{suc, ◌≡◌, ◌+◌, ℕ, List, [], ◌∷◌, ◌++◌, append_assoc, append-nil, length, length-append, Option, Some, None, refl, ap, sym, ◌∙◌, subst, arith}
use Rattle.blob_source.specs.Sink.{KeepsRight}
use Rattle.blob_source.specs.Source.{Telling}
use Rattle.runs.specs.Engine.{EngineValue}
use Rattle.worker.specs.declared.watching.Progress.{Progress}
use Rattle.worker.specs.Calls.{Call, AreTurns, IsLed, PutsOf}
use Rattle.worker.specs.Outcomes.{Yields}
use Rattle.worker.specs.Watching.{Hears, AreAfterTurns, IsWatched, IsProgressOf, IsProgress, turns_in}
use Rattle.worker.proofs.Joins.{turns_join}
use Rattle.worker.proofs.Goes.{puts_kept, puts_moved}
use Rattle.worker.proofs.Keeping.{kept_none, right_trans}

hears_none : (a : Option (List Progress)) → Hears a a []
hears_none None = tt
hears_none (Some ps) = sym (append-nil ps)

hears_more : (a b c : Option (List Progress)) (ps qs : List Progress) → Hears a b ps → Hears b c qs → Hears a c (ps ++ qs)
hears_more None b c ps qs f g = tt
hears_more (Some xs) None c ps qs f g = absurd f
hears_more (Some xs) (Some ys) None ps qs f g = absurd g
hears_more (Some xs) (Some ys) (Some zs) ps qs f g = g ∙ ap (λ l. l ++ qs) f ∙ append_assoc xs ps qs

all_more : (Is : ℕ → Progress → Type 0) (n m : ℕ) (ps : List Progress) (p : Progress) → m ≡ suc (n + length ps) → AreAfterTurns Is n ps → Is m p → AreAfterTurns Is n (ps ++ p ∷ [])
all_more Is n m [] p is h one = (subst (λ k. Is k p) (omega (arith, is)) one, tt)
all_more Is n m (q ∷ ps) p is h one = (h.0, all_more Is (suc n) m ps p (omega (arith, is)) h.1 one)

pub all_so : (Is So : ℕ → Progress → Type 0) → ((n : ℕ) (p : Progress) → Is n p → So n p) → (n : ℕ) (ps : List Progress) → AreAfterTurns Is n ps → AreAfterTurns So n ps
all_so Is So follows n [] h = tt
all_so Is So follows n (p ∷ ps) h = (follows (suc n) p h.0, all_so Is So follows (suc n) ps h.1)

module _ (A : Type 0) (y : Yields) (most : ℕ) (first : EngineValue) where
  -- ---- as more is put

  -- more calls follow
  progress_moved : (t u : Telling) (calls all more : List Call) → all ≡ calls ++ more → PutsOf more t u → KeepsRight t.blobs u.blobs → (n : ℕ) (p : Progress) → IsProgress A y t most first calls n p → IsProgress A y u most first all n p
  progress_moved t u calls all more are m keeps n p h = record {
    told = h.told;
    now = h.now;
    led = h.led;
    whole = h.whole;
    count = h.count;
    is = h.is;
    later = h.later ++ more;
    rest = sym (append_assoc h.led.calls h.later more) ∙ ap (λ cs. cs ++ more) h.rest ∙ sym are;
    since = puts_moved h.told t u h.later more h.since m;
    still = right_trans h.still keeps;
  }

  pub watched_moved : {n : ℕ} {a b : Option (List Progress)} (t u : Telling) (calls all more : List Call) → all ≡ calls ++ more → PutsOf more t u → KeepsRight t.blobs u.blobs → IsWatched (IsProgress A y t most first calls) n a b → IsWatched (IsProgress A y u most first all) n a b
  watched_moved {n} {a} {b} t u calls all more are m keeps w = record {
    told = w.told;
    heard = w.heard;
    count = w.count;
    each = all_so (IsProgress A y t most first calls) (IsProgress A y u most first all) (progress_moved t u calls all more are m keeps) 0 w.told w.each;
  }

  -- ---- while turns are taken

  pub heard_none : (t : Telling) (a : Option (List Progress)) → IsWatched (IsProgress A y t most first []) 0 a a
  heard_none t a = record { told = []; heard = hears_none a; count = refl; each = tt }

  pub heard_more : (t u : Telling) (now : EngineValue) (calls more : List Call) (a b c : Option (List Progress)) (p : Progress) → IsWatched (IsProgress A y t most first calls) (turns_in calls) a b → turns_in more ≡ 1 → PutsOf more t u → KeepsRight t.blobs u.blobs → Hears b c (p ∷ [])
      → (led : IsLed A y u most first now) → led.calls ≡ calls ++ more → AreTurns led.calls → IsProgressOf led.calls now p → IsWatched (IsProgress A y u most first led.calls) (turns_in led.calls) a c
  unfolding watched_moved
  heard_more t u now calls more a b c p h one m keeps heard led are whole is =
      let w = watched_moved t u calls led.calls more are m keeps h in
      let q : IsProgress A y u most first led.calls (turns_in led.calls) p = record { told = u; now = now; led = led; whole = whole; count = refl; is = is; later = []; rest = append-nil led.calls; since = puts_kept kept_none; still = λ e b at right. at } in
      let count : turns_in led.calls ≡ suc (length h.told) = ap turns_in are ∙ (let all = turns_join calls more in let was = h.count in omega (arith, all, was, one)) in
      record {
        told = h.told ++ p ∷ [];
        heard = hears_more a b c h.told (p ∷ []) h.heard heard;
        count = (let n = length-append h.told (p ∷ []) in let all = count in omega (arith, n, all));
        each = all_more (IsProgress A y u most first led.calls) 0 (turns_in led.calls) h.told p (let n = count in omega (arith, n)) w.each q;
      }
