-- Accepts that fail, one after another, and connections that fail.
use Rattle.std.proofs.Common.{◌≡◌, ℕ, zero, suc, ◌+◌, ◌⊎◌, inl, inr, [], List, ◌++◌, subst, arith, Option, Some, Result, Ok, Err, IfErr, IfOk, OnOk}
use Rattle.std.specs.Prelude.{MatchResult, OnErr}
use Rattle.cache_server.specs.Cache.{CacheValue}
use Rattle.cache_server.specs.Connection.{BreaksOff, IsFoundBy, Runs}
use Rattle.cache_server.specs.declared.error.ConnError.{ConnError}
use Rattle.cache_server.specs.declared.error.ConnError.TheVariants.{ReadFault, WriteFault, Memory}
use Rattle.cache_server.proofs.Connections.{runs_none}
use Rattle.service.specs.Sockets.{Why}
use Rattle.service.specs.Turns.{CountsOn, EndsAtOnce, FailsAfter, LedByStream, LedByStreams, LosesAs, ServesInTurn, ServesNext, no_stream, next_stream}
use Rattle.service.specs.Turns as turns

pub fails_none : {L : Type 0} (failed : L → ℕ → Type 0) (l : L) → FailsAfter failed 0 0 l l
fails_none failed l = λ n is. let e : n ≡ n + 0 = omega arith in subst (failed l) e is

-- none has failed since the last connection
pub fails_anew : {L : Type 0} (failed : L → ℕ → Type 0) (number : ℕ) (old new : L) → failed new 0 → FailsAfter failed (number + 1) 0 old new
fails_anew failed number old new none = let e : suc number ≡ number + 1 = omega arith in subst (λ k. FailsAfter failed k 0 old new) e none

-- so many more have failed
pub fails_on : {L : Type 0} (failed : L → ℕ → Type 0) (number tries more : ℕ) (old mid new : L) → FailsAfter failed number tries old mid → FailsAfter failed 0 more mid new → FailsAfter failed number (tries + more) old new
fails_on failed zero tries more old mid new p q = λ n is. let e : (n + tries) + more ≡ n + (tries + more) = omega arith in subst (failed new) e (q (n + tries) (p n is))
fails_on failed (suc number) tries more old mid new p q = q tries p

-- a fault of what was read from or written to is the connection's
pub fault_lost : {T : Type 0} (r : Result T ConnError) (reader writer : Type 0) (lost : ConnError → Type 0) → LosesAs reader writer lost
    → IfErr r (IsFoundBy reader writer) → IfErr r (IsFoundBy (lost ReadFault) (lost WriteFault))
fault_lost (Ok done) reader writer lost l f = tt
fault_lost (Err ReadFault) reader writer lost l f = l.reading f
fault_lost (Err WriteFault) reader writer lost l f = l.writing f
fault_lost (Err Memory) reader writer lost l f = tt

-- what was written was sent on, unless the writer failed
pub sends_on : {T : Type 0} (r : Result T ConnError) (reader writer old new sent : Type 0) (lost : ConnError → Type 0) → LosesAs reader writer lost
    → old → (new → sent) → OnOk r (old → new) → OnErr r (writer ⊎ (old → new)) → lost WriteFault ⊎ sent
sends_on (Ok done) reader writer old new sent lost l was on ok err = inr (on (ok was))
sends_on (Err e) reader writer old new sent lost l was on ok (inl b) = inl (l.writing b)
sends_on (Err e) reader writer old new sent lost l was on ok (inr f) = inr (on (f was))

-- ---- how many were accepted, and how many have ended

counted_at : {L : Type 0} (counts : L → ℕ → ℕ → Type 0) (l : L) (a b c d : ℕ) → a ≡ c → b ≡ d → counts l a b → counts l c d
counted_at counts l a b c d e f is = subst (λ n. counts l n d) e (subst (counts l a) f is)

pub counts_none : {L : Type 0} (counts : L → ℕ → ℕ → Type 0) (l : L) → CountsOn counts 0 0 l l
counts_none counts l = λ n m is. counted_at counts l n m (n + 0) (m + 0) (omega arith) (omega arith) is

pub counts_further : {L : Type 0} (counts : L → ℕ → ℕ → Type 0) (a b c d : ℕ) (old mid new : L) → CountsOn counts a b old mid → CountsOn counts c d mid new → CountsOn counts (a + c) (b + d) old new
counts_further counts a b c d old mid new p q = λ n m is. counted_at counts new ((n + a) + c) ((m + b) + d) (n + (a + c)) (m + (b + d)) (omega arith) (omega arith) (q (n + a) (m + b) (p n m is))

-- one that was accepted has ended, then or later
pub counts_one : {L T E : Type 0} (counts : L → ℕ → ℕ → Type 0) (r : Result T E) (old mid new : L) → OnOk r (CountsOn counts 1 0 old mid) → OnErr r (CountsOn counts 1 1 old mid)
    → OnOk r (CountsOn counts 0 1 mid new) → OnErr r (CountsOn counts 0 0 mid new) → CountsOn counts 1 1 old new
counts_one counts (Ok x) old mid new a b c d = counts_further counts 1 0 0 1 old mid new a c
counts_one counts (Err e) old mid new a b c d = counts_further counts 1 1 0 0 old mid new b d

not_writer : (reader : Type 0) (why : ConnError) → IsFoundBy reader ⊥ why → why ≡ WriteFault → ⊥
not_writer reader ReadFault f e = cc
not_writer reader WriteFault f e = f
not_writer reader Memory f e = cc

found_at_once : (reader writer : Type 0) (why : ConnError) → IsFoundBy reader ⊥ why → IsFoundBy reader writer why
found_at_once reader writer ReadFault f = f
found_at_once reader writer WriteFault f = absurd f
found_at_once reader writer Memory f = tt

-- one that ended as it was accepted did nothing
pub serves_none : (opened : ℕ → Option (List ℕ) → Option (List ℕ) → Type 0) (ended : ℕ → Option (List ℕ) → Option (List ℕ) → Why → Type 0) (lost : ℕ → ConnError → Type 0) (sent : ℕ → Type 0)
    (prefix : List ℕ) (number : ℕ) (cache : CacheValue) (why : ConnError) → EndsAtOnce opened ended lost sent number why → ServesNext opened ended lost sent prefix number cache cache
serves_none opened ended lost sent prefix number cache why e = record {
  input = e.input;
  left = e.input;
  before = e.before;
  after = e.before;
  why = Err why;
  opens = e.opens;
  ends = e.ends;
  ran = runs_none prefix cache e.input e.before why (not_writer (lost number ReadFault) why e.found);
  found = found_at_once (lost number ReadFault) (lost number WriteFault) why e.found;
  sent_on = inr e.sent_on;
}

-- ---- whatever is said of the connections themselves

pub if_ok : {T E : Type 0} {P Q : T → Type 0} (r : Result T E) → ((x : T) → P x → Q x) → IfOk r P → IfOk r Q
if_ok (Ok x) f h = f x h
if_ok (Err e) f h = h

pub on_err : {T E P Q : Type 0} (r : Result T E) → (P → Q) → OnErr r P → OnErr r Q
on_err (Ok x) f h = h
on_err (Err e) f h = f h

pub on_ok : {T E P Q : Type 0} (r : Result T E) → (P → Q) → OnOk r P → OnOk r Q
on_ok (Ok x) f h = f h
on_ok (Err e) f h = h

pub if_err : {T E : Type 0} {P Q : E → Type 0} (r : Result T E) → ((e : E) → P e → Q e) → IfErr r P → IfErr r Q
if_err (Ok x) f h = h
if_err (Err e) f h = f e h

led_by_run : (prefix : List ℕ) (old : CacheValue) (input left before after : Option (List ℕ)) (new : CacheValue) (why : Why)
    → MatchResult why (λ _. Runs prefix old input left before after new) (BreaksOff prefix old input left before after new) → LedByStream prefix old new
led_by_run prefix old input left before after new (Ok done) (rest, runs, end) = (runs.front, runs.told ++ [], rest, runs.answered)
led_by_run prefix old input left before after new (Err ReadFault) (begun, runs) = (runs.front, runs.told ++ [], Some begun, runs.answered)
led_by_run prefix old input left before after new (Err WriteFault) (rest, lost, begun, runs, all_but) = (runs.front, runs.told ++ lost, begun, runs.answered)
led_by_run prefix old input left before after new (Err Memory) (rest, begun, runs, short) = (runs.front, runs.told ++ [], Some begun, runs.answered)

pub led_by_streams : (opened : ℕ → Option (List ℕ) → Option (List ℕ) → Type 0) (ended : ℕ → Option (List ℕ) → Option (List ℕ) → Why → Type 0) (lost : ℕ → ConnError → Type 0) (sent : ℕ → Type 0)
    (prefix : List ℕ) (opening : CacheValue) (count : ℕ) (new : CacheValue) → ServesInTurn opened ended lost sent prefix opening count new → LedByStreams prefix opening count new
led_by_streams opened ended lost sent prefix opening _ _ turns.none = no_stream
led_by_streams opened ended lost sent prefix opening _ _ (turns.next count old new earlier last) =
    next_stream count old new (led_by_streams opened ended lost sent prefix opening count old earlier)
    (led_by_run prefix old last.input last.left last.before last.after new last.why last.ran)
