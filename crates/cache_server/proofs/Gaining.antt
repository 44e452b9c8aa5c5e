-- What an entry adds to a history.
use Rattle.std.proofs.Common.{◌≡◌, ℕ, ◌==◌, true, false, Option, List, [], ◌∷◌, ◌++◌, if◌then◌else◌, refl, sym, ◌∙◌, ap, subst, append_assoc, arith}
use Rattle.std.proofs.lemmas.List.{append-nil}
use Rattle.http_core.specs.Event.{EventValue}
use Rattle.http_core.specs.Stream.{Cuts}
use Rattle.cache_server.specs.Cache.{CacheValue}
use Rattle.cache_server.specs.History.{HistoryEntry, Piece, Fail, End, is_end, is_fail, bytes_over, stream_of, has_failed, GainsEvents, Brings, BringsAll, CacheAfter, AnswersTo}
use Rattle.cache_server.proofs.Histories.{stream_more}
use Rattle.cache_server.proofs.Serving.{ServesAll, serves_join}

pub completes_more : (prefix : List ℕ) (before history : List HistoryEntry) (entry : HistoryEntry) (events first : List EventValue)
    → BringsAll prefix before history events → Brings prefix (before ++ history) entry first → BringsAll prefix before (history ++ entry ∷ []) (events ++ first)
unfolding BringsAll
completes_more prefix before [] entry events first e c =
    (first, [], subst (λ z. Brings prefix z entry first) (append-nil before) c, refl, ap (λ z. z ++ first) e ∙ sym (append-nil first))
completes_more prefix before (item ∷ history) entry events first (own, others, one, rest, e) c =
    (own, others ++ first, one, completes_more prefix (before ++ item ∷ []) history entry others first rest (subst (λ z. Brings prefix z entry first) (sym (append_assoc before (item ∷ []) history)) c), ap (λ z. z ++ first) e ∙ append_assoc own others first)

pub cache_more : (prefix : List ℕ) (opening before after : CacheValue) (history : List HistoryEntry) (entry : HistoryEntry) (events : List EventValue) (text : List ℕ)
    → CacheAfter prefix opening history before → Brings prefix history entry events → ServesAll before events text after → CacheAfter prefix opening (history ++ entry ∷ []) after
unfolding CacheAfter
cache_more prefix opening before after history entry events text (earlier, told, all, served) c s =
    (earlier ++ events, told ++ text, completes_more prefix [] history entry earlier events all c, serves_join opening before after earlier events told text served s)

pub answers_are : (prefix : List ℕ) (opening before after : CacheValue) (history : List HistoryEntry) (entry : HistoryEntry) (events : List EventValue) (text : List ℕ)
    → CacheAfter prefix opening history before → Brings prefix history entry events → ServesAll before events text after → AnswersTo prefix opening history entry text
unfolding AnswersTo
answers_are prefix opening before after history entry events text b c s = (events, before, after, b, c, s)

same_key : (k : ℕ) → (k == k) ≡ true
same_key k = grind arith

other_key : (j k : ℕ) → (j ≡ k → ⊥) → (j == k) ≡ false
other_key j k h = grind arith

pub own_bytes : (k : ℕ) (bytes : List ℕ) → bytes_over k (Piece k bytes) ≡ bytes
own_bytes k bytes = ap (λ b. if b then bytes else []) (same_key k)

pub other_bytes : (j k : ℕ) (bytes : List ℕ) → (j ≡ k → ⊥) → bytes_over j (Piece k bytes) ≡ []
other_bytes j k bytes h = ap (λ b. if b then bytes else []) (other_key j k h)

pub own_fail : (k : ℕ) → is_fail k (Fail k) ≡ true
own_fail k = same_key k

pub other_fail : (j k : ℕ) → (j ≡ k → ⊥) → is_fail j (Fail k) ≡ false
other_fail j k h = other_key j k h

pub own_end : (k : ℕ) → is_end k (End k) ≡ true
own_end k = same_key k

pub other_end : (j k : ℕ) → (j ≡ k → ⊥) → is_end j (End k) ≡ false
other_end j k h = other_key j k h

pub stream_open : (k : ℕ) (history : List HistoryEntry) (bytes : List ℕ) → has_failed k history ≡ false → stream_of k (history ++ Piece k bytes ∷ []) ≡ stream_of k history ++ bytes
stream_open k history bytes open_ =
    stream_more k history (Piece k bytes) refl ∙ ap (λ b. if b then stream_of k history else stream_of k history ++ bytes_over k (Piece k bytes)) open_ ∙ ap (λ z. stream_of k history ++ z) (own_bytes k bytes)

pub stream_shut : (k : ℕ) (history : List HistoryEntry) (bytes : List ℕ) → has_failed k history ≡ true → stream_of k (history ++ Piece k bytes ∷ []) ≡ stream_of k history
stream_shut k history bytes shut =
    stream_more k history (Piece k bytes) refl ∙ ap (λ b. if b then stream_of k history else stream_of k history ++ bytes_over k (Piece k bytes)) shut

pub gains_open : (prefix : List ℕ) (k : ℕ) (history : List HistoryEntry) (bytes : List ℕ) (earlier events : List EventValue) (a b : Option (List ℕ))
    → has_failed k history ≡ false → Cuts prefix (stream_of k history) earlier a → Cuts prefix (stream_of k history ++ bytes) (earlier ++ events) b
    → GainsEvents prefix k history (Piece k bytes) events
gains_open prefix k history bytes earlier events a b open_ c d = (earlier, a, b, c, subst (λ z. Cuts prefix z (earlier ++ events) b) (sym (stream_open k history bytes open_)) d)

-- a piece that adds nothing
pub gains_none : (prefix : List ℕ) (k : ℕ) (history : List HistoryEntry) (bytes : List ℕ) (earlier : List EventValue) (a : Option (List ℕ))
    → stream_of k (history ++ Piece k bytes ∷ []) ≡ stream_of k history → Cuts prefix (stream_of k history) earlier a → GainsEvents prefix k history (Piece k bytes) []
gains_none prefix k history bytes earlier a same c =
    (earlier, a, a, c, subst (λ z. Cuts prefix z (earlier ++ []) a) (sym same) (subst (λ z. Cuts prefix (stream_of k history) z a) (sym (append-nil earlier)) c))
