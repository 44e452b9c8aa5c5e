-- A history is answered in one way.
use Rattle.std.proofs.Common.{◌≡◌, ℕ, List, [], ◌∷◌, ◌++◌, refl, sym, ◌∙◌, ap}
use Rattle.std.proofs.lemmas.List.{append_cancel_left}
use Rattle.http_core.specs.Event.{EventValue}
use Rattle.http_core.proofs.Cutting.{cut_once}
use Rattle.cache_server.specs.Cache.{CacheValue}
use Rattle.cache_server.specs.Answering.{answered_all}
use Rattle.cache_server.specs.History.{HistoryEntry, Piece, Fail, End, stream_of, GainsEvents, Brings, BringsAll, CacheAfter, AnswersTo}
use Rattle.cache_server.proofs.Serving.{ServesAll, text_is, cache_is}

gains_once : (prefix : List ℕ) (k : ℕ) (before : List HistoryEntry) (entry : HistoryEntry) (x y : List EventValue) → GainsEvents prefix k before entry x → GainsEvents prefix k before entry y → x ≡ y
gains_once prefix k before entry x y (e, a, b, c, d) (f, g, h, i, j) =
    let s : (e ≡ f) × (a ≡ g) = cut_once prefix (stream_of k before) e f a g c i in
    let t : (e ++ x ≡ f ++ y) × (b ≡ h) = cut_once prefix (stream_of k (before ++ entry ∷ [])) (e ++ x) (f ++ y) b h d j in
    append_cancel_left e x y (t.0 ∙ ap (λ z. z ++ y) (sym s.0))

completes_once : (prefix : List ℕ) (before : List HistoryEntry) (entry : HistoryEntry) (x y : List EventValue) → Brings prefix before entry x → Brings prefix before entry y → x ≡ y
completes_once prefix before (Piece k bytes) x y p q = gains_once prefix k before (Piece k bytes) x y p q
completes_once prefix before (Fail k) x y p q = p ∙ sym q
completes_once prefix before (End k) x y p q = p ∙ sym q

all_once : (prefix : List ℕ) (before history : List HistoryEntry) (x y : List EventValue) → BringsAll prefix before history x → BringsAll prefix before history y → x ≡ y
unfolding BringsAll
all_once prefix before [] x y p q = p ∙ sym q
all_once prefix before (entry ∷ history) x y (a, b, c, d, e) (f, g, h, i, j) =
    e ∙ ap (λ z. z ++ b) (completes_once prefix before entry a f c h) ∙ ap (λ z. f ++ z) (all_once prefix (before ++ entry ∷ []) history b g d i) ∙ sym j

served_once : (old new : CacheValue) (x y : List EventValue) (t u : List ℕ) (a b : CacheValue) → old ≡ new → x ≡ y → ServesAll old x t a → ServesAll new y u b → (t ≡ u) × (a ≡ b)
served_once old new x y t u a b e f p q =
    let same : (t, a) ≡ (u, b) = sym p ∙ ap (λ z. answered_all z x) e ∙ ap (answered_all new) f ∙ q in
    (text_is (t, a) (u, b) same, cache_is (t, a) (u, b) same)

pub cache_once : (prefix : List ℕ) (opening : CacheValue) (history : List HistoryEntry) (a b : CacheValue) → CacheAfter prefix opening history a → CacheAfter prefix opening history b → a ≡ b
unfolding CacheAfter
cache_once prefix opening history a b (x, t, p, s) (y, u, q, r) = (served_once opening opening x y t u a b refl (all_once prefix [] history x y p q) s r).1

pub answers_once : (prefix : List ℕ) (opening : CacheValue) (history : List HistoryEntry) (entry : HistoryEntry) (x y : List ℕ) → AnswersTo prefix opening history entry x → AnswersTo prefix opening history entry y → x ≡ y
unfolding AnswersTo
answers_once prefix opening history entry x y (e, a, b, p, c, s) (f, g, h, q, d, r) =
    (served_once a g e f x y b h (cache_once prefix opening history a g p q) (completes_once prefix history entry e f c d) s r).0
