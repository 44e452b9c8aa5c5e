-- The work of a cache as one connection of a server sees it.
use Rattle.std.proofs.Common.{◌≡◌, ℕ, inl, inr, Bool, true, false, ◌||◌, Option, Some, List, [], ◌∷◌, ◌++◌, map, refl, sym, ◌∙◌, ap, subst, append_assoc}
use Rattle.std.proofs.lemmas.List.{append-nil}
use Rattle.std.specs.List.{list_any}
use Rattle.http_core.specs.Event.{EventValue}
use Rattle.http_core.specs.Stream.{Cuts}
use Rattle.http_core.proofs.Cutting.{cut_once}
use Rattle.cache_server.specs.Answering.{answered, answered_all}
use Rattle.cache_server.specs.Cache.{CacheValue}
use Rattle.cache_server.specs.History.{HistoryEntry, Piece, Fail, End, is_end, bytes_over, since_end, until_fail, stream_of, Brings, BringsAll, CacheAfter, AnswersTo}
use Rattle.cache_server.proofs.Gaining.{answers_are, cache_more, completes_more, other_bytes}
use Rattle.cache_server.proofs.Histories.{stream_aside}
use Rattle.cache_server.proofs.Once.{answers_once}
use Rattle.exchange.specs.Connections.{TellsOver, TellsAllOver}
use Rattle.exchange.specs.Laws.{ConnectionsAreServed}
use Rattle.exchange.specs.Serving.{Other, Own, Work, alone, event_of, own_events, own_text}
use Rattle.exchange.proofs.Joining.{alone_answered}
use Rattle.exchange.proofs.Streams.{nothing_cut}

-- ---- more work

abbrev after_work : CacheValue → List Work → CacheValue
after_work c [] = c
after_work c (Own event ∷ work) = after_work (answered c event).1 work
after_work c (Other event ∷ work) = after_work (answered c event).1 work

abbrev aside : List EventValue → List Work
aside events = map (λ event. Other event) events

events_more : (work more : List Work) → own_events (work ++ more) ≡ own_events work ++ own_events more
events_more [] more = refl
events_more (Own event ∷ work) more = ap (λ z. event ∷ z) (events_more work more)
events_more (Other event ∷ work) more = events_more work more

all_events : (work more : List Work) → map event_of (work ++ more) ≡ map event_of work ++ map event_of more
all_events [] more = refl
all_events (w ∷ work) more = ap (λ z. event_of w ∷ z) (all_events work more)

all_alone : (events : List EventValue) → map event_of (alone events) ≡ events
all_alone [] = refl
all_alone (event ∷ events) = ap (λ z. event ∷ z) (all_alone events)

all_aside : (events : List EventValue) → map event_of (aside events) ≡ events
all_aside [] = refl
all_aside (event ∷ events) = ap (λ z. event ∷ z) (all_aside events)

after_more : (c : CacheValue) (work more : List Work) → after_work c (work ++ more) ≡ after_work (after_work c work) more
after_more c [] more = refl
after_more c (Own event ∷ work) more = after_more (answered c event).1 work more
after_more c (Other event ∷ work) more = after_more (answered c event).1 work more

text_more : (c : CacheValue) (work more : List Work) → own_text c (work ++ more) ≡ own_text c work ++ own_text (after_work c work) more
unfolding own_text
text_more c [] more = refl
text_more c (Own event ∷ work) more =
    let out : List ℕ × CacheValue = answered c event in
    ap (λ z. out.0 ++ z) (text_more out.1 work more) ∙ sym (append_assoc out.0 (own_text out.1 work) (own_text (after_work out.1 work) more))
text_more c (Other event ∷ work) more = text_more (answered c event).1 work more

events_alone : (events : List EventValue) → own_events (alone events) ≡ events
events_alone [] = refl
events_alone (event ∷ events) = ap (λ z. event ∷ z) (events_alone events)

events_aside : (events : List EventValue) → own_events (aside events) ≡ []
events_aside [] = refl
events_aside (event ∷ events) = events_aside events

text_aside : (c : CacheValue) (events : List EventValue) → own_text c (aside events) ≡ []
unfolding own_text
text_aside c [] = refl
text_aside c (event ∷ events) = text_aside (answered c event).1 events

after_alone : (c : CacheValue) (events : List EventValue) → after_work c (alone events) ≡ (answered_all c events).1
unfolding answered_all
after_alone c [] = refl
after_alone c (event ∷ events) = after_alone (answered c event).1 events

after_aside : (c : CacheValue) (events : List EventValue) → after_work c (aside events) ≡ (answered_all c events).1
unfolding answered_all
after_aside c [] = refl
after_aside c (event ∷ events) = after_aside (answered c event).1 events

-- ---- the work of a history

record IsWork (prefix : List ℕ) (opening : CacheValue) (k : ℕ) (before : List HistoryEntry) (text : List ℕ) : Type 0 where
  pub work : List Work
  pub left : Option (List ℕ)
  pub cut : Cuts prefix (stream_of k before) (own_events work) left
  pub told : own_text opening work ≡ text
  pub after : CacheAfter prefix opening before (after_work opening work)
  pub brings : BringsAll prefix [] before (map event_of work)

work_first : (prefix : List ℕ) (opening : CacheValue) (k : ℕ) → IsWork prefix opening k [] []
unfolding own_text CacheAfter BringsAll answered_all stream_of since_end until_fail
work_first prefix opening k = record { work = []; left = Some []; cut = nothing_cut prefix; told = refl; after = ([], [], refl, refl); brings = refl }

-- an entry that brings these events, which are the connection's or not
record Adds (prefix : List ℕ) (opening : CacheValue) (k : ℕ) (before : List HistoryEntry) (entry : HistoryEntry) (c : CacheValue) (work : List Work) (text : List ℕ) (more : List Work) : Type 0 where
  pub left : Option (List ℕ)
  pub cut : Cuts prefix (stream_of k (before ++ entry ∷ [])) (own_events work ++ own_events more) left
  pub told : own_text c more ≡ text
  pub after : CacheAfter prefix opening (before ++ entry ∷ []) (after_work c more)
  pub brings : Brings prefix before entry (map event_of more)

work_more : (prefix : List ℕ) (opening : CacheValue) (k : ℕ) (before : List HistoryEntry) (entry : HistoryEntry) (text first : List ℕ) (w : IsWork prefix opening k before text) (more : List Work)
    → Adds prefix opening k before entry (after_work opening w.work) w.work first more → IsWork prefix opening k (before ++ entry ∷ []) (text ++ first)
work_more prefix opening k before entry text first w more a = record {
  work = w.work ++ more;
  left = a.left;
  cut = subst (λ z. Cuts prefix (stream_of k (before ++ entry ∷ [])) z a.left) (sym (events_more w.work more)) a.cut;
  told = text_more opening w.work more ∙ ap (λ z. z ++ own_text (after_work opening w.work) more) w.told ∙ ap (λ z. text ++ z) a.told;
  after = subst (λ (c : CacheValue). CacheAfter prefix opening (before ++ entry ∷ []) c) (sym (after_more opening w.work more)) a.after;
  brings = subst (BringsAll prefix [] (before ++ entry ∷ [])) (sym (all_events w.work more)) (completes_more prefix [] before entry (map event_of w.work) (map event_of more) w.brings a.brings);
}

-- an entry of another connection, or of none
adds_aside : (prefix : List ℕ) (opening c : CacheValue) (k : ℕ) (before : List HistoryEntry) (entry : HistoryEntry) (work : List Work) (left : Option (List ℕ)) (events : List EventValue)
    → is_end k entry ≡ false → bytes_over k entry ≡ [] → CacheAfter prefix opening before c → Brings prefix before entry events → Cuts prefix (stream_of k before) (own_events work) left
    → Adds prefix opening k before entry c work [] (aside events)
adds_aside prefix opening c k before entry work left events e f after b cut = record {
  left = left;
  cut = subst (λ z. Cuts prefix z (own_events work ++ own_events (aside events)) left) (sym (stream_aside k before entry e f))
      (subst (λ z. Cuts prefix (stream_of k before) z left) (sym (ap (λ z. own_events work ++ z) (events_aside events) ∙ append-nil (own_events work))) cut);
  told = text_aside c events;
  after = subst (λ (z : CacheValue). CacheAfter prefix opening (before ++ entry ∷ []) z) (sym (after_aside c events)) (cache_more prefix opening c (answered_all c events).1 before entry events (answered_all c events).0 after b refl);
  brings = subst (Brings prefix before entry) (sym (all_aside events)) b;
}

-- a piece of the connection
adds_own : (prefix : List ℕ) (opening c : CacheValue) (k : ℕ) (before : List HistoryEntry) (bytes : List ℕ) (work : List Work) (left : Option (List ℕ)) (events : List EventValue) (text : List ℕ)
    → CacheAfter prefix opening before c → Brings prefix before (Piece k bytes) events → Cuts prefix (stream_of k before) (own_events work) left → AnswersTo prefix opening before (Piece k bytes) text
    → Adds prefix opening k before (Piece k bytes) c work text (alone events)
adds_own prefix opening c k before bytes work left events text after b cut tells =
    let last : CacheValue = (answered_all c events).1 in
    let same : own_events work ≡ b.0 = (cut_once prefix (stream_of k before) (own_events work) b.0 left b.1 cut b.3).0 in
    let whole : own_events work ++ own_events (alone events) ≡ b.0 ++ events = ap (λ z. own_events work ++ z) (events_alone events) ∙ ap (λ z. z ++ events) same in
    record {
      left = b.2;
      cut = subst (λ z. Cuts prefix (stream_of k (before ++ Piece k bytes ∷ [])) z b.2) (sym whole) b.4;
      told = alone_answered c events ∙ answers_once prefix opening before (Piece k bytes) (answered_all c events).0 text (answers_are prefix opening c last before (Piece k bytes) events (answered_all c events).0 after b refl) tells;
      after = subst (λ (z : CacheValue). CacheAfter prefix opening (before ++ Piece k bytes ∷ []) z) (sym (after_alone c events)) (cache_more prefix opening c last before (Piece k bytes) events (answered_all c events).0 after b refl);
      brings = subst (Brings prefix before (Piece k bytes)) (sym (all_alone events)) b;
    }

one_more : (prefix : List ℕ) (opening : CacheValue) (k : ℕ) (before : List HistoryEntry) (entry : HistoryEntry) (text first : List ℕ) (events : List EventValue) → is_end k entry ≡ false
    → IsWork prefix opening k before text → Brings prefix before entry events → TellsOver prefix opening k before entry first → IsWork prefix opening k (before ++ entry ∷ []) (text ++ first)
one_more prefix opening k before (Piece j bytes) text first events e w b (inl (same, tells)) =
    work_more prefix opening k before (Piece j bytes) text first w (alone events)
    (subst (λ i. Adds prefix opening i before (Piece j bytes) (after_work opening w.work) w.work first (alone events)) same
    (adds_own prefix opening (after_work opening w.work) j before bytes w.work w.left events first w.after b (subst (λ i. Cuts prefix (stream_of i before) (own_events w.work) w.left) (sym same) w.cut) tells))
one_more prefix opening k before (Piece j bytes) text first events e w b (inr (other, none)) =
    work_more prefix opening k before (Piece j bytes) text first w (aside events)
    (subst (λ z. Adds prefix opening k before (Piece j bytes) (after_work opening w.work) w.work z (aside events)) (sym none)
    (adds_aside prefix opening (after_work opening w.work) k before (Piece j bytes) w.work w.left events refl (other_bytes k j bytes (λ q. other (sym q))) w.after b w.cut))
one_more prefix opening k before (Fail j) text first events e w b none =
    work_more prefix opening k before (Fail j) text first w (aside events)
    (subst (λ z. Adds prefix opening k before (Fail j) (after_work opening w.work) w.work z (aside events)) (sym none)
    (adds_aside prefix opening (after_work opening w.work) k before (Fail j) w.work w.left events refl refl w.after b w.cut))
one_more prefix opening k before (End j) text first events e w b none =
    work_more prefix opening k before (End j) text first w (aside events)
    (subst (λ z. Adds prefix opening k before (End j) (after_work opening w.work) w.work z (aside events)) (sym none)
    (adds_aside prefix opening (after_work opening w.work) k before (End j) w.work w.left events e refl w.after b w.cut))

neither : (a b : Bool) → (a || b) ≡ false → (a ≡ false) × (b ≡ false)
neither true b e = absurd cc
neither false b e = (refl, e)

all_more : (prefix : List ℕ) (opening : CacheValue) (k : ℕ) (before history : List HistoryEntry) (text more : List ℕ) (events : List EventValue) → list_any (is_end k) history ≡ false
    → IsWork prefix opening k before text → BringsAll prefix before history events → TellsAllOver prefix opening k before history more → IsWork prefix opening k (before ++ history) (text ++ more)
unfolding BringsAll TellsAllOver
all_more prefix opening k before [] text more events e w b none =
    subst (λ z. IsWork prefix opening k (before ++ []) z) (sym (ap (λ z. text ++ z) none ∙ append-nil text)) (subst (λ z. IsWork prefix opening k z text) (sym (append-nil before)) w)
all_more prefix opening k before (entry ∷ history) text more events e w (own, others, one, rest, all) (first, later, tells, following, whole) =
    let open_ = neither (is_end k entry) (list_any (is_end k) history) e in
    let next = one_more prefix opening k before entry text first own open_.0 w one tells in
    let last = all_more prefix opening k (before ++ entry ∷ []) history (text ++ first) later others open_.1 next rest following in
    subst (λ z. IsWork prefix opening k (before ++ entry ∷ history) z) (append_assoc text first later ∙ ap (λ z. text ++ z) (sym whole))
    (subst (λ z. IsWork prefix opening k z ((text ++ first) ++ later)) (append_assoc before (entry ∷ []) history) last)

pub connections_served : ConnectionsAreServed
unfolding CacheAfter
connections_served prefix opening cache k history text (events, told, brings, answers) e tells =
    let w = all_more prefix opening k [] history [] text events e (work_first prefix opening k) brings tells in
    (w.work, w.left, w.brings, w.cut, w.told)
