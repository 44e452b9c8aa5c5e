-- One request at a time.
use Rattle.std.proofs.Common.{◌≡◌, ℕ, ◌+◌, ◌⊎◌, inl, inr, true, false, Option, Some, None, List, [], ◌∷◌, ◌++◌, take, drop, refl, sym, ◌∙◌, ap, subst, append_assoc, IsSome, Result, Ok, Err, OnErr, IfOk}
use Rattle.std.specs.Prelude.{unwrap_or, option_to_list}
use Rattle.std.specs.List.{AllByRecursion}
use Rattle.std.proofs.lemmas.List.{append-nil}
use Rattle.std.proofs.Math.Dec.{eqb}
use Rattle.std.proofs.Math.Seq.{take-add}
use Rattle.std.proofs.lemmas.Bool.Decides.{eqb_tells}
use Rattle.http_core.specs.Event.{EventValue, IsValid}
use Rattle.http_core.specs.Session.{SessionValue, IsClosed}
use Rattle.http_core.specs.Session as sessions
use Rattle.cache_server.specs.Cache.{CacheValue}
use Rattle.cache_server.specs.History.{HistoryEntry, Piece, stream_of, CacheAfter, Brings, AnswersTo}
use Rattle.cache_server.specs.Server.{ServerValue, session_at, StandsSo, KeepsSession, KeepsOthers, ServerStands, StandsOrFails, IsSessionFor, IsOpenAt}
use Rattle.cache_server.specs.Sessions.{IsClosedAt, ClosesAt, OpensAt, FeedsFirstAt}
use Rattle.cache_server.specs.Turn.{AnswersIfAny, AnswersOne, IsOneAnswerTo}
use Rattle.cache_server.proofs.Serving.{ServesAll, serves_none, serves_one, serves_join}
use Rattle.cache_server.proofs.Standing.{HasFed, held_session, is_fed, stands_fed, answers_fed, stands_broken}

-- a connection with a fresh session stands as one without
keeps_fresh : (prefix : List ℕ) (held : Option SessionValue) (session : SessionValue) (k : ℕ) (history : List HistoryEntry)
    → IsSessionFor prefix held session → KeepsSession prefix held k history → KeepsSession prefix (Some session) k history
keeps_fresh prefix None session k history fresh (stream, open_) =
    (fresh.prefixed, subst (λ b. StandsSo b session (stream_of k history)) (sym open_) ([], subst (λ z. sessions.Stands session z []) (sym stream) fresh.stands))
keeps_fresh prefix (Some held) session k history same keeps = subst (λ z. KeepsSession prefix (Some z) k history) (sym same) keeps

pub stands_opened : (opening : CacheValue) (old new : ServerValue) (k : ℕ) (history : List HistoryEntry) → OpensAt old k new → ServerStands opening old history → ServerStands opening new history
stands_opened opening old new k history opens stands = record {
  cache = subst (λ z. CacheAfter z opening history new.cache) (sym opens.kept.prefix) (subst (CacheAfter old.prefix opening history) (sym opens.kept.cache) stands.cache);
  sessions = λ j. subst (λ z. KeepsSession z (session_at new j) j history) (sym opens.kept.prefix) (by_test j (eqb_tells j k));
}
  where
    by_test : (j : ℕ) → ((eqb j k ≡ true) × (j ≡ k)) ⊎ ((eqb j k ≡ false) × (j ≡ k → ⊥)) → KeepsSession old.prefix (session_at new j) j history
    by_test j (inl (t, e)) = subst (λ i. KeepsSession old.prefix (session_at new i) i history) (sym e) (subst (λ z. KeepsSession old.prefix z k history) (sym opens.at) (keeps_fresh old.prefix (session_at old k) opens.session k history opens.held (stands.sessions k)))
    by_test j (inr (f, n)) = subst (λ z. KeepsSession old.prefix z j history) (sym (opens.kept.others j n)) (stands.sessions j)

-- ---- what a session was fed

all_join : {X : Type 0} (P : X → Type 0) (xs ys : List X) → AllByRecursion P xs → AllByRecursion P ys → AllByRecursion P (xs ++ ys)
all_join P [] ys p q = q
all_join P (x ∷ xs) ys p q = (p.0, all_join P xs ys p.1 q)

feeds_none : (s : SessionValue) → sessions.Feeds s [] [] s
feeds_none s = record {
  stands = λ stream before t. subst (λ z. sessions.Stands s z (before ++ [])) (sym (append-nil stream)) (subst (sessions.Stands s stream) (sym (append-nil before)) t);
  closed = λ c. (c, refl);
  valid = tt;
  prefix = refl;
}

feeds_join : (a b c : SessionValue) (x y : List ℕ) (d e : List EventValue) → sessions.Feeds a x d b → sessions.Feeds b y e c → sessions.Feeds a (x ++ y) (d ++ e) c
feeds_join a b c x y d e f g = record {
  stands = λ stream before t. subst (λ z. sessions.Stands c z (before ++ (d ++ e))) (append_assoc stream x y)
      (subst (sessions.Stands c ((stream ++ x) ++ y)) (append_assoc before d e) (g.stands (stream ++ x) (before ++ d) (f.stands stream before t)));
  closed = λ shut. (let p : IsClosed b × (d ≡ []) = f.closed shut in let q : IsClosed c × (e ≡ []) = g.closed p.0 in (q.0, ap (λ z. z ++ e) p.1 ∙ q.1));
  valid = all_join IsValid d e f.valid g.valid;
  prefix = g.prefix ∙ f.prefix;
}

pub fed_none : (s : ServerValue) (k : ℕ) (session : SessionValue) → session_at s k ≡ Some session → HasFed s k [] [] s
fed_none s k session e = record { before = session; after = session; events = []; held = e; feeds = feeds_none session; at = e; answers = serves_none s.cache; prefix = refl; others = λ j n. refl }

one_session : (o : Option SessionValue) (a b : SessionValue) → o ≡ Some a → o ≡ Some b → a ≡ b
one_session o a b e f = let g : Some a ≡ Some b = sym e ∙ f in cc

pub fed_join : (a b c : ServerValue) (k : ℕ) (x y t u : List ℕ) → HasFed a k x t b → HasFed b k y u c → HasFed a k (x ++ y) (t ++ u) c
fed_join a b c k x y t u f g = record {
  before = f.before;
  after = g.after;
  events = f.events ++ g.events;
  held = f.held;
  feeds = feeds_join f.before f.after g.after x y f.events g.events f.feeds (subst (λ z. sessions.Feeds z y g.events g.after) (one_session (session_at b k) g.before f.after g.held f.at) g.feeds);
  at = g.at;
  answers = serves_join a.cache b.cache c.cache f.events g.events t u f.answers g.answers;
  prefix = g.prefix ∙ f.prefix;
  others = λ j n. g.others j n ∙ f.others j n;
}

answers_if_any : (old new : CacheValue) (event : Option EventValue) (text : Option (List ℕ)) → AnswersIfAny old event text new → ServesAll old (option_to_list event) (unwrap_or text []) new
answers_if_any old new None None e = subst (ServesAll old [] []) (sym e) (serves_none old)
answers_if_any old new None (Some text) e = absurd e
answers_if_any old new (Some event) None e = absurd e
answers_if_any old new (Some event) (Some text) e = serves_one old new event text e

pub fed_turn : (old : ServerValue) (k : ℕ) (session : SessionValue) (piece : List ℕ) (taken : ℕ) (text : Option (List ℕ)) (new : ServerValue)
    → session_at old k ≡ Some session → AnswersOne old k piece taken text new → HasFed old k (take taken piece) (unwrap_or text []) new
fed_turn old k session piece taken text new e t =
    let same : t.before ≡ session = subst (λ o. IsSessionFor old.prefix o t.before) e t.held in
    record {
      before = t.before;
      after = t.after;
      events = option_to_list t.event;
      held = e ∙ ap (λ z. Some z) (sym same);
      feeds = t.takes.feeds;
      at = t.at;
      answers = answers_if_any old.cache new.cache t.event text t.answered;
      prefix = t.prefix;
      others = t.others;
    }

-- the event of the session that was held is answered
pub first_answered : (old mid new : ServerValue) (k : ℕ) (piece : List ℕ) (taken : ℕ) (event : Option EventValue) (text : Option (List ℕ))
    → FeedsFirstAt old k piece taken event mid → new.prefix ≡ mid.prefix → new.sessions ≡ mid.sessions → AnswersIfAny mid.cache event text new.cache → AnswersOne old k piece taken text new
first_answered old mid new k piece taken event text f p m answered =
    let same : (j : ℕ) → session_at new j ≡ session_at mid j = λ j. ap (λ z. session_at (record { cache = new.cache; prefix = new.prefix; sessions = z }) j) m in
    record {
      before = f.before;
      after = f.after;
      event = event;
      held = held_session old.prefix (session_at old k) f.before f.held;
      takes = f.feeds;
      at = same k ∙ f.at;
      others = λ j n. same j ∙ f.kept.others j n;
      answered = subst (λ z. AnswersIfAny z event text new.cache) f.kept.cache answered;
      prefix = p ∙ f.kept.prefix;
    }

-- the event wasn't answered
closed_fed : (was held now : Option SessionValue) (before after : SessionValue) → was ≡ Some before → held ≡ Some after → after.prefix ≡ before.prefix → IsClosedAt held now → IsClosedAt was now
closed_fed was held now before after e f same c =
    let x : IsClosedAt (Some after) now = subst (λ z. IsClosedAt z now) f c in
    subst (λ z. IsClosedAt z now) (sym e) (x.0, x.1, x.2 ∙ same, x.3)

pub closes_fed : (old mid served new : ServerValue) (k : ℕ) (piece : List ℕ) (taken : ℕ) (event : Option EventValue)
    → FeedsFirstAt old k piece taken event mid → served.cache ≡ mid.cache → served.prefix ≡ mid.prefix → served.sessions ≡ mid.sessions → ClosesAt served k new → ClosesAt old k new
closes_fed old mid served new k piece taken event f c p m closes =
    let same : (j : ℕ) → session_at served j ≡ session_at mid j = λ j. ap (λ z. session_at (record { cache = served.cache; prefix = served.prefix; sessions = z }) j) m in
    record {
      at = closed_fed (session_at old k) (session_at served k) (session_at new k) f.before f.after f.held (same k ∙ f.at) f.feeds.feeds.prefix closes.at;
      kept = record {
        cache = closes.kept.cache ∙ c ∙ f.kept.cache;
        prefix = closes.kept.prefix ∙ p ∙ f.kept.prefix;
        others = λ j n. closes.kept.others j n ∙ same j ∙ f.kept.others j n;
      };
    }

-- ---- after the connection was opened

some_is : {X : Type 0} (o : Option SessionValue) (session : SessionValue) → o ≡ Some session → o ≡ None → X
some_is o session e f = let g : Some session ≡ None = sym e ∙ f in cc

pub is_there : (o : Option SessionValue) (session : SessionValue) → o ≡ Some session → IsSome o
is_there o session e = subst IsSome (sym e) refl

module _ (opening : CacheValue) (old mid new : ServerValue) (k : ℕ) (history : List HistoryEntry) (opens : OpensAt old k mid) (stands : ServerStands opening old history) where
  pub opened_stands : (bytes text : List ℕ) → HasFed mid k bytes text new → ServerStands opening new (history ++ Piece k bytes ∷ [])
  opened_stands bytes text f = stands_fed opening mid new k history bytes text f (stands_opened opening old mid k history opens stands)

  -- the one answer of a turn
  pub opened_answer : (piece : List ℕ) (taken : ℕ) (text : Option (List ℕ)) → AnswersOne mid k piece taken text new → IsOneAnswerTo old.prefix opening history (Piece k (take taken piece)) (unwrap_or text [])
  unfolding fed_turn
  opened_answer piece taken text t =
      let f : HasFed mid k (take taken piece) (unwrap_or text []) new = fed_turn mid k opens.session piece taken text new opens.at t in
      let s : ServerStands opening mid history = stands_opened opening old mid k history opens stands in
      let brings : Brings mid.prefix history (Piece k (take taken piece)) (option_to_list t.event) = (is_fed opening mid new k history (take taken piece) (unwrap_or text []) f s).gains in
      subst (λ p. IsOneAnswerTo p opening history (Piece k (take taken piece)) (unwrap_or text [])) opens.kept.prefix (t.event, mid.cache, new.cache, s.cache, brings, f.answers)

  pub opened_answers : (bytes text : List ℕ) → HasFed mid k bytes text new → AnswersTo old.prefix opening history (Piece k bytes) text
  opened_answers bytes text f = subst (λ p. AnswersTo p opening history (Piece k bytes) text) opens.kept.prefix (answers_fed opening mid new k history bytes text f (stands_opened opening old mid k history opens stands))

  pub opened_breaks : (served : ServerValue) (piece bytes rest text : List ℕ) → piece ≡ bytes ++ rest → HasFed mid k bytes text served → ClosesAt served k new → StandsOrFails opening old k piece new history
  opened_breaks served piece bytes rest text whole f closes = by_end (stands_broken opening mid served new k history piece bytes rest text whole f closes (stands_opened opening old mid k history opens stands))
    where
      by_end : StandsOrFails opening mid k piece new history → StandsOrFails opening old k piece new history
      by_end (inl (none, still, s)) = some_is (session_at mid k) opens.session opens.at none
      by_end (inr f) = inr f

-- what was taken of a piece, and one turn more
pub taken_more : (piece : List ℕ) (at taken next : ℕ) (rest : List ℕ) → rest ≡ drop at piece → at + taken ≡ next → take at piece ++ take taken rest ≡ take next piece
taken_more piece at taken next rest e f = ap (λ z. take at piece ++ take taken z) e ∙ sym (take-add at taken piece) ∙ ap (λ n. take n piece) f

-- ---- a connection that is open was open before

pub opened_before : (old mid : ServerValue) (k : ℕ) → OpensAt old k mid → IsOpenAt (session_at mid k) → IsOpenAt (session_at old k)
opened_before old mid k opens still = by (session_at old k) opens.held
  where
    by : (o : Option SessionValue) → IsSessionFor old.prefix o opens.session → IsOpenAt o
    by None fresh = tt
    by (Some held) same = subst sessions.IsOpen same (subst IsOpenAt opens.at still)

pub open_within : (old new : ServerValue) (k : ℕ) (bytes text : List ℕ) → HasFed old k bytes text new → IsOpenAt (session_at new k) → IsOpenAt (session_at old k)
open_within old new k bytes text f still =
    let after : sessions.IsOpen f.after = subst IsOpenAt f.at still in
    let before : sessions.IsOpen f.before = λ shut. after (f.feeds.closed shut).0 in
    subst IsOpenAt (sym f.held) before

-- so was one that was answered
pub open_answered : (old new : ServerValue) (k : ℕ) (piece : List ℕ) (taken : ℕ) (text : Option (List ℕ)) → AnswersOne old k piece taken text new → IsSome text → IsOpenAt (session_at old k)
open_answered old new k piece taken text t some = by (session_at old k) t.held
  where
    none_answered : (event : Option EventValue) (text : Option (List ℕ)) → AnswersIfAny old.cache event text new.cache → IsSome text → option_to_list event ≡ [] → ⊥
    none_answered None None a s e = let none : false ≡ true = s in absurd cc
    none_answered None (Some bytes) a s e = a
    none_answered (Some event) text a s e = absurd cc

    by : (o : Option SessionValue) → IsSessionFor old.prefix o t.before → IsOpenAt o
    by None fresh = tt
    by (Some held) same = subst sessions.IsOpen same (λ shut. none_answered t.event text t.answered some (t.takes.feeds.closed shut).1)

-- ---- one answer

pub one_answer : (old mid new : ServerValue) (k : ℕ) (piece : List ℕ) (taken : ℕ) (text : Option (List ℕ)) → OpensAt old k mid → AnswersOne mid k piece taken text new → AnswersOne old k piece taken text new
one_answer old mid new k piece taken text opens t =
    let same : t.before ≡ opens.session = subst (λ o. IsSessionFor mid.prefix o t.before) opens.at t.held in
    record {
      before = t.before;
      after = t.after;
      event = t.event;
      held = subst (IsSessionFor old.prefix (session_at old k)) (sym same) opens.held;
      takes = t.takes;
      at = t.at;
      others = λ j n. t.others j n ∙ opens.kept.others j n;
      answered = subst (λ z. AnswersIfAny z t.event text new.cache) opens.kept.cache t.answered;
      prefix = t.prefix ∙ opens.kept.prefix;
    }

-- ---- without memory

-- the session that took a request was open
no_event : {X : Type 0} (event : EventValue) → event ∷ [] ≡ [] → X
no_event event e = cc

pub open_before : (old mid : ServerValue) (k : ℕ) (piece : List ℕ) (taken : ℕ) (event : EventValue) → FeedsFirstAt old k piece taken (Some event) mid → IsOpenAt (session_at old k)
open_before old mid k piece taken event f = subst IsOpenAt (sym f.held) (λ shut. no_event event (f.feeds.feeds.closed shut).1)

-- so the connection was, or it was new
pub was_open : (prefix : List ℕ) (held now : Option SessionValue) (session : SessionValue) → IsSessionFor prefix held session → now ≡ Some session → IsOpenAt now → IsOpenAt held
was_open prefix None now session f at o = tt
was_open prefix (Some held) now session same at o =
    let open_ : sessions.IsOpen session = subst IsOpenAt at o in
    subst sessions.IsOpen same open_

pub keeps_join : (a b c : ServerValue) (k : ℕ) → KeepsOthers a k b → KeepsOthers b k c → KeepsOthers a k c
keeps_join a b c k f g = record { cache = g.cache ∙ f.cache; prefix = g.prefix ∙ f.prefix; others = λ j n. g.others j n ∙ f.others j n }

-- what follows of a call's value and of its error
pub of_result : {T E C : Type 0} (P : T → Type 0) (Q : Type 0) (r : Result T E) → IfOk r P → OnErr r Q → ((x : T) → P x → C) → (Q → C) → C
of_result P Q (Ok x) p q f g = f x p
of_result P Q (Err e) p q f g = g q
