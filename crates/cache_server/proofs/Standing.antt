-- A server with one entry more.
use Rattle.std.proofs.Common.{◌≡◌, ℕ, ◌⊎◌, inl, inr, Bool, true, false, Option, Some, None, List, [], ◌∷◌, ◌++◌, refl, sym, ◌∙◌, ap, subst, append_assoc}
use Rattle.std.proofs.Math.Dec.{eqb}
use Rattle.std.proofs.lemmas.Bool.Decides.{eqb_tells}
use Rattle.http_core.specs.Event.{EventValue}
use Rattle.http_core.specs.Stream.{Cuts}
use Rattle.http_core.specs.Session.{SessionValue, IsClosed}
use Rattle.http_core.specs.Session as sessions
use Rattle.cache_server.specs.Cache.{CacheValue}
use Rattle.cache_server.specs.History.{HistoryEntry, Piece, Fail, End, is_end, is_fail, bytes_over, since_end, until_fail, stream_of, has_failed, GainsEvents, BringsAll, CacheAfter, AnswersTo}
use Rattle.cache_server.specs.Server.{ServerValue, session_at, StandsSo, KeepsSession, ServerStands, StandsOrFails, KeepsOthers, IsSessionFor}
use Rattle.cache_server.specs.Sessions.{IsClosedAt, ClosesAt}
use Rattle.cache_server.proofs.Histories.{stream_aside, failed_more, failed_now, stream_ended, failed_ended}
use Rattle.cache_server.proofs.Serving.{ServesAll, serves_none}
use Rattle.cache_server.proofs.Gaining.{cache_more, answers_are, own_bytes, other_bytes, own_fail, other_fail, own_end, other_end, stream_open, stream_shut, gains_open, gains_none}

-- an entry of another connection
pub keeps_aside : (prefix : List ℕ) (held : Option SessionValue) (k : ℕ) (history : List HistoryEntry) (entry : HistoryEntry)
    → is_end k entry ≡ false → bytes_over k entry ≡ [] → is_fail k entry ≡ false → KeepsSession prefix held k history → KeepsSession prefix held k (history ++ entry ∷ [])
keeps_aside prefix None k history entry e f h (stream, open_) = (stream_aside k history entry e f ∙ stream, failed_more k history entry e h ∙ open_)
keeps_aside prefix (Some session) k history entry e f h (same, stands) =
    (same, subst (λ b. StandsSo b session (stream_of k (history ++ entry ∷ []))) (sym (failed_more k history entry e h)) (subst (StandsSo (has_failed k history) session) (sym (stream_aside k history entry e f)) stands))

-- what came over a connection was cut
pub record IsCut (prefix stream : List ℕ) : Type 0 where
  pub events : List EventValue
  pub left : Option (List ℕ)
  pub cut : Cuts prefix stream events left

stands_cut : (session : SessionValue) (stream : List ℕ) (events : List EventValue) → sessions.Stands session stream events → (left : Option (List ℕ)) × Cuts session.prefix stream events left
unfolding sessions.Stands
stands_cut session stream events (left, cut, leaves) = (left, cut)

so_cut : (b : Bool) (session : SessionValue) (stream : List ℕ) → StandsSo b session stream → IsCut session.prefix stream
so_cut true session stream (closed, (events, left, cut)) = record { events = events; left = left; cut = cut }
so_cut false session stream (events, stands) = let h : (left : Option (List ℕ)) × Cuts session.prefix stream events left = stands_cut session stream events stands in record { events = events; left = h.0; cut = h.1 }

keeps_cut : (prefix : List ℕ) (session : SessionValue) (k : ℕ) (history : List HistoryEntry) → KeepsSession prefix (Some session) k history → IsCut prefix (stream_of k history)
keeps_cut prefix session k history (same, stands) = subst (λ p. IsCut p (stream_of k history)) same (so_cut (has_failed k history) session (stream_of k history) stands)

-- a session took a piece
pub record IsFed (prefix : List ℕ) (k : ℕ) (history : List HistoryEntry) (piece : List ℕ) (events : List EventValue) (after : SessionValue) : Type 0 where
  pub gains : GainsEvents prefix k history (Piece k piece) events
  pub keeps : KeepsSession prefix (Some after) k (history ++ Piece k piece ∷ [])

fed_open : (prefix : List ℕ) (k : ℕ) (history : List HistoryEntry) (piece : List ℕ) (earlier events : List EventValue) (before after : SessionValue)
    → has_failed k history ≡ false → before.prefix ≡ prefix → sessions.Stands before (stream_of k history) earlier → sessions.Feeds before piece events after → IsFed prefix k history piece events after
fed_open prefix k history piece earlier events before after open_ same stands takes =
    let s : sessions.Stands after (stream_of k history ++ piece) (earlier ++ events) = takes.stands (stream_of k history) earlier stands in
    let x : (left : Option (List ℕ)) × Cuts before.prefix (stream_of k history) earlier left = stands_cut before (stream_of k history) earlier stands in
    let y : (left : Option (List ℕ)) × Cuts after.prefix (stream_of k history ++ piece) (earlier ++ events) left = stands_cut after (stream_of k history ++ piece) (earlier ++ events) s in
    let p : after.prefix ≡ prefix = takes.prefix ∙ same in
    let f : has_failed k (history ++ Piece k piece ∷ []) ≡ false = failed_more k history (Piece k piece) refl refl ∙ open_ in
    record {
      gains = gains_open prefix k history piece earlier events x.0 y.0 open_ (subst (λ z. Cuts z (stream_of k history) earlier x.0) same x.1) (subst (λ z. Cuts z (stream_of k history ++ piece) (earlier ++ events) y.0) p y.1);
      keeps = (p, subst (λ b. StandsSo b after (stream_of k (history ++ Piece k piece ∷ []))) (sym f) (earlier ++ events, subst (λ z. sessions.Stands after z (earlier ++ events)) (sym (stream_open k history piece open_)) s));
    }

fed_shut : (prefix : List ℕ) (k : ℕ) (history : List HistoryEntry) (piece : List ℕ) (events : List EventValue) (before after : SessionValue)
    → has_failed k history ≡ true → before.prefix ≡ prefix → StandsSo true before (stream_of k history) → sessions.Feeds before piece events after → IsFed prefix k history piece events after
fed_shut prefix k history piece events before after shut same (closed, (earlier, left, cut)) takes =
    let t : IsClosed after × (events ≡ []) = takes.closed closed in
    let p : after.prefix ≡ prefix = takes.prefix ∙ same in
    let f : has_failed k (history ++ Piece k piece ∷ []) ≡ true = failed_more k history (Piece k piece) refl refl ∙ shut in
    let c : Cuts prefix (stream_of k history) earlier left = subst (λ z. Cuts z (stream_of k history) earlier left) same cut in
    record {
      gains = subst (GainsEvents prefix k history (Piece k piece)) (sym t.1) (gains_none prefix k history piece earlier left (stream_shut k history piece shut) c);
      keeps = (
        p,
        subst (λ b. StandsSo b after (stream_of k (history ++ Piece k piece ∷ []))) (sym f)
            (t.0, (earlier, left, subst (λ z. Cuts z (stream_of k (history ++ Piece k piece ∷ [])) earlier left) (sym p) (subst (λ z. Cuts prefix z earlier left) (sym (stream_shut k history piece shut)) c))),
      );
    }

fed_by : (prefix : List ℕ) (k : ℕ) (history : List HistoryEntry) (piece : List ℕ) (events : List EventValue) (before after : SessionValue) (b : Bool)
    → has_failed k history ≡ b → before.prefix ≡ prefix → StandsSo b before (stream_of k history) → sessions.Feeds before piece events after → IsFed prefix k history piece events after
fed_by prefix k history piece events before after true e same stands takes = fed_shut prefix k history piece events before after e same stands takes
fed_by prefix k history piece events before after false e same (earlier, stands) takes = fed_open prefix k history piece earlier events before after e same stands takes

fed : (prefix : List ℕ) (held : Option SessionValue) (k : ℕ) (history : List HistoryEntry) (piece : List ℕ) (events : List EventValue) (before after : SessionValue)
    → KeepsSession prefix held k history → IsSessionFor prefix held before → sessions.Feeds before piece events after → IsFed prefix k history piece events after
fed prefix None k history piece events before after (stream, open_) fresh takes =
    fed_open prefix k history piece [] events before after open_ fresh.prefixed (subst (λ z. sessions.Stands before z []) (sym stream) fresh.stands) takes
fed prefix (Some session) k history piece events before after (same, stands) is takes =
    fed_by prefix k history piece events before after (has_failed k history) refl (ap (λ (z : SessionValue). z.prefix) is ∙ same) (subst (λ z. StandsSo (has_failed k history) z (stream_of k history)) (sym is) stands) takes

-- the session of the connection took the bytes, and their events are answered
pub record HasFed (old : ServerValue) (k : ℕ) (bytes text : List ℕ) (new : ServerValue) : Type 0 where
  pub before : SessionValue
  pub after : SessionValue
  pub events : List EventValue
  pub held : session_at old k ≡ Some before
  pub feeds : sessions.Feeds before bytes events after
  pub at : session_at new k ≡ Some after
  pub answers : ServesAll old.cache events text new.cache
  pub prefix : new.prefix ≡ old.prefix
  pub others : (j : ℕ) → (j ≡ k → ⊥) → session_at new j ≡ session_at old j

pub held_session : (prefix : List ℕ) (o : Option SessionValue) (session : SessionValue) → o ≡ Some session → IsSessionFor prefix o session
held_session prefix o session e = subst (λ z. IsSessionFor prefix z session) (sym e) refl

pub is_fed : (opening : CacheValue) (old new : ServerValue) (k : ℕ) (history : List HistoryEntry) (bytes text : List ℕ) → (f : HasFed old k bytes text new) → ServerStands opening old history → IsFed old.prefix k history bytes f.events f.after
is_fed opening old new k history bytes text f stands =
    fed old.prefix (session_at old k) k history bytes f.events f.before f.after (stands.sessions k) (held_session old.prefix (session_at old k) f.before f.held) f.feeds

-- all sessions, where that of one connection is told
sessions_with : (prefix : List ℕ) (old new : ServerValue) (k : ℕ) (after : SessionValue) (history : List HistoryEntry) (entry : HistoryEntry)
    → ((j : ℕ) → (j ≡ k → ⊥) → session_at new j ≡ session_at old j)
    → ((j : ℕ) → (j ≡ k → ⊥) → (is_end j entry ≡ false) × (bytes_over j entry ≡ []) × (is_fail j entry ≡ false))
    → ((j : ℕ) → KeepsSession prefix (session_at old j) j history) → KeepsSession prefix (session_at new k) k (history ++ entry ∷ [])
    → (j : ℕ) → KeepsSession prefix (session_at new j) j (history ++ entry ∷ [])
sessions_with prefix old new k after history entry others aside kept own j = by_test (eqb_tells j k)
  where
    by_test : ((eqb j k ≡ true) × (j ≡ k)) ⊎ ((eqb j k ≡ false) × (j ≡ k → ⊥)) → KeepsSession prefix (session_at new j) j (history ++ entry ∷ [])
    by_test (inl (t, e)) = subst (λ i. KeepsSession prefix (session_at new i) i (history ++ entry ∷ [])) (sym e) own
    by_test (inr (f, n)) = subst (λ z. KeepsSession prefix z j (history ++ entry ∷ [])) (sym (others j n)) (keeps_aside prefix (session_at old j) j history entry (aside j n).0 (aside j n).1 (aside j n).2 (kept j))

pub stands_fed : (opening : CacheValue) (old new : ServerValue) (k : ℕ) (history : List HistoryEntry) (bytes text : List ℕ)
    → HasFed old k bytes text new → ServerStands opening old history → ServerStands opening new (history ++ Piece k bytes ∷ [])
stands_fed opening old new k history bytes text f stands =
    let x : IsFed old.prefix k history bytes f.events f.after = is_fed opening old new k history bytes text f stands in
    let c : CacheAfter old.prefix opening (history ++ Piece k bytes ∷ []) new.cache = cache_more old.prefix opening old.cache new.cache history (Piece k bytes) f.events text stands.cache x.gains f.answers in
    let own : KeepsSession old.prefix (session_at new k) k (history ++ Piece k bytes ∷ []) = subst (λ z. KeepsSession old.prefix z k (history ++ Piece k bytes ∷ [])) (sym f.at) x.keeps in
    record {
      cache = subst (λ z. CacheAfter z opening (history ++ Piece k bytes ∷ []) new.cache) (sym f.prefix) c;
      sessions = λ j. subst (λ z. KeepsSession z (session_at new j) j (history ++ Piece k bytes ∷ [])) (sym f.prefix)
          (sessions_with old.prefix old new k f.after history (Piece k bytes) f.others (λ i n. (refl, other_bytes i k bytes n, refl)) stands.sessions own j);
    }

pub answers_fed : (opening : CacheValue) (old new : ServerValue) (k : ℕ) (history : List HistoryEntry) (bytes text : List ℕ)
    → HasFed old k bytes text new → ServerStands opening old history → AnswersTo old.prefix opening history (Piece k bytes) text
answers_fed opening old new k history bytes text f stands =
    answers_are old.prefix opening old.cache new.cache history (Piece k bytes) f.events text stands.cache (is_fed opening old new k history bytes text f stands).gains f.answers

pub stands_ended : (opening : CacheValue) (old new : ServerValue) (k : ℕ) (history : List HistoryEntry)
    → session_at new k ≡ None → KeepsOthers old k new → ServerStands opening old history → ServerStands opening new (history ++ End k ∷ [])
stands_ended opening old new k history gone kept stands =
    let c : CacheAfter old.prefix opening (history ++ End k ∷ []) old.cache = cache_more old.prefix opening old.cache old.cache history (End k) [] [] stands.cache refl (serves_none old.cache) in
    let own : KeepsSession old.prefix (session_at new k) k (history ++ End k ∷ []) = subst (λ z. KeepsSession old.prefix z k (history ++ End k ∷ [])) (sym gone) (stream_ended k history (End k) (own_end k), failed_ended k history (End k) (own_end k)) in
    record {
      cache = subst (λ z. CacheAfter z opening (history ++ End k ∷ []) new.cache) (sym kept.prefix) (subst (CacheAfter old.prefix opening (history ++ End k ∷ [])) (sym kept.cache) c);
      sessions = λ j. subst (λ z. KeepsSession z (session_at new j) j (history ++ End k ∷ [])) (sym kept.prefix)
          (sessions_with old.prefix old new k (record { prefix = []; state = sessions.Closed }) history (End k) kept.others (λ i n. (other_end i k n, refl, refl)) stands.sessions own j);
    }

-- a connection without a session stays one
pub stands_unknown : (opening : CacheValue) (old new : ServerValue) (k : ℕ) (history : List HistoryEntry)
    → session_at old k ≡ None → session_at new k ≡ None → KeepsOthers old k new → ServerStands opening old history → ServerStands opening new history
stands_unknown opening old new k history was gone kept stands = record {
  cache = subst (λ z. CacheAfter z opening history new.cache) (sym kept.prefix) (subst (CacheAfter old.prefix opening history) (sym kept.cache) stands.cache);
  sessions = λ j. subst (λ z. KeepsSession z (session_at new j) j history) (sym kept.prefix) (by_test j (eqb_tells j k));
}
  where
    by_test : (j : ℕ) → ((eqb j k ≡ true) × (j ≡ k)) ⊎ ((eqb j k ≡ false) × (j ≡ k → ⊥)) → KeepsSession old.prefix (session_at new j) j history
    by_test j (inl (t, e)) = subst (λ i. KeepsSession old.prefix (session_at new i) i history) (sym e) (subst (λ z. KeepsSession old.prefix z k history) (was ∙ sym gone) (stands.sessions k))
    by_test j (inr (f, n)) = subst (λ z. KeepsSession old.prefix z j history) (sym (kept.others j n)) (stands.sessions j)

-- a session that failed behind a beginning of a piece
fails_own : (prefix : List ℕ) (k : ℕ) (history : List HistoryEntry) (after : SessionValue) → IsClosed after → after.prefix ≡ prefix → IsCut prefix (stream_of k history)
    → KeepsSession prefix (Some after) k (history ++ Fail k ∷ [])
fails_own prefix k history after closed same cut =
    let f : has_failed k (history ++ Fail k ∷ []) ≡ true = failed_now k history (Fail k) refl (own_fail k) in
    let s : stream_of k (history ++ Fail k ∷ []) ≡ stream_of k history = stream_aside k history (Fail k) refl refl in
    (same, subst (λ b. StandsSo b after (stream_of k (history ++ Fail k ∷ []))) (sym f) (closed, (cut.events, cut.left, subst (λ z. Cuts z (stream_of k (history ++ Fail k ∷ [])) cut.events cut.left) (sym same) (subst (λ z. Cuts prefix z cut.events cut.left) (sym s) cut.cut))))

gains_cut : (prefix : List ℕ) (k : ℕ) (history : List HistoryEntry) (entry : HistoryEntry) (events : List EventValue) → GainsEvents prefix k history entry events → IsCut prefix (stream_of k (history ++ entry ∷ []))
gains_cut prefix k history entry events (earlier, a, b, c, d) = record { events = earlier ++ events; left = b; cut = d }

pub stands_failed : (opening : CacheValue) (old new : ServerValue) (k : ℕ) (history : List HistoryEntry) (front : List ℕ) (done : List EventValue) (text : List ℕ) (after : SessionValue)
    → GainsEvents old.prefix k history (Piece k front) done → ServesAll old.cache done text new.cache → new.prefix ≡ old.prefix
    → ((j : ℕ) → (j ≡ k → ⊥) → session_at new j ≡ session_at old j) → session_at new k ≡ Some after → after.prefix ≡ old.prefix → IsClosed after
    → ServerStands opening old history → ServerStands opening new (history ++ (Piece k front ∷ Fail k ∷ []))
stands_failed opening old new k history front done text after gains serves p others at same closed stands =
    let longer : List HistoryEntry = history ++ Piece k front ∷ [] in
    let c : CacheAfter old.prefix opening longer new.cache = cache_more old.prefix opening old.cache new.cache history (Piece k front) done text stands.cache gains serves in
    let d : CacheAfter old.prefix opening (longer ++ Fail k ∷ []) new.cache = cache_more old.prefix opening new.cache new.cache longer (Fail k) [] [] c refl (serves_none new.cache) in
    let own : KeepsSession old.prefix (session_at new k) k (longer ++ Fail k ∷ []) = subst (λ z. KeepsSession old.prefix z k (longer ++ Fail k ∷ [])) (sym at) (fails_own old.prefix k longer after closed same (gains_cut old.prefix k history (Piece k front) done gains)) in
    let e : longer ++ Fail k ∷ [] ≡ history ++ (Piece k front ∷ Fail k ∷ []) = append_assoc history (Piece k front ∷ []) (Fail k ∷ []) in
    record {
      cache = subst (λ z. CacheAfter z opening (history ++ (Piece k front ∷ Fail k ∷ [])) new.cache) (sym p) (subst (λ z. CacheAfter old.prefix opening z new.cache) e d);
      sessions = λ j. subst (λ z. KeepsSession z (session_at new j) j (history ++ (Piece k front ∷ Fail k ∷ []))) (sym p) (subst (KeepsSession old.prefix (session_at new j) j) e (by_test j (eqb_tells j k) own));
    }
  where
    by_test : (j : ℕ) → ((eqb j k ≡ true) × (j ≡ k)) ⊎ ((eqb j k ≡ false) × (j ≡ k → ⊥)) → KeepsSession old.prefix (session_at new k) k ((history ++ Piece k front ∷ []) ++ Fail k ∷ [])
        → KeepsSession old.prefix (session_at new j) j ((history ++ Piece k front ∷ []) ++ Fail k ∷ [])
    by_test j (inl (t, e)) own = subst (λ i. KeepsSession old.prefix (session_at new i) i ((history ++ Piece k front ∷ []) ++ Fail k ∷ [])) (sym e) own
    by_test j (inr (f, n)) own = subst (λ z. KeepsSession old.prefix z j ((history ++ Piece k front ∷ []) ++ Fail k ∷ [])) (sym (others j n))
        (keeps_aside old.prefix (session_at old j) j (history ++ Piece k front ∷ []) (Fail k) refl refl (other_fail j k n)
        (keeps_aside old.prefix (session_at old j) j history (Piece k front) refl (other_bytes j k front n) refl (stands.sessions j)))

-- lack of memory before the piece was cut
closes_by : (opening : CacheValue) (old new : ServerValue) (k : ℕ) (piece : List ℕ) (history : List HistoryEntry) (held : Option SessionValue)
    → session_at old k ≡ held → IsClosedAt held (session_at new k) → KeepsOthers old k new → KeepsSession old.prefix held k history → ServerStands opening old history → StandsOrFails opening old k piece new history
closes_by opening old new k piece history None is gone kept keeps stands = inl (is, gone, stands_unknown opening old new k history is gone kept stands)
closes_by opening old new k piece history (Some session) is (after, at, same, closed) kept keeps stands =
    let c : IsCut old.prefix (stream_of k history) = keeps_cut old.prefix session k history keeps in
    let quiet : stream_of k (history ++ Piece k [] ∷ []) ≡ stream_of k history = stream_aside k history (Piece k []) refl (own_bytes k []) in
    inr (
      [],
      piece,
      refl,
      stands_failed opening old new k history [] [] [] after (gains_none old.prefix k history [] c.events c.left quiet c.cut)
          (subst (ServesAll old.cache [] []) (sym kept.cache) (serves_none old.cache)) kept.prefix kept.others at (same ∙ keeps.0) closed stands,
    )

pub stands_closed : (opening : CacheValue) (old new : ServerValue) (k : ℕ) (piece : List ℕ) (history : List HistoryEntry) → ClosesAt old k new → ServerStands opening old history → StandsOrFails opening old k piece new history
stands_closed opening old new k piece history closes stands = closes_by opening old new k piece history (session_at old k) refl closes.at closes.kept (stands.sessions k) stands

-- lack of memory in the answers
closed_after : (held : Option SessionValue) (session : SessionValue) (now : Option SessionValue) → held ≡ Some session → IsClosedAt held now
    → (after : SessionValue) × (now ≡ Some after) × (after.prefix ≡ session.prefix) × IsClosed after
closed_after held session now e c = subst (λ z. IsClosedAt z now) e c

-- so it was within a piece
pub stands_broken : (opening : CacheValue) (old mid new : ServerValue) (k : ℕ) (history : List HistoryEntry) (piece bytes rest text : List ℕ)
    → piece ≡ bytes ++ rest → HasFed old k bytes text mid → ClosesAt mid k new → ServerStands opening old history → StandsOrFails opening old k piece new history
stands_broken opening old mid new k history piece bytes rest text whole f closes stands =
    let x : IsFed old.prefix k history bytes f.events f.after = is_fed opening old mid k history bytes text f stands in
    let c : (after : SessionValue) × (session_at new k ≡ Some after) × (after.prefix ≡ f.after.prefix) × IsClosed after = closed_after (session_at mid k) f.after (session_at new k) f.at closes.at in
    inr (
      bytes,
      rest,
      whole,
      stands_failed opening old new k history bytes f.events text c.0 x.gains (subst (ServesAll old.cache f.events text) (sym closes.kept.cache) f.answers) (closes.kept.prefix ∙ f.prefix)
          (λ j n. closes.kept.others j n ∙ f.others j n) c.1 (c.2 ∙ x.keeps.0) c.3 stands,
    )

pub stands_first : (opening : CacheValue) (new : ServerValue) → new.cache ≡ opening → new.sessions ≡ [] → ServerStands opening new []
unfolding CacheAfter BringsAll stream_of has_failed until_fail since_end
stands_first opening new c e = record {
  cache = ([], [], refl, subst (ServesAll opening [] []) (sym c) (serves_none opening));
  sessions = λ k. subst (λ z. KeepsSession new.prefix z k []) (sym (ap (λ z. session_at (record { cache = new.cache; prefix = new.prefix; sessions = z }) k) e)) (refl, refl);
}
