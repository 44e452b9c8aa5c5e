-- What is read of one connection and sent to it, as the server goes on.
use Rattle.std.proofs.Common.{◌≡◌, ℕ, ◌+◌, ◌<◌, inl, inr, Bool, true, false, Option, Some, None, List, [], ◌∷◌, ◌++◌, take, drop, refl, sym, ◌∙◌, ap, subst, append_assoc, arith}
use Rattle.std.specs.Prelude.{count_by, option_map}
use Rattle.std.specs.Option.{unwrap_or}
use Rattle.std.proofs.lemmas.List.{append-nil, take-append-drop}
use Rattle.std.proofs.lemmas.List.Sums.{sum_by-append}
use Rattle.std.specs.Prelude.{Ok, Err}
use Rattle.http_core.specs.Event.{EventValue}
use Rattle.http_core.specs.Session.{SessionValue, Closed, Reading}
use Rattle.http_core.specs.Session as sessions
use Rattle.http_core.specs.Stream.{Cuts}
use Rattle.http_core.proofs.Cutting.{cut_once}
use Rattle.http_core.proofs.Pieces.{not_open}
use Rattle.http_core.proofs.Standing.{stands_first}
use Rattle.cache_server.specs.Answer.{AnswerValue, text_of}
use Rattle.cache_server.specs.Cache.{CacheValue}
use Rattle.cache_server.specs.History.{HistoryEntry, Piece, Fail, End, stream_of, has_failed}
use Rattle.cache_server.specs.Server.{ServerValue, ServerStands, StandsOrFails, StandsSo, KeepsSession, IsOpenAt, session_at}
use Rattle.cache_server.specs.Turn.{IsOneAnswerTo}
use Rattle.cache_server.specs.declared.error.ConnError.TheVariants.{ReadFault, WriteFault, Memory}
use Rattle.cache_server.specs.declared.error.ConnError.{ConnError}
use Rattle.service.specs.Sockets.{Cause, Failed, Finished, IsBroken, ReadsFrom, SendsTo, Shut, Stays, Why}
use Rattle.std.specs.declared.io.Error.{Error}
use Rattle.service.specs.Talks.{entry_number, fault_of_silence, AreOfOthers, Answered, Talks, IsShut, IsReason, HasEnded}
use Rattle.service.specs.Talks as talks
use Rattle.service.specs.Member.{MemberValue, unsent_of, TalksOn, MayEndNow, FailsFor, GoesAfter, EndsWell, TalksOnUnless, AreOf, HasMovedOn, MovesOn, Passes, PassesSent, end_of, is_piece}
use Rattle.service.specs.declared.turn.Turn.{Turn}
use Rattle.service.specs.declared.turn.Turn.TheVariants.{Again, Waits, Held, Ends}

pub not_both : (b : Bool) → b ≡ false → b ≡ true → ⊥
not_both b e f = let g : false ≡ true = sym e ∙ f in cc

-- ---- entries of other connections

pub apart_from_own : (k j : ℕ) (entries : List HistoryEntry) → (j ≡ k → ⊥) → AreOf k entries → AreOfOthers j entries
apart_from_own k j [] n t = tt
apart_from_own k j (e ∷ es) n (o, os) = (λ (x : entry_number e ≡ j). n (sym x ∙ o), apart_from_own k j es n os)

both_apart : (k : ℕ) (some more : List HistoryEntry) → AreOfOthers k some → AreOfOthers k more → AreOfOthers k (some ++ more)
both_apart k [] more t ns = ns
both_apart k (e ∷ some) more (n, ts) ns = (n, both_apart k some more ts ns)

module _ (prefix : List ℕ) (opening : CacheValue) (history : List HistoryEntry) where
  pub answered_apart : (j : ℕ) (more entries : List HistoryEntry) (came earlier last : List ℕ) → AreOfOthers j more
      → Answered prefix opening history j entries came earlier last → Answered prefix opening history j (entries ++ more) came earlier last
  answered_apart j [] entries came earlier last t a = subst (λ (z : List HistoryEntry). Answered prefix opening history j z came earlier last) (sym (append-nil entries)) a
  answered_apart j (e ∷ more) entries came earlier last (n, ns) a =
      subst (λ (z : List HistoryEntry). Answered prefix opening history j z came earlier last) (append_assoc entries (e ∷ []) more)
      (answered_apart j more (entries ++ e ∷ []) came earlier last ns (talks.other entries came earlier last e a n))

  pub talks_apart : (j : ℕ) (more entries : List HistoryEntry) (read sent left unsent : List ℕ) → AreOfOthers j more
      → Talks prefix opening history entries j read sent left unsent → Talks prefix opening history (entries ++ more) j read sent left unsent
  talks_apart j more entries read sent left unsent ns t = record {
    came = t.came;
    earlier = t.earlier;
    part = t.part;
    reading = t.reading;
    sending = t.sending;
    answered = answered_apart j more entries t.came t.earlier (t.part ++ unsent) ns t.answered;
  }

  pub holds_apart : {S : Type 0} (spoke : ℕ → S → List ℕ → List ℕ → Type 0) (j : ℕ) (more entries : List HistoryEntry) (m : MemberValue S) → AreOfOthers j more
      → TalksOn spoke prefix opening history entries j m → TalksOn spoke prefix opening history (entries ++ more) j m
  holds_apart spoke j more entries m ns h = record {
    read = h.read;
    sent = h.sent;
    said = h.said;
    talks = talks_apart j more entries h.read h.sent m.left m.unsent ns h.talks;
  }

  -- whatever comes after its end
  pub ended_before : (cut : Bool) (ended : ℕ → List ℕ → List ℕ → Why → Type 0) (lost : ℕ → Cause → Type 0) (j : ℕ) (more entries : List HistoryEntry) → AreOfOthers j more
      → HasEnded cut ended lost prefix opening history entries j → HasEnded cut ended lost prefix opening history (entries ++ more) j
  ended_before cut ended lost j more entries ns h = record {
    before = h.before;
    after = h.after ++ more;
    whole = ap (λ (z : List HistoryEntry). z ++ more) h.whole ∙ append_assoc h.before (End j ∷ h.after) more;
    last = both_apart j h.after more h.last ns;
    read = h.read;
    sent = h.sent;
    left = h.left;
    unsent = h.unsent;
    why = h.why;
    is = h.is;
    talks = h.talks;
    may = h.may;
  }

  -- ---- one connection

  -- it may end for a fault, as where it is over or memory is wanting
  fault_may : (over : Cause → Type 0) (shut : Type 0) (left unsent : List ℕ) (why : Why) → FailsFor (λ e. over (Failed e)) (Some why) → IsReason over shut left unsent why
  fault_may over shut left unsent (Ok done) f = absurd f
  fault_may over shut left unsent (Err e) (inl none) = inl none
  fault_may over shut left unsent (Err e) (inr o) = inr (inl o)

  pub leaves : {S : Type 0} (spoke : ℕ → S → List ℕ → List ℕ → Type 0) (over : S → Cause → Type 0) (entries : List HistoryEntry) (k : ℕ) (m : MemberValue S) (why : Why)
      → TalksOn spoke prefix opening history entries k m → IsReason (over m.stream) (IsShut prefix k (history ++ entries)) m.left m.unsent why
      → MayEndNow spoke prefix opening history entries k over m.stream why
  leaves spoke over entries k m why h may = record {
    read = h.read;
    sent = h.sent;
    left = m.left;
    unsent = m.unsent;
    said = h.said;
    talks = h.talks;
    may = may;
  }

  pub unless : {S : Type 0} (e : Option Why) (spoke : ℕ → S → List ℕ → List ℕ → Type 0) (over : S → Cause → Type 0) (entries : List HistoryEntry) (k : ℕ) (m : MemberValue S)
      → FailsFor (λ e. over m.stream (Failed e)) e → TalksOn spoke prefix opening history entries k m → TalksOnUnless spoke prefix opening history entries k over e m
  unless None spoke over entries k m f h = h
  unless (Some why) spoke over entries k m f h = leaves spoke over entries k m why h (fault_may (over m.stream) (IsShut prefix k (history ++ entries)) m.left m.unsent why f)

  pub talks_read : (entries : List HistoryEntry) (k : ℕ) (read sent left unsent bytes : List ℕ)
      → Talks prefix opening history entries k read sent left unsent → Talks prefix opening history entries k (read ++ bytes) sent (left ++ bytes) unsent
  talks_read entries k read sent left unsent bytes t = record {
    came = t.came;
    earlier = t.earlier;
    part = t.part;
    reading = ap (λ (z : List ℕ). z ++ bytes) t.reading ∙ append_assoc t.came left bytes;
    sending = t.sending;
    answered = t.answered;
  }

  pub talks_sent : (entries : List HistoryEntry) (k : ℕ) (read sent left unsent bytes : List ℕ)
      → Talks prefix opening history entries k read sent left (bytes ++ unsent) → Talks prefix opening history entries k read (sent ++ bytes) left unsent
  talks_sent entries k read sent left unsent bytes t = record {
    came = t.came;
    earlier = t.earlier;
    part = t.part ++ bytes;
    reading = t.reading;
    sending = ap (λ (z : List ℕ). z ++ bytes) t.sending ∙ append_assoc t.earlier t.part bytes;
    answered = subst (λ (z : List ℕ). Answered prefix opening history k entries t.came t.earlier z) (sym (append_assoc t.part bytes unsent)) t.answered;
  }

  pub talks_as : (entries : List HistoryEntry) (k : ℕ) (read sent left unsent left' unsent' : List ℕ) → left' ≡ left → unsent' ≡ unsent
      → Talks prefix opening history entries k read sent left unsent → Talks prefix opening history entries k read sent left' unsent'
  talks_as entries k read sent left unsent left' unsent' p q t =
      subst (λ (z : List ℕ). Talks prefix opening history entries k read sent z unsent') (sym p) (subst (λ (z : List ℕ). Talks prefix opening history entries k read sent left z) (sym q) t)

both_own : (k : ℕ) (some more : List HistoryEntry) → AreOf k some → AreOf k more → AreOf k (some ++ more)
both_own k [] more t os = os
both_own k (e ∷ some) more (o, ts) os = (o, both_own k some more ts os)

pieces_in : (some more : List HistoryEntry) → count_by is_piece (some ++ more) ≡ count_by is_piece some + count_by is_piece more
pieces_in some more = sum_by-append _ some more

text_unsent : (answer : Option AnswerValue) → unwrap_or (option_map text_of answer) [] ≡ unsent_of answer 0
text_unsent None = refl
text_unsent (Some a) = refl

-- ---- faults

-- the fault after which it ends is one for which it is over
pub fails_for : (Q : ConnError → Type 0) (fault : Error) (cause : ConnError) (turn : Turn) → (IsBroken fault → Q cause) → GoesAfter fault cause turn → FailsFor Q (end_of turn)
fails_for Q fault cause Again f h = tt
fails_for Q fault cause Waits f h = tt
fails_for Q fault cause Held f h = tt
fails_for Q fault cause (Ends (Ok done)) f h = h
fails_for Q fault cause (Ends (Err e)) f (inl (room, none)) = inl none
fails_for Q fault cause (Ends (Err e)) f (inr (broken, is)) = inr (subst Q (sym is) (f broken))

-- ---- silence

pub sender_silent : (unsent : List ℕ) → (unsent ≡ [] → ⊥) → WriteFault ≡ fault_of_silence unsent
sender_silent [] some = absurd (some refl)
sender_silent (byte ∷ unsent) some = refl

pub reader_silent : (unsent : List ℕ) → unsent ≡ [] → ReadFault ≡ fault_of_silence unsent
reader_silent unsent none = ap fault_of_silence (sym none)

-- ---- no more can be answered

shut_session : (prefix : List ℕ) (o : Option SessionValue) (k : ℕ) (history : List HistoryEntry) → KeepsSession prefix o k history → (IsOpenAt o → ⊥) → IsShut prefix k history
unfolding sessions.Stands
shut_session prefix None k history keeps shut = absurd (shut tt)
shut_session prefix (Some session) k history keeps shut = by (has_failed k history) refl keeps.1
  where
    closed : session.state ≡ Closed
    closed = not_open session.state shut

    left_none : (left : Option (List ℕ)) → sessions.Leaves session.prefix session.state left → left ≡ None
    left_none None l = refl
    left_none (Some rest) l = absurd (subst (λ z. sessions.Holds session.prefix z rest) closed l)

    by : (b : Bool) → has_failed k history ≡ b → StandsSo b session (stream_of k history) → IsShut prefix k history
    by true e stands = inl e
    by false e stands = inr (cut stands)
      where
        cut : StandsSo false session (stream_of k history) → (events : List EventValue) × Cuts prefix (stream_of k history) events None
        cut (events, (left, is, leaves)) = (events, subst (λ z. Cuts z (stream_of k history) events None) keeps.0 (subst (λ z. Cuts session.prefix (stream_of k history) events z) (left_none left leaves) is))

pub shut_is : (opening : CacheValue) (server : ServerValue) (k : ℕ) (history : List HistoryEntry) → ServerStands opening server history → (IsOpenAt (session_at server k) → ⊥) → IsShut server.prefix k history
shut_is opening server k history stands shut = shut_session server.prefix (session_at server k) k history (stands.sessions k) shut

-- ---- more can be answered

still_open : (prefix : List ℕ) (session : SessionValue) (stream : List ℕ) (events others : List EventValue) → session.prefix ≡ prefix → sessions.Stands session stream others → sessions.IsOpen session → Cuts prefix stream events None → ⊥
unfolding sessions.Stands
still_open prefix session stream events others same (left, cut, leaves) still shut =
    still (by left ((cut_once prefix stream others events left None (subst (λ z. Cuts z stream others left) same cut) shut).1) leaves)
  where
    by : (left : Option (List ℕ)) → left ≡ None → sessions.Leaves session.prefix session.state left → session.state ≡ Closed
    by None e l = l
    by (Some rest) e l = absurd cc

not_shut : (prefix : List ℕ) (o : Option SessionValue) (k : ℕ) (history : List HistoryEntry) → KeepsSession prefix o k history → IsOpenAt o → IsShut prefix k history → ⊥
not_shut prefix None k history keeps still (inl failed) = let e : false ≡ true = sym keeps.1 ∙ failed in cc
not_shut prefix None k history keeps still (inr (events, cut)) =
    still_open prefix (record { prefix = prefix; state = Reading [] }) [] events [] refl (stands_first prefix) (λ e. cc) (subst (λ z. Cuts prefix z events None) keeps.0 cut)
not_shut prefix (Some session) k history keeps still (inl failed) = still (subst (λ b. StandsSo b session (stream_of k history)) failed keeps.1).0
not_shut prefix (Some session) k history keeps still (inr (events, cut)) = by (has_failed k history) keeps.1
  where
    by : (b : Bool) → StandsSo b session (stream_of k history) → ⊥
    by true stands = still stands.0
    by false (others, stands) = still_open prefix session (stream_of k history) events others keeps.0 stands still cut

open_is : (opening : CacheValue) (server : ServerValue) (k : ℕ) (history : List HistoryEntry) → ServerStands opening server history → IsOpenAt (session_at server k) → IsShut server.prefix k history → ⊥
open_is opening server k history stands still = not_shut server.prefix (session_at server k) k history (stands.sessions k) still

-- why it may end, by the server's session and by what came before
pub may_end : (opening : CacheValue) (server : ServerValue) (k : ℕ) (history : List HistoryEntry) (prefix : List ℕ) (over : Cause → Type 0) (left unsent : List ℕ) (why : Why) → ServerStands opening server history → server.prefix ≡ prefix
    → IsReason over (IsOpenAt (session_at server k) → ⊥) left unsent why → IsReason over (IsShut prefix k history) left unsent why
may_end opening server k history prefix over left unsent (Ok done) stands same (inl all) = inl all
may_end opening server k history prefix over left unsent (Ok done) stands same (inr (shut, o, none)) = inr (subst (λ z. IsShut z k history) same (shut_is opening server k history stands shut), o, none)
may_end opening server k history prefix over left unsent (Err e) stands same f = f

module _ {S : Type 0} (spoke : ℕ → S → List ℕ → List ℕ → Type 0) (over : S → Cause → Type 0) where
  abbrev MovesSo : ℕ → Option Why → ℕ → ServerValue → MemberValue S → ServerValue → MemberValue S → Type 0
  MovesSo most e k old before new after =
      (opening : CacheValue) (history entries : List HistoryEntry) → ServerStands opening old (history ++ entries)
      → TalksOn spoke old.prefix opening history entries k before → HasMovedOn spoke over most e old.prefix opening history entries k after new

  -- ---- nothing comes to the server

  pub stays_passes : (e : Option Why) (before after : MemberValue S) → Stays spoke before.stream after.stream → after.left ≡ before.left → after.unsent ≡ before.unsent → FailsFor (λ e. over after.stream (Failed e)) e → Passes spoke over e before after
  stays_passes e before after stays p q f = record {
    on = λ prefix opening history entries k h. unless prefix opening history e spoke over entries k after f (record {
      read = h.read;
      sent = h.sent;
      said = stays k h.read h.sent h.said;
      talks = talks_as prefix opening history entries k h.read h.sent before.left before.unsent after.left after.unsent p q h.talks;
    });
  }

  pub nothing_passes : (m : MemberValue S) → Passes spoke over None m m
  nothing_passes m = stays_passes None m m (λ k read sent h. h) refl refl tt

  -- some was read, where nothing was left
  pub reads_pass : (before after : MemberValue S) (bytes : List ℕ) → ReadsFrom spoke before.stream bytes after.stream → before.left ≡ [] → after.left ≡ bytes → after.unsent ≡ before.unsent → Passes spoke over None before after
  reads_pass before after bytes reads e p q = record {
    on = λ prefix opening history entries k h. record {
      read = h.read ++ bytes;
      sent = h.sent;
      said = reads k h.read h.sent h.said;
      talks = talks_as prefix opening history entries k (h.read ++ bytes) h.sent (before.left ++ bytes) before.unsent after.left after.unsent (p ∙ ap (λ (z : List ℕ). z ++ bytes) (sym e)) q
          (talks_read prefix opening history entries k h.read h.sent before.left before.unsent bytes h.talks);
    };
  }

  -- a part of what wasn't sent was, and then it passed on so
  pub sent_passes : (e : Option Why) (l m n : MemberValue S) (count : ℕ) → SendsTo spoke l.stream (take count l.unsent) m.stream → m.left ≡ l.left → m.unsent ≡ l.unsent
      → PassesSent spoke over e count m n → Passes spoke over e l n
  sent_passes None l m n count sends p q r = record {
    on = λ prefix opening history entries k h. record {
      read = h.read;
      sent = h.sent ++ take count l.unsent;
      said = r.stays k h.read (h.sent ++ take count l.unsent) (sends k h.read h.sent h.said);
      talks = talks_as prefix opening history entries k h.read (h.sent ++ take count l.unsent) l.left (drop count l.unsent) n.left n.unsent (r.left refl ∙ p) (r.unsent refl ∙ ap (drop count) q)
          (talks_sent prefix opening history entries k h.read h.sent l.left (drop count l.unsent) (take count l.unsent)
          (talks_as prefix opening history entries k h.read h.sent l.left l.unsent l.left (take count l.unsent ++ drop count l.unsent) refl (take-append-drop count l.unsent) h.talks));
    };
  }
  sent_passes (Some why) l m n count sends p q r = record {
    on = λ prefix opening history entries k h. record {
      read = h.read;
      sent = h.sent ++ take count l.unsent;
      left = l.left;
      unsent = drop count l.unsent;
      said = r.stays k h.read (h.sent ++ take count l.unsent) (sends k h.read h.sent h.said);
      talks = talks_sent prefix opening history entries k h.read h.sent l.left (drop count l.unsent) (take count l.unsent)
          (talks_as prefix opening history entries k h.read h.sent l.left l.unsent l.left (take count l.unsent ++ drop count l.unsent) refl (take-append-drop count l.unsent) h.talks);
      may = fault_may prefix opening history (over n.stream) (IsShut prefix k (history ++ entries)) l.left (drop count l.unsent) why r.fails;
    };
  }

  -- ended, or with so much more sent
  pub sends_over : (count : ℕ) (before after : MemberValue S) → Stays spoke before.stream after.stream → over after.stream (Failed WriteFault) → PassesSent spoke over (Some (Err WriteFault)) count before after
  sends_over count before after stays o = record { left = λ e. cc; unsent = λ e. cc; stays = stays; fails = inr o }

  pub sends_more : (count : ℕ) (before after : MemberValue S) → Stays spoke before.stream after.stream → after.left ≡ before.left → after.unsent ≡ drop count before.unsent → PassesSent spoke over None count before after
  sends_more count before after stays p q = record { left = λ e. p; unsent = λ e. q; stays = stays; fails = tt }

  passes_moves_so : {most : ℕ} (e : Option Why) (k : ℕ) (server : ServerValue) (before after : MemberValue S) → Passes spoke over e before after → MovesSo most e k server before server after
  passes_moves_so e k server before after p opening history entries stands h = record {
    more = [];
    theirs = tt;
    few = omega arith;
    stands = subst (λ (z : List HistoryEntry). ServerStands opening server (history ++ z)) (sym (append-nil entries)) stands;
    same = refl;
    holds = subst (λ (z : List HistoryEntry). TalksOnUnless spoke server.prefix opening history z k over e after) (sym (append-nil entries)) (p.on server.prefix opening history entries k h);
  }

  pub passes_moves : {most : ℕ} (e : Option Why) (k : ℕ) (server : ServerValue) (before after : MemberValue S) → Passes spoke over e before after → MovesOn spoke over most e k server before server after
  passes_moves e k server before after p = record { on = passes_moves_so e k server before after p }

  -- no bytes were read
  pub reads_none : (before after : S) (bytes : List ℕ) → bytes ≡ [] → ReadsFrom spoke before bytes after → Stays spoke before after
  reads_none before after bytes e reads k read sent h = subst (λ z. spoke k after z sent) (ap (λ z. read ++ z) e ∙ append-nil read) (reads k read sent h)

  -- it stays so, and may end for this reason
  ends_for : (prefix : List ℕ) (opening : CacheValue) (history entries : List HistoryEntry) (k : ℕ) (before after : MemberValue S) (why : Why) → Stays spoke before.stream after.stream
      → TalksOn spoke prefix opening history entries k before → IsReason (over after.stream) (IsShut prefix k (history ++ entries)) before.left before.unsent why → MayEndNow spoke prefix opening history entries k over after.stream why
  ends_for prefix opening history entries k before after why stays h may = record {
    read = h.read;
    sent = h.sent;
    left = before.left;
    unsent = before.unsent;
    said = stays k h.read h.sent h.said;
    talks = h.talks;
    may = may;
  }

  -- the peer has ended it, and nothing is left
  pub reads_end : (before after : MemberValue S) → Stays spoke before.stream after.stream → before.left ≡ [] → before.unsent ≡ [] → over after.stream Finished → Passes spoke over (Some (Ok tt)) before after
  reads_end before after stays left unsent o = record { on = λ prefix opening history entries k h. ends_for prefix opening history entries k before after (Ok tt) stays h (inl (o, left, unsent)) }

  -- no more can be answered
  pub lingers_moves : {most : ℕ} (e : Option Why) (k : ℕ) (server : ServerValue) (before after : MemberValue S) → EndsWell (over after.stream Shut) e → (IsOpenAt (session_at server k) → ⊥) → Stays spoke before.stream after.stream → after.left ≡ before.left → after.unsent ≡ before.unsent → before.unsent ≡ []
      → MovesOn spoke over most e k server before server after
  lingers_moves None k server before after well shut stays p q none = passes_moves None k server before after (stays_passes None before after stays p q tt)
  lingers_moves (Some (Err e)) k server before after well shut stays p q none = absurd well
  lingers_moves (Some (Ok done)) k server before after well shut stays p q none = record {
    on = λ opening history entries stands h. record {
      more = [];
      theirs = tt;
      few = omega arith;
      stands = subst (λ (z : List HistoryEntry). ServerStands opening server (history ++ z)) (sym (append-nil entries)) stands;
      same = refl;
      holds = subst (λ (z : List HistoryEntry). MayEndNow spoke server.prefix opening history z k over after.stream (Ok done)) (sym (append-nil entries))
          (ends_for server.prefix opening history entries k before after (Ok done) stays h (inr (shut_is opening server k (history ++ entries) stands shut, well, none)));
    };
  }

  -- without memory, only the stream counts
  pub moves_end : {most : ℕ} (k : ℕ) (s t : ServerValue) (l m n : MemberValue S) → n.stream ≡ m.stream → MovesOn spoke over most None k s l t m → MovesOn spoke over most (Some (Err Memory)) k s l t n
  moves_end {most} k s t l m n e p = record {
    on = λ opening history entries stands h.
        let x : HasMovedOn spoke over most None s.prefix opening history entries k m t = p.on opening history entries stands h in
        record {
          more = x.more;
          theirs = x.theirs;
          few = x.few;
          stands = x.stands;
          same = x.same;
          holds = subst (λ (z : S). MayEndNow spoke s.prefix opening history (entries ++ x.more) k over z (Err Memory)) (sym e) (leaves s.prefix opening history spoke over (entries ++ x.more) k m (Err Memory) x.holds (inl refl));
        };
  }

  pub moves_from : {most : ℕ} (e : Option Why) (k : ℕ) (s t : ServerValue) (l l' n : MemberValue S) → l' ≡ l → MovesOn spoke over most e k s l' t n → MovesOn spoke over most e k s l t n
  moves_from {most} e k s t l l' n q p = subst (λ (z : MemberValue S). MovesOn spoke over most e k s z t n) q p

  pub stays_moves : {most : ℕ} (e : Option Why) (k : ℕ) (server : ServerValue) (before after : MemberValue S) → Stays spoke before.stream after.stream → after.left ≡ before.left → after.unsent ≡ before.unsent → FailsFor (λ e. over after.stream (Failed e)) e
      → MovesOn spoke over most e k server before server after
  stays_moves e k server before after stays p q f = passes_moves e k server before after (stays_passes e before after stays p q f)

  -- some is read, and some of it comes to the server
  pub reads_moves : {most : ℕ} (e : Option Why) (k : ℕ) (s t : ServerValue) (l m n : MemberValue S) → Passes spoke over None l m → MovesOn spoke over most e k s m t n → MovesOn spoke over most e k s l t n
  reads_moves e k s t l m n p q = record { on = λ opening history entries stands h. q.on opening history entries stands (p.on s.prefix opening history entries k h) }

  pub moves_nowhere : {most : ℕ} (k : ℕ) (server : ServerValue) (m : MemberValue S) → MovesOn spoke over most None k server m server m
  moves_nowhere k server m = passes_moves None k server m m (nothing_passes m)

  moves_further_so : {count most : ℕ} (e : Option Why) (k : ℕ) (s t u : ServerValue) (l m n : MemberValue S) → count < most → MovesOn spoke over count None k s l t m → MovesOn spoke over 1 e k t m u n → MovesSo most e k s l u n
  moves_further_so {count} {most} e k s t u l m n c p q opening history entries stands h =
      let x : HasMovedOn spoke over count None s.prefix opening history entries k m t = p.on opening history entries stands h in
      let y : HasMovedOn spoke over 1 e t.prefix opening history (entries ++ x.more) k n u =
      q.on opening history (entries ++ x.more) x.stands (subst (λ (z : List ℕ). TalksOn spoke z opening history (entries ++ x.more) k m) (sym x.same) x.holds) in
      record {
        more = x.more ++ y.more;
        theirs = both_own k x.more y.more x.theirs y.theirs;
        few = let few = x.few in let one = y.few in let all = pieces_in x.more y.more in omega (arith, c, few, one, all);
        stands = subst (λ (z : List HistoryEntry). ServerStands opening u (history ++ z)) (append_assoc entries x.more y.more) y.stands;
        same = y.same ∙ x.same;
        holds = subst (λ (z : List HistoryEntry). TalksOnUnless spoke s.prefix opening history z k over e n) (append_assoc entries x.more y.more)
            (subst (λ (z : List ℕ). TalksOnUnless spoke z opening history ((entries ++ x.more) ++ y.more) k over e n) x.same y.holds);
      }

  -- one step more
  pub moves_further : {count most : ℕ} (e : Option Why) (k : ℕ) (s t u : ServerValue) (l m n : MemberValue S) → count < most → MovesOn spoke over count None k s l t m → MovesOn spoke over 1 e k t m u n → MovesOn spoke over most e k s l u n
  moves_further e k s t u l m n c p q = record { on = moves_further_so e k s t u l m n c p q }

  -- ---- some of what is left comes to the server

  next_moves_so : (k : ℕ) (old new : ServerValue) (before after : MemberValue S) (piece : List ℕ) (taken : ℕ) (answer : Option AnswerValue)
      → IsOpenAt (session_at old k) → before.left ≡ piece → before.unsent ≡ [] → after.stream ≡ before.stream → after.left ≡ drop taken piece → after.unsent ≡ unsent_of answer 0
      → new.prefix ≡ old.prefix
      → ((opening : CacheValue) (history : List HistoryEntry) → ServerStands opening old history → IsOneAnswerTo old.prefix opening history (Piece k (take taken piece)) (unwrap_or (option_map text_of answer) []))
      → ((opening : CacheValue) (history : List HistoryEntry) → ServerStands opening old history → ServerStands opening new (history ++ Piece k (take taken piece) ∷ []))
      → MovesSo 1 None k old before new after
  next_moves_so k old new before after piece taken answer still p q r s u same answers goes opening history entries stands h =
      let t : Talks old.prefix opening history entries k h.read h.sent before.left before.unsent = h.talks in
      let bytes : List ℕ = take taken piece in
      let told : List ℕ = unwrap_or (option_map text_of answer) [] in
      record {
        more = Piece k bytes ∷ [];
        theirs = (refl, tt);
        few = omega arith;
        stands = subst (λ (z : List HistoryEntry). ServerStands opening new z) (append_assoc history entries (Piece k bytes ∷ [])) (goes opening (history ++ entries) stands);
        same = same;
        holds = record {
          read = h.read;
          sent = h.sent;
          said = subst (λ (z : S). spoke k z h.read h.sent) (sym r) h.said;
          talks = record {
            came = t.came ++ bytes;
            earlier = t.earlier ++ (t.part ++ before.unsent);
            part = [];
            reading = t.reading ∙ ap (λ (z : List ℕ). t.came ++ z) (p ∙ sym (take-append-drop taken piece) ∙ ap (λ (z : List ℕ). bytes ++ z) (sym s)) ∙ sym (append_assoc t.came bytes after.left);
            sending = t.sending ∙ ap (λ (z : List ℕ). t.earlier ++ z) (sym (append-nil t.part) ∙ ap (λ (z : List ℕ). t.part ++ z) (sym q)) ∙ sym (append-nil (t.earlier ++ (t.part ++ before.unsent)));
            answered = subst (λ (z : List ℕ). Answered old.prefix opening history k (entries ++ Piece k bytes ∷ []) (t.came ++ bytes) (t.earlier ++ (t.part ++ before.unsent)) z) (text_unsent answer ∙ sym u)
                (talks.piece entries t.came t.earlier (t.part ++ before.unsent) bytes told t.answered (open_is opening old k (history ++ entries) stands still) (answers opening (history ++ entries) stands));
          };
        };
      }

  pub next_moves : (k : ℕ) (old new : ServerValue) (before after : MemberValue S) (piece : List ℕ) (taken : ℕ) (answer : Option AnswerValue)
      → IsOpenAt (session_at old k) → before.left ≡ piece → before.unsent ≡ [] → after.stream ≡ before.stream → after.left ≡ drop taken piece → after.unsent ≡ unsent_of answer 0
      → new.prefix ≡ old.prefix
      → ((opening : CacheValue) (history : List HistoryEntry) → ServerStands opening old history → IsOneAnswerTo old.prefix opening history (Piece k (take taken piece)) (unwrap_or (option_map text_of answer) []))
      → ((opening : CacheValue) (history : List HistoryEntry) → ServerStands opening old history → ServerStands opening new (history ++ Piece k (take taken piece) ∷ []))
      → MovesOn spoke over 1 None k old before new after
  next_moves k old new before after piece taken answer still p q r s u same answers goes = record { on = next_moves_so k old new before after piece taken answer still p q r s u same answers goes }

  next_fails_so : (k : ℕ) (old new : ServerValue) (before after : MemberValue S) (piece : List ℕ)
      → IsOpenAt (session_at old k) → before.left ≡ piece → after.stream ≡ before.stream → new.prefix ≡ old.prefix
      → ((opening : CacheValue) (history : List HistoryEntry) → ServerStands opening old history → StandsOrFails opening old k piece new history)
      → MovesSo 1 (Some (Err Memory)) k old before new after
  next_fails_so k old new before after piece still p r same fails opening history entries stands h = by_end (fails opening (history ++ entries) stands)
    where
      by_end : StandsOrFails opening old k piece new (history ++ entries) → HasMovedOn spoke over 1 (Some (Err Memory)) old.prefix opening history entries k after new
      by_end (inl (none, still, s)) = record {
        more = [];
        theirs = tt;
        few = omega arith;
        stands = subst (λ (z : List HistoryEntry). ServerStands opening new (history ++ z)) (sym (append-nil entries)) s;
        same = same;
        holds = record {
          read = h.read;
          sent = h.sent;
          left = before.left;
          unsent = before.unsent;
          said = subst (λ (z : S). spoke k z h.read h.sent) (sym r) h.said;
          talks = subst (λ (z : List HistoryEntry). Talks old.prefix opening history z k h.read h.sent before.left before.unsent) (sym (append-nil entries)) h.talks;
          may = inl refl;
        };
      }
      by_end (inr (front, rest, whole, s)) =
          let t : Talks old.prefix opening history entries k h.read h.sent before.left before.unsent = h.talks in
          record {
            more = Piece k front ∷ Fail k ∷ [];
            theirs = (refl, (refl, tt));
            few = omega arith;
            stands = subst (λ (z : List HistoryEntry). ServerStands opening new z) (append_assoc history entries (Piece k front ∷ Fail k ∷ [])) s;
            same = same;
            holds = record {
              read = h.read;
              sent = h.sent;
              left = rest;
              unsent = before.unsent;
              said = subst (λ (z : S). spoke k z h.read h.sent) (sym r) h.said;
              talks = record {
                came = t.came ++ front;
                earlier = t.earlier;
                part = t.part;
                reading = t.reading ∙ ap (λ (z : List ℕ). t.came ++ z) (p ∙ whole) ∙ sym (append_assoc t.came front rest);
                sending = t.sending;
                answered = talks.lost entries t.came t.earlier (t.part ++ before.unsent) front t.answered (open_is opening old k (history ++ entries) stands still);
              };
              may = inl refl;
            };
          }

  pub next_fails : (k : ℕ) (old new : ServerValue) (before after : MemberValue S) (piece : List ℕ)
      → IsOpenAt (session_at old k) → before.left ≡ piece → after.stream ≡ before.stream → new.prefix ≡ old.prefix
      → ((opening : CacheValue) (history : List HistoryEntry) → ServerStands opening old history → StandsOrFails opening old k piece new history)
      → MovesOn spoke over 1 (Some (Err Memory)) k old before new after
  next_fails k old new before after piece still p r same fails = record { on = next_fails_so k old new before after piece still p r same fails }
