-- Open connections, each under its number, as the server goes on.
use Rattle.std.proofs.Common.{◌≡◌, ℕ, ◌+◌, ◌<◌, ◌≤◌, ◌⊎◌, inl, inr, Bool, true, false, Option, Some, None, List, [], ◌∷◌, ◌++◌, refl, sym, ◌∙◌, ap, subst, append_assoc, arith}
use Rattle.std.proofs.Math.Dec.{eqb}
use Rattle.std.proofs.lemmas.Bool.{cases_lt}
use Rattle.std.proofs.lemmas.Bool.Decides.{eqb_tells}
use Rattle.std.proofs.lemmas.List.{append-nil}
use Rattle.cache_server.specs.Cache.{CacheValue}
use Rattle.cache_server.specs.History.{HistoryEntry, End}
use Rattle.std.specs.Prelude.{Ok, Err, if◌then◌else◌, option_map, ⊤}
use Rattle.cache_server.specs.Server.{ServerValue, ServerStands, LeadsTo, IsOpenAt, session_at}
use Rattle.cache_server.specs.declared.error.ConnError.{ConnError}
use Rattle.cache_server.specs.declared.error.ConnError.TheVariants.{Memory, ReadFault}
use Rattle.service.specs.Sockets.{Cause, EndsAs, EndsAtOnce, Failed, Finished, Shut, Silent, Stays, Why}
use Rattle.service.specs.Talks.{entry_number, AreOfOthers, IsShut, IsReason, OrCutOff, HasEnded, AreBelow, ServesEach}
use Rattle.service.specs.Talks as talks
use Rattle.service.specs.Member.{MemberValue, TalksOn, MayEndNow, AreOf, HasMovedOn, IsLetGo, in_queue, marked_by, new_member, roused, tells_of}
use Rattle.service.specs.Together.{member_at, TalksOrEnded, KeepsTogether, GoesOnTogether, AreSame, AreSameButHeld, AreMarkedBy, OthersAreSame, MovesOnAt, MayEndAt, EntersAt, EndsAt, EndsIfAny, Members}
use Rattle.service.specs.declared.sockets.Ready.{Ready}
use Rattle.service.proofs.Talking.{apart_from_own, holds_apart, ended_before, answered_apart, may_end, talks_as}

-- ---- numbers below a count

apart_from_below : (k : ℕ) (entries : List HistoryEntry) → AreBelow k entries → AreOfOthers k entries
apart_from_below k [] t = tt
apart_from_below k (e ∷ es) (b, bs) = (λ (x : entry_number e ≡ k). let c : k < k = subst (λ (z : ℕ). z < k) x b in absurd (omega arith), apart_from_below k es bs)

below_own : (k n : ℕ) (entries : List HistoryEntry) → k < n → AreOf k entries → AreBelow n entries
below_own k n [] h t = tt
below_own k n (e ∷ es) h (o, os) = (subst (λ (z : ℕ). z < n) (sym o) h, below_own k n es h os)

both_below : (n : ℕ) (some more : List HistoryEntry) → AreBelow n some → AreBelow n more → AreBelow n (some ++ more)
both_below n [] more t bs = bs
both_below n (e ∷ some) more (b, ts) bs = (b, both_below n some more ts bs)

below_more : (n : ℕ) (entries : List HistoryEntry) → AreBelow n entries → AreBelow (n + 1) entries
below_more n [] t = tt
below_more n (e ∷ es) (b, bs) = (omega arith, below_more n es bs)

pub none_is_some : {A X : Type 0} (o : Option A) (x : A) → o ≡ Some x → o ≡ None → X
none_is_some o x e f = let g : Some x ≡ None = sym e ∙ f in cc

-- the same, but for what it waits for
abbrev pub Alike : {S : Type 0} → (ℕ → S → List ℕ → List ℕ → Type 0) → Option (MemberValue S) → Option (MemberValue S) → Type 0
Alike spoke None None = ⊤
Alike spoke None (Some n) = ⊥
Alike spoke (Some m) None = ⊥
Alike spoke (Some m) (Some n) = Stays spoke m.stream n.stream × (n.left ≡ m.left) × (n.unsent ≡ m.unsent)

pub none_alike : {S : Type 0} (spoke : ℕ → S → List ℕ → List ℕ → Type 0) (o p : Option (MemberValue S)) → Alike spoke o p → o ≡ None → p ≡ None
none_alike spoke o None alike none = refl
none_alike spoke None (Some m) alike none = absurd alike
none_alike spoke (Some n) (Some m) alike none = absurd cc

same_alike : {S : Type 0} (spoke : ℕ → S → List ℕ → List ℕ → Type 0) (o : Option (MemberValue S)) → Alike spoke o o
same_alike spoke None = tt
same_alike spoke (Some m) = (λ k read sent said. said, refl, refl)

let_go_alike : {S : Type 0} (spoke : ℕ → S → List ℕ → List ℕ → Type 0) (now : ℕ) (o p : Option (MemberValue S)) → IsLetGo spoke now o p → Alike spoke o p
let_go_alike spoke now None p none = subst (λ q. Alike spoke None q) (sym none) tt
let_go_alike spoke now (Some m) p (stream, stays, is) = subst (λ q. Alike spoke (Some m) q) (sym is) (stays, refl, refl)

pub held_alike : {S : Type 0} (spoke : ℕ → S → List ℕ → List ℕ → Type 0) (now : ℕ) (o p : Option (MemberValue S)) → (p ≡ o) ⊎ IsLetGo spoke now o p → Alike spoke o p
held_alike spoke now o p (inl same) = subst (λ q. Alike spoke o q) (sym same) (same_alike spoke o)
held_alike spoke now o p (inr free) = let_go_alike spoke now o p free

marked_alike : {S : Type 0} (spoke : ℕ → S → List ℕ → List ℕ → Type 0) (events : List Ready) (k : ℕ) (m n : MemberValue S) → Alike spoke (Some m) (Some n) → Alike spoke (Some m) (Some (marked_by events k n))
marked_alike spoke [] k m n alike = alike
marked_alike spoke (event ∷ events) k m n alike = marked_alike spoke events k m (if tells_of k event then in_queue (roused event n) else n) (by (tells_of k event))
  where
    by : (own : Bool) → Alike spoke (Some m) (Some (if own then in_queue (roused event n) else n))
    by true = alike
    by false = alike

all_marked_alike : {S : Type 0} (spoke : ℕ → S → List ℕ → List ℕ → Type 0) (events : List Ready) (k : ℕ) (o : Option (MemberValue S)) → Alike spoke o (option_map (marked_by events k) o)
all_marked_alike spoke events k None = tt
all_marked_alike spoke events k (Some m) = marked_alike spoke events k m m (same_alike spoke (Some m))

told_alike : {S : Type 0} (spoke : ℕ → S → List ℕ → List ℕ → Type 0) (events : List Ready) (k : ℕ) (o p : Option (MemberValue S)) → p ≡ option_map (marked_by events k) o → Alike spoke o p
told_alike spoke events k o p told = subst (λ q. Alike spoke o q) (sym told) (all_marked_alike spoke events k o)

-- one of them is queued for a turn
pub queued_alike : {S : Type 0} (spoke : ℕ → S → List ℕ → List ℕ → Type 0) (k : ℕ) (l m : Members S) → member_at m k ≡ option_map in_queue (member_at l k) → OthersAreSame k l m → (j : ℕ) → Alike spoke (member_at l j) (member_at m j)
queued_alike {S} spoke k l m at others j = by_test (eqb_tells j k)
  where
    own : (o : Option (MemberValue S)) → Alike spoke o (option_map in_queue o)
    own None = tt
    own (Some n) = same_alike spoke (Some n)

    by_test : ((eqb j k ≡ true) × (j ≡ k)) ⊎ ((eqb j k ≡ false) × (j ≡ k → ⊥)) → Alike spoke (member_at l j) (member_at m j)
    by_test (inl (t, e)) = subst (λ (i : ℕ). Alike spoke (member_at l i) (member_at m i)) (sym e) (subst (λ o. Alike spoke (member_at l k) o) (sym at) (own (member_at l k)))
    by_test (inr (f, n)) = subst (λ o. Alike spoke (member_at l j) o) (sym (others j n)) (same_alike spoke (member_at l j))

-- ---- why a connection may end

uncut : (cut : Bool) (why : Why) (P : Type 0) → P → OrCutOff cut why P
uncut true why P h = inl h
uncut false why P h = h

lost_reason : (over : Cause → Type 0) (shut : Type 0) (lost : Cause → Type 0) (left unsent : List ℕ) (why : Why) → ((cause : Cause) → over cause → lost cause) → IsReason over shut left unsent why → IsReason lost shut left unsent why
lost_reason over shut lost left unsent (Ok done) f (inl (o, p, q)) = inl (f Finished o, p, q)
lost_reason over shut lost left unsent (Ok done) f (inr (h, o, q)) = inr (h, f Shut o, q)
lost_reason over shut lost left unsent (Err e) f (inl none) = inl none
lost_reason over shut lost left unsent (Err e) f (inr (inl o)) = inr (inl (f (Failed e) o))
lost_reason over shut lost left unsent (Err e) f (inr (inr (o, q))) = inr (inr (f Silent o, q))

lost_may : (cut : Bool) (over : Cause → Type 0) (shut : Type 0) (lost : Cause → Type 0) (left unsent : List ℕ) (why : Why) → ((cause : Cause) → over cause → lost cause) → OrCutOff cut why (IsReason over shut left unsent why) → OrCutOff cut why (IsReason lost shut left unsent why)
lost_may true over shut lost left unsent why f (inl h) = inl (lost_reason over shut lost left unsent why f h)
lost_may true over shut lost left unsent why f (inr told) = inr told
lost_may false over shut lost left unsent why f h = lost_reason over shut lost left unsent why f h

pub keeps_further : {S : Type 0} {cut : Bool} {spoke : ℕ → S → List ℕ → List ℕ → Type 0} {ended : ℕ → List ℕ → List ℕ → Why → Type 0} {lost : ℕ → Cause → Type 0} {l m n : Members S} {a b c : ℕ} {s t u : ServerValue}
    → GoesOnTogether cut spoke ended lost l a s m b t → GoesOnTogether cut spoke ended lost m b t n c u → GoesOnTogether cut spoke ended lost l a s n c u
keeps_further p q = record { on = λ prefix opening history keeps. q.on prefix opening history (p.on prefix opening history keeps) }

module _ {S : Type 0} (cut : Bool) (spoke : ℕ → S → List ℕ → List ℕ → Type 0) (ended : ℕ → List ℕ → List ℕ → Why → Type 0) (lost : ℕ → Cause → Type 0) where
  abbrev KeepsSo : Members S → ℕ → ServerValue → Members S → ℕ → ServerValue → Type 0
  KeepsSo members accepted server members' accepted' server' =
      (prefix : List ℕ) (opening : CacheValue) (history : List HistoryEntry)
      → KeepsTogether cut spoke ended lost prefix opening history members accepted server → KeepsTogether cut spoke ended lost prefix opening history members' accepted' server'

  pub keeps_nowhere : (members : Members S) (accepted : ℕ) (server : ServerValue) → GoesOnTogether cut spoke ended lost members accepted server members accepted server
  keeps_nowhere members accepted server = record { on = λ prefix opening history keeps. keeps }

  keeps_same_so : (members members' : Members S) (accepted : ℕ) (server : ServerValue) → AreSame members members' → KeepsSo members accepted server members' accepted server
  keeps_same_so members members' accepted server same prefix opening history keeps = record {
    entries = keeps.entries;
    stands = keeps.stands;
    same = keeps.same;
    theirs = keeps.theirs;
    each = λ k h. subst (TalksOrEnded cut spoke ended lost prefix opening history keeps.entries k) (sym (same.0 k)) (keeps.each k h);
    fresh = λ k h. same.0 k ∙ keeps.fresh k h;
  }

  alike_talks : (prefix : List ℕ) (opening : CacheValue) (history entries : List HistoryEntry) (k : ℕ) (o p : Option (MemberValue S)) → Alike spoke o p
      → TalksOrEnded cut spoke ended lost prefix opening history entries k o → TalksOrEnded cut spoke ended lost prefix opening history entries k p
  alike_talks prefix opening history entries k None None alike h = h
  alike_talks prefix opening history entries k None (Some m) alike h = absurd alike
  alike_talks prefix opening history entries k (Some m) None alike h = absurd alike
  alike_talks prefix opening history entries k (Some m) (Some n) (stays, left, unsent) h = record {
    read = h.read;
    sent = h.sent;
    said = stays k h.read h.sent h.said;
    talks = talks_as prefix opening history entries k h.read h.sent m.left m.unsent n.left n.unsent left unsent h.talks;
  }

  keeps_alike : (members members' : Members S) (accepted : ℕ) (server : ServerValue) → ((k : ℕ) → Alike spoke (member_at members k) (member_at members' k)) → GoesOnTogether cut spoke ended lost members accepted server members' accepted server
  keeps_alike members members' accepted server alike = record {
    on = λ prefix opening history keeps. record {
      entries = keeps.entries;
      stands = keeps.stands;
      same = keeps.same;
      theirs = keeps.theirs;
      each = λ k h. alike_talks prefix opening history keeps.entries k (member_at members k) (member_at members' k) (alike k) (keeps.each k h);
      fresh = λ k h. none_alike spoke (member_at members k) (member_at members' k) (alike k) (keeps.fresh k h);
    };
  }

  -- which of them wait for others makes no difference
  pub keeps_but_held : (now : ℕ) (members members' : Members S) (accepted : ℕ) (server : ServerValue) → AreSameButHeld spoke now members members' → GoesOnTogether cut spoke ended lost members accepted server members' accepted server
  keeps_but_held now members members' accepted server same = keeps_alike members members' accepted server (λ k. held_alike spoke now (member_at members k) (member_at members' k) (same.0 k))

  -- nor does who is queued
  pub keeps_queued : (k : ℕ) (members members' : Members S) (accepted : ℕ) (server : ServerValue) → member_at members' k ≡ option_map in_queue (member_at members k) → OthersAreSame k members members' → GoesOnTogether cut spoke ended lost members accepted server members' accepted server
  keeps_queued k members members' accepted server at others = keeps_alike members members' accepted server (queued_alike spoke k members members' at others)

  -- nor does what the system tells
  pub keeps_told : (events : List Ready) (members members' : Members S) (accepted : ℕ) (server : ServerValue) → AreMarkedBy events members members' → GoesOnTogether cut spoke ended lost members accepted server members' accepted server
  keeps_told events members members' accepted server told = keeps_alike members members' accepted server (λ k. told_alike spoke events k (member_at members k) (member_at members' k) (told.0 k))

  pub keeps_same : (members members' : Members S) (accepted : ℕ) (server : ServerValue) → AreSame members members' → GoesOnTogether cut spoke ended lost members accepted server members' accepted server
  keeps_same members members' accepted server same = record { on = keeps_same_so members members' accepted server same }

  module _ (prefix : List ℕ) (opening : CacheValue) (history : List HistoryEntry) where
    is_open : (members : Members S) (accepted : ℕ) (server : ServerValue) (k : ℕ) (m : MemberValue S)
        → KeepsTogether cut spoke ended lost prefix opening history members accepted server → member_at members k ≡ Some m → k < accepted
    is_open members accepted server k m keeps e = by_order (cases_lt k accepted)
      where
        by_order : (k < accepted) ⊎ (accepted ≤ k) → k < accepted
        by_order (inl h) = h
        by_order (inr h) = none_is_some (member_at members k) m e (keeps.fresh k h)

    holds_at : (members : Members S) (accepted : ℕ) (server : ServerValue) (k : ℕ) (m : MemberValue S)
        → (keeps : KeepsTogether cut spoke ended lost prefix opening history members accepted server) → member_at members k ≡ Some m → TalksOn spoke prefix opening history keeps.entries k m
    holds_at members accepted server k m keeps e =
        subst (TalksOrEnded cut spoke ended lost prefix opening history keeps.entries k) e (keeps.each k (is_open members accepted server k m keeps e))

    either_apart : (j : ℕ) (o : Option (MemberValue S)) (more entries : List HistoryEntry) → AreOfOthers j more
        → TalksOrEnded cut spoke ended lost prefix opening history entries j o → TalksOrEnded cut spoke ended lost prefix opening history (entries ++ more) j o
    either_apart j None more entries ns h = ended_before prefix opening history cut ended lost j more entries ns h
    either_apart j (Some m) more entries ns h = holds_apart prefix opening history spoke j more entries m ns h

    -- entries of an open connection alone, after which it stands so
    keeps_with : (members members' : Members S) (accepted : ℕ) (old new : ServerValue) (k : ℕ) (more : List HistoryEntry)
        → (keeps : KeepsTogether cut spoke ended lost prefix opening history members accepted old)
        → k < accepted → AreOf k more → OthersAreSame k members members'
        → ServerStands opening new (history ++ (keeps.entries ++ more)) → new.prefix ≡ prefix
        → TalksOrEnded cut spoke ended lost prefix opening history (keeps.entries ++ more) k (member_at members' k)
        → KeepsTogether cut spoke ended lost prefix opening history members' accepted new
    keeps_with members members' accepted old new k more keeps h own others stands same now = record {
      entries = keeps.entries ++ more;
      stands = stands;
      same = same;
      theirs = both_below accepted keeps.entries more keeps.theirs (below_own k accepted more h own);
      each = λ j below. by_test j below (eqb_tells j k);
      fresh = λ j above. others j (λ (e : j ≡ k). let c : k < j = omega arith in absurd (omega arith)) ∙ keeps.fresh j above;
    }
      where
        by_test : (j : ℕ) → j < accepted → ((eqb j k ≡ true) × (j ≡ k)) ⊎ ((eqb j k ≡ false) × (j ≡ k → ⊥))
            → TalksOrEnded cut spoke ended lost prefix opening history (keeps.entries ++ more) j (member_at members' j)
        by_test j below (inl (t, e)) = subst (λ (i : ℕ). TalksOrEnded cut spoke ended lost prefix opening history (keeps.entries ++ more) i (member_at members' i)) (sym e) now
        by_test j below (inr (f, n)) =
            subst (TalksOrEnded cut spoke ended lost prefix opening history (keeps.entries ++ more) j) (sym (others j n))
            (either_apart j (member_at members j) more keeps.entries (apart_from_own k j more n own) (keeps.each j below))

    moved_at : {most : ℕ} (over : S → Cause → Type 0) (b : Option Why) (members members' : Members S) (accepted : ℕ) (old new : ServerValue) (k : ℕ)
        → (moves : MovesOnAt spoke over most b k old members new members') → (keeps : KeepsTogether cut spoke ended lost prefix opening history members accepted old)
        → HasMovedOn spoke over most b prefix opening history keeps.entries k moves.after new
    moved_at {most} over b members members' accepted old new k moves keeps =
        subst (λ (z : List ℕ). HasMovedOn spoke over most b z opening history keeps.entries k moves.after new) keeps.same
        (moves.moves.on opening history keeps.entries keeps.stands
        (subst (λ (z : List ℕ). TalksOn spoke z opening history keeps.entries k moves.before) (sym keeps.same) (holds_at members accepted old k moves.before keeps moves.held)))

    has_ended : (over : S → Cause → Type 0) (entries : List HistoryEntry) (k : ℕ) (stream : S) (why : Why) → EndsAs spoke over stream why ended lost → MayEndNow spoke prefix opening history entries k over stream why
        → HasEnded cut ended lost prefix opening history (entries ++ End k ∷ []) k
    has_ended over entries k stream why ends l = record {
      before = entries;
      after = [];
      whole = refl;
      last = tt;
      read = l.read;
      sent = l.sent;
      left = l.left;
      unsent = l.unsent;
      why = why;
      is = ends.said k l.read l.sent l.said;
      talks = l.talks;
      may = lost_may cut (over stream) (IsShut prefix k (history ++ entries)) (lost k) l.left l.unsent why (λ cause. ends.found k l.read l.sent cause l.said)
          (uncut cut why (IsReason (over stream) (IsShut prefix k (history ++ entries)) l.left l.unsent why) l.may);
    }

  keeps_moved_so : {most : ℕ} (over : S → Cause → Type 0) (members members' : Members S) (accepted : ℕ) (old new : ServerValue) (k : ℕ)
      → MovesOnAt spoke over most None k old members new members' → KeepsSo members accepted old members' accepted new
  keeps_moved_so {most} over members members' accepted old new k moves prefix opening history keeps =
      let x : HasMovedOn spoke over most None prefix opening history keeps.entries k moves.after new = moved_at prefix opening history over None members members' accepted old new k moves keeps in
      keeps_with prefix opening history members members' accepted old new k x.more keeps
      (is_open prefix opening history members accepted old k moves.before keeps moves.held) x.theirs moves.others x.stands x.same
      (subst (TalksOrEnded cut spoke ended lost prefix opening history (keeps.entries ++ x.more) k) (sym moves.at) x.holds)

  pub keeps_moved : {most : ℕ} (over : S → Cause → Type 0) (members members' : Members S) (accepted : ℕ) (old new : ServerValue) (k : ℕ)
      → MovesOnAt spoke over most None k old members new members' → GoesOnTogether cut spoke ended lost members accepted old members' accepted new
  keeps_moved over members members' accepted old new k moves = record { on = keeps_moved_so over members members' accepted old new k moves }

  -- it moved on, and was ended then
  left_so : {most : ℕ} (over : S → Cause → Type 0) (why : Why) (members mid members' : Members S) (accepted : ℕ) (old between new : ServerValue) (k : ℕ)
      → MovesOnAt spoke over most (Some why) k old members between mid → EndsIfAny spoke over ended lost k why between mid new members' → KeepsSo members accepted old members' accepted new
  left_so {most} over why members mid members' accepted old between new k moves (inr (none, same, all)) prefix opening history keeps = none_is_some (member_at mid k) moves.after moves.at none
  left_so {most} over why members mid members' accepted old between new k moves (inl ends) prefix opening history keeps =
      let x : HasMovedOn spoke over most (Some why) prefix opening history keeps.entries k moves.after between = moved_at prefix opening history over (Some why) members mid accepted old between k moves keeps in
      keeps_with prefix opening history members members' accepted old new k (x.more ++ End k ∷ []) keeps
      (is_open prefix opening history members accepted old k moves.before keeps moves.held) (own_end x.more x.theirs)
      (λ j n. ends.others j n ∙ moves.others j n)
      (subst (λ (z : List HistoryEntry). ServerStands opening new z) (append_assoc history (keeps.entries ++ x.more) (End k ∷ []) ∙ ap (λ (z : List HistoryEntry). history ++ z) (append_assoc keeps.entries x.more (End k ∷ []))) (ends.stands opening (history ++ (keeps.entries ++ x.more)) x.stands))
      (ends.same ∙ x.same)
      (subst (TalksOrEnded cut spoke ended lost prefix opening history (keeps.entries ++ (x.more ++ End k ∷ [])) k) (sym ends.gone)
      (subst (λ (z : List HistoryEntry). HasEnded cut ended lost prefix opening history z k) (append_assoc keeps.entries x.more (End k ∷ []))
      (has_ended prefix opening history over (keeps.entries ++ x.more) k ends.m.stream why ends.ends
      (subst (λ (z : MemberValue S). MayEndNow spoke prefix opening history (keeps.entries ++ x.more) k over z.stream why) (same_member (member_at mid k) moves.at ends.held) x.holds))))
    where
      own_end : (more : List HistoryEntry) → AreOf k more → AreOf k (more ++ End k ∷ [])
      own_end [] t = (refl, tt)
      own_end (e ∷ es) (o, os) = (o, own_end es os)

      same_member : (o : Option (MemberValue S)) → o ≡ Some moves.after → o ≡ Some ends.m → moves.after ≡ ends.m
      same_member o p q = cc

  pub keeps_left : {most : ℕ} (over : S → Cause → Type 0) (why : Why) (members mid members' : Members S) (accepted : ℕ) (old between new : ServerValue) (k : ℕ)
      → MovesOnAt spoke over most (Some why) k old members between mid → EndsIfAny spoke over ended lost k why between mid new members' → GoesOnTogether cut spoke ended lost members accepted old members' accepted new
  keeps_left over why members mid members' accepted old between new k moves ends = record { on = left_so over why members mid members' accepted old between new k moves ends }

  -- it may end so, whatever led to the server
  abbrev MayEndSo : (S → Cause → Type 0) → ℕ → ServerValue → MemberValue S → Why → Type 0
  MayEndSo over k server m why =
      (prefix : List ℕ) (opening : CacheValue) (history entries : List HistoryEntry) → ServerStands opening server (history ++ entries) → server.prefix ≡ prefix
      → OrCutOff cut why (IsReason (over m.stream) (IsShut prefix k (history ++ entries)) m.left m.unsent why)

  ended_so : (over : S → Cause → Type 0) (why : Why) (members members' : Members S) (accepted : ℕ) (old new : ServerValue) (k : ℕ)
      → (ends : EndsAt spoke over ended lost k why old members new members') → MayEndSo over k old ends.m why → KeepsSo members accepted old members' accepted new
  ended_so over why members members' accepted old new k ends may prefix opening history keeps =
      let h : TalksOn spoke prefix opening history keeps.entries k ends.m = holds_at prefix opening history members accepted old k ends.m keeps ends.held in
      let m : OrCutOff cut why (IsReason (over ends.m.stream) (IsShut prefix k (history ++ keeps.entries)) ends.m.left ends.m.unsent why) = may prefix opening history keeps.entries keeps.stands keeps.same in
      keeps_with prefix opening history members members' accepted old new k (End k ∷ []) keeps
      (is_open prefix opening history members accepted old k ends.m keeps ends.held) (refl, tt) ends.others
      (subst (λ (z : List HistoryEntry). ServerStands opening new z) (append_assoc history keeps.entries (End k ∷ [])) (ends.stands opening (history ++ keeps.entries) keeps.stands))
      (ends.same ∙ keeps.same)
      (subst (TalksOrEnded cut spoke ended lost prefix opening history (keeps.entries ++ End k ∷ []) k) (sym ends.gone) (record {
        before = keeps.entries;
        after = [];
        whole = refl;
        last = tt;
        read = h.read;
        sent = h.sent;
        left = ends.m.left;
        unsent = ends.m.unsent;
        why = why;
        is = ends.ends.said k h.read h.sent h.said;
        talks = h.talks;
        may = lost_may cut (over ends.m.stream) (IsShut prefix k (history ++ keeps.entries)) (lost k) ends.m.left ends.m.unsent why (λ cause. ends.ends.found k h.read h.sent cause h.said) m;
      }))

  keeps_ended_so : (over : S → Cause → Type 0) (why : Why) (members members' : Members S) (accepted : ℕ) (old new : ServerValue) (k : ℕ)
      → ((m : MemberValue S) → member_at members k ≡ Some m → MayEndSo over k old m why) → EndsIfAny spoke over ended lost k why old members new members' → GoesOnTogether cut spoke ended lost members accepted old members' accepted new
  keeps_ended_so over why members members' accepted old new k may (inr (none, same, all)) =
      subst (λ (z : ServerValue). GoesOnTogether cut spoke ended lost members accepted old members' accepted z) (sym same) (keeps_same members members' accepted old all)
  keeps_ended_so over why members members' accepted old new k may (inl ends) = record { on = ended_so over why members members' accepted old new k ends (may ends.m ends.held) }

  -- it is ended as it may be
  pub keeps_ended : (over : S → Cause → Type 0) (why : Why) (members members' : Members S) (accepted : ℕ) (old new : ServerValue) (k : ℕ)
      → MayEndAt over k old members why → EndsIfAny spoke over ended lost k why old members new members' → GoesOnTogether cut spoke ended lost members accepted old members' accepted new
  keeps_ended over why members members' accepted old new k may ends = keeps_ended_so over why members members' accepted old new k so ends
    where
      same_member : (o : Option (MemberValue S)) (m : MemberValue S) → o ≡ Some may.m → o ≡ Some m → may.m ≡ m
      same_member o m p q = cc

      so : (m : MemberValue S) → member_at members k ≡ Some m → MayEndSo over k old m why
      so m e prefix opening history entries stands same =
          uncut cut why (IsReason (over m.stream) (IsShut prefix k (history ++ entries)) m.left m.unsent why)
          (may_end opening old k (history ++ entries) prefix (over m.stream) m.left m.unsent why stands same
          (subst (λ (z : MemberValue S). IsReason (over z.stream) (IsOpenAt (session_at old k) → ⊥) z.left z.unsent why) (same_member (member_at members k) m may.held e) may.may))

  -- without memory it may end at any time
  pub keeps_lost : {most : ℕ} (over : S → Cause → Type 0) (members mid members' : Members S) (accepted : ℕ) (old between new : ServerValue) (k : ℕ)
      → MovesOnAt spoke over most None k old members between mid → EndsIfAny spoke over ended lost k (Err Memory) between mid new members' → GoesOnTogether cut spoke ended lost members accepted old members' accepted new
  keeps_lost over members mid members' accepted old between new k moves ends =
      keeps_further (keeps_moved over members mid accepted old between k moves)
      (keeps_ended_so over (Err Memory) mid members' accepted between new k (λ m e prefix opening history entries stands same. uncut cut (Err Memory) (IsReason (over m.stream) (IsShut prefix k (history ++ entries)) m.left m.unsent (Err Memory)) (inl refl)) ends)

  keeps_entered_so : (members members' : Members S) (accepted : ℕ) (server : ServerValue) (stream : S) (now : ℕ)
      → spoke accepted stream [] [] → EntersAt accepted stream now members members' → KeepsSo members accepted server members' (accepted + 1) server
  keeps_entered_so members members' accepted server stream now said enters prefix opening history keeps = record {
    entries = keeps.entries;
    stands = keeps.stands;
    same = keeps.same;
    theirs = below_more accepted keeps.entries keeps.theirs;
    each = λ j below. by_test j below (eqb_tells j accepted);
    fresh = λ j above. enters.others j (λ (e : j ≡ accepted). absurd (omega arith)) ∙ keeps.fresh j (omega arith);
  }
    where
      talks_on : TalksOn spoke prefix opening history keeps.entries accepted (in_queue (new_member stream now))
      talks_on = record {
        read = [];
        sent = [];
        said = said;
        talks = record {
          came = [];
          earlier = [];
          part = [];
          reading = refl;
          sending = refl;
          answered = answered_apart prefix opening history accepted keeps.entries [] [] [] [] (apart_from_below accepted keeps.entries keeps.theirs) talks.none;
        };
      }

      by_test : (j : ℕ) → j < accepted + 1 → ((eqb j accepted ≡ true) × (j ≡ accepted)) ⊎ ((eqb j accepted ≡ false) × (j ≡ accepted → ⊥))
          → TalksOrEnded cut spoke ended lost prefix opening history keeps.entries j (member_at members' j)
      by_test j below (inl (t, e)) =
          subst (λ (i : ℕ). TalksOrEnded cut spoke ended lost prefix opening history keeps.entries i (member_at members' i)) (sym e)
          (subst (TalksOrEnded cut spoke ended lost prefix opening history keeps.entries accepted) (sym enters.at) talks_on)
      by_test j below (inr (f, n)) =
          subst (TalksOrEnded cut spoke ended lost prefix opening history keeps.entries j) (sym (enters.others j n)) (keeps.each j (less (cases_lt j accepted)))
        where
          less : (j < accepted) ⊎ (accepted ≤ j) → j < accepted
          less (inl h) = h
          less (inr h) = absurd (n (omega arith))

  pub keeps_entered : (members members' : Members S) (accepted : ℕ) (server : ServerValue) (stream : S) (now : ℕ)
      → spoke accepted stream [] [] → EntersAt accepted stream now members members' → GoesOnTogether cut spoke ended lost members accepted server members' (accepted + 1) server
  keeps_entered members members' accepted server stream now said enters = record { on = keeps_entered_so members members' accepted server stream now said enters }

  -- it has ended as it was accepted, and the server was told
  pub keeps_refused : (members members' : Members S) (accepted : ℕ) (old new : ServerValue) (why : ConnError)
      → EndsAtOnce ended lost accepted why → AreSame members members' → new.prefix ≡ old.prefix → LeadsTo old (End accepted) new
      → GoesOnTogether cut spoke ended lost members accepted old members' (accepted + 1) new
  keeps_refused members members' accepted old new why e same prefix_is leads = record { on = so }
    where
      reason : (shut : Type 0) → (why ≡ Memory) ⊎ lost accepted (Failed why) → IsReason (lost accepted) shut [] [] (Err why)
      reason shut (inl none) = inl none
      reason shut (inr failed) = inr (inl failed)

      less : (j : ℕ) → j < accepted + 1 → (j ≡ accepted → ⊥) → (j < accepted) ⊎ (accepted ≤ j) → j < accepted
      less j below n (inl h) = h
      less j below n (inr h) = absurd (n (omega arith))

      so : KeepsSo members accepted old members' (accepted + 1) new
      so prefix opening history keeps = record {
        entries = keeps.entries ++ End accepted ∷ [];
        stands = subst (λ (z : List HistoryEntry). ServerStands opening new z) (append_assoc history keeps.entries (End accepted ∷ [])) (leads opening (history ++ keeps.entries) keeps.stands);
        same = prefix_is ∙ keeps.same;
        theirs = both_below (accepted + 1) keeps.entries (End accepted ∷ []) (below_more accepted keeps.entries keeps.theirs) (omega arith, tt);
        each = λ j below. by_test j below (eqb_tells j accepted);
        fresh = λ j above. same.0 j ∙ keeps.fresh j (omega arith);
      }
        where
          own : HasEnded cut ended lost prefix opening history (keeps.entries ++ End accepted ∷ []) accepted
          own = record {
            before = keeps.entries;
            after = [];
            whole = refl;
            last = tt;
            read = [];
            sent = [];
            left = [];
            unsent = [];
            why = Err why;
            is = e.is;
            talks = record {
              came = [];
              earlier = [];
              part = [];
              reading = refl;
              sending = refl;
              answered = answered_apart prefix opening history accepted keeps.entries [] [] [] [] (apart_from_below accepted keeps.entries keeps.theirs) talks.none;
            };
            may = uncut cut (Err why) (IsReason (lost accepted) (IsShut prefix accepted (history ++ keeps.entries)) [] [] (Err why)) (reason (IsShut prefix accepted (history ++ keeps.entries)) e.may);
          }

          by_test : (j : ℕ) → j < accepted + 1 → ((eqb j accepted ≡ true) × (j ≡ accepted)) ⊎ ((eqb j accepted ≡ false) × (j ≡ accepted → ⊥))
              → TalksOrEnded cut spoke ended lost prefix opening history (keeps.entries ++ End accepted ∷ []) j (member_at members' j)
          by_test j below (inl (t, is)) =
              subst (λ (i : ℕ). TalksOrEnded cut spoke ended lost prefix opening history (keeps.entries ++ End accepted ∷ []) i (member_at members' i)) (sym is)
              (subst (TalksOrEnded cut spoke ended lost prefix opening history (keeps.entries ++ End accepted ∷ []) accepted) (sym (same.0 accepted ∙ keeps.fresh accepted (omega arith))) own)
          by_test j below (inr (f, n)) =
              subst (TalksOrEnded cut spoke ended lost prefix opening history (keeps.entries ++ End accepted ∷ []) j) (sym (same.0 j))
              (either_apart prefix opening history j (member_at members j) (End accepted ∷ []) keeps.entries ((λ (x : accepted ≡ j). n (sym x)), tt) (keeps.each j (less j below n (cases_lt j accepted))))

  -- ---- the whole run

  pub keeps_first : (opening : CacheValue) (history : List HistoryEntry) (members : Members S) (server : ServerValue)
      → members ≡ [] → ServerStands opening server history → KeepsTogether cut spoke ended lost server.prefix opening history members 0 server
  keeps_first opening history members server e stands = record {
    entries = [];
    stands = subst (ServerStands opening server) (sym (append-nil history)) stands;
    same = refl;
    theirs = tt;
    each = λ k h. absurd (omega arith);
    fresh = λ k h. ap (λ (z : Members S). member_at z k) e;
  }

  pub keeps_all : (prefix : List ℕ) (opening : CacheValue) (history : List HistoryEntry) (members : Members S) (accepted : ℕ) (server : ServerValue)
      → ((k : ℕ) → k < accepted → member_at members k ≡ None) → KeepsTogether cut spoke ended lost prefix opening history members accepted server → ServesEach cut ended lost prefix opening history accepted server
  keeps_all prefix opening history members accepted server gone keeps = record {
    entries = keeps.entries;
    stands = keeps.stands;
    theirs = keeps.theirs;
    each = λ k h. subst (TalksOrEnded cut spoke ended lost prefix opening history keeps.entries k) (gone k h) (keeps.each k h);
  }

-- ---- the run is cut off

cut_talks : {S : Type 0} (spoke : ℕ → S → List ℕ → List ℕ → Type 0) (ended : ℕ → List ℕ → List ℕ → Why → Type 0) (lost : ℕ → Cause → Type 0) (prefix : List ℕ) (opening : CacheValue) (history entries : List HistoryEntry) (k : ℕ) (o : Option (MemberValue S))
    → TalksOrEnded false spoke ended lost prefix opening history entries k o → TalksOrEnded true spoke ended lost prefix opening history entries k o
cut_talks spoke ended lost prefix opening history entries k (Some m) h = h
cut_talks spoke ended lost prefix opening history entries k None h = record {
  before = h.before;
  after = h.after;
  whole = h.whole;
  last = h.last;
  read = h.read;
  sent = h.sent;
  left = h.left;
  unsent = h.unsent;
  why = h.why;
  is = h.is;
  talks = h.talks;
  may = inl h.may;
}

pub keeps_cut : {S : Type 0} (spoke : ℕ → S → List ℕ → List ℕ → Type 0) (ended : ℕ → List ℕ → List ℕ → Why → Type 0) (lost : ℕ → Cause → Type 0) (prefix : List ℕ) (opening : CacheValue) (history : List HistoryEntry) (members : Members S) (accepted : ℕ) (server : ServerValue)
    → KeepsTogether false spoke ended lost prefix opening history members accepted server → KeepsTogether true spoke ended lost prefix opening history members accepted server
keeps_cut spoke ended lost prefix opening history members accepted server keeps = record {
  entries = keeps.entries;
  stands = keeps.stands;
  same = keeps.same;
  theirs = keeps.theirs;
  each = λ k h. cut_talks spoke ended lost prefix opening history keeps.entries k (member_at members k) (keeps.each k h);
  fresh = keeps.fresh;
}

-- any of them is ended, which is told as a fault of reading
pub cut_ended : {S : Type 0} (spoke : ℕ → S → List ℕ → List ℕ → Type 0) (ended : ℕ → List ℕ → List ℕ → Why → Type 0) (lost : ℕ → Cause → Type 0) (over : S → Cause → Type 0) (members members' : Members S) (accepted : ℕ) (old new : ServerValue) (k : ℕ)
    → EndsIfAny spoke over ended lost k (Err ReadFault) old members new members' → GoesOnTogether true spoke ended lost members accepted old members' accepted new
cut_ended spoke ended lost over members members' accepted old new k ends = keeps_ended_so true spoke ended lost over (Err ReadFault) members members' accepted old new k (λ m e prefix opening history entries stands same. inr refl) ends
