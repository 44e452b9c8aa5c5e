-- A whole run over connections.
use Rattle.std.proofs.Common.{◌≡◌, ℕ, inl, inr, Bool, true, false, None, List, [], ◌∷◌, ◌++◌, length, refl, sym, ◌∙◌, subst, arith}
use Rattle.std.proofs.lemmas.List.{append-nil}
use Rattle.cache_server.specs.Cache.{CacheValue}
use Rattle.cache_server.specs.History.{HistoryEntry}
use Rattle.cache_server.specs.Server.{ServerValue, ServerStands}
use Rattle.service.specs.Sockets.{Cause, Why}
use Rattle.service.specs.Talks.{LedByConnections, ServesConnections, ServesEach}
use Rattle.service.specs.Together.{member_at, EndsIfAny, GoesOnTogether, OthersAreSame, Members}
use Rattle.service.proofs.Keeping.{keeps_nowhere, keeps_first, keeps_all, keeps_cut}

pub serves_none : (cut : Bool) (ended : ℕ → List ℕ → List ℕ → Why → Type 0) (lost : ℕ → Cause → Type 0) (opening : CacheValue) (history : List HistoryEntry) (server : ServerValue)
    → ServerStands opening server history → ServesEach cut ended lost server.prefix opening history 0 server
serves_none cut ended lost opening history server stands = record {
  entries = [];
  stands = subst (ServerStands opening server) (sym (append-nil history)) stands;
  theirs = tt;
  each = λ k h. absurd (omega arith);
}

pub serves_all : {S : Type 0} (spoke : ℕ → S → List ℕ → List ℕ → Type 0) (ended : ℕ → List ℕ → List ℕ → Why → Type 0) (lost : ℕ → Cause → Type 0)
    (opening : CacheValue) (history : List HistoryEntry) (none all : Members S) (accepted : ℕ) (s u : ServerValue)
    → none ≡ [] → GoesOnTogether false spoke ended lost none 0 s all accepted u
    → ((k : ℕ) → member_at all k ≡ None) → ServerStands opening s history → ServesEach false ended lost s.prefix opening history accepted u
serves_all spoke ended lost opening history none all accepted s u e p gone stands =
    keeps_all false spoke ended lost s.prefix opening history all accepted u (λ k h. gone k)
    (p.on s.prefix opening history (keeps_first false spoke ended lost opening history none s e stands))

pub serves_cut : {S : Type 0} (spoke : ℕ → S → List ℕ → List ℕ → Type 0) (ended : ℕ → List ℕ → List ℕ → Why → Type 0) (lost : ℕ → Cause → Type 0)
    (opening : CacheValue) (history : List HistoryEntry) (none some all : Members S) (accepted : ℕ) (s t u : ServerValue)
    → none ≡ [] → GoesOnTogether false spoke ended lost none 0 s some accepted t → GoesOnTogether true spoke ended lost some accepted t all accepted u
    → ((k : ℕ) → member_at all k ≡ None) → ServerStands opening s history → ServesEach true ended lost s.prefix opening history accepted u
serves_cut spoke ended lost opening history none some all accepted s t u e p q gone stands =
    keeps_all true spoke ended lost s.prefix opening history all accepted u (λ k h. gone k)
    (q.on s.prefix opening history (keeps_cut spoke ended lost s.prefix opening history some accepted t (p.on s.prefix opening history (keeps_first false spoke ended lost opening history none s e stands))))

-- none is open that could be cut off
pub serves_kept : {S : Type 0} (spoke : ℕ → S → List ℕ → List ℕ → Type 0) (ended : ℕ → List ℕ → List ℕ → Why → Type 0) (lost : ℕ → Cause → Type 0)
    (opening : CacheValue) (history : List HistoryEntry) (none all : Members S) (accepted : ℕ) (s u : ServerValue)
    → none ≡ [] → GoesOnTogether false spoke ended lost none 0 s all accepted u
    → ((k : ℕ) → member_at all k ≡ None) → ServerStands opening s history → ServesEach true ended lost s.prefix opening history accepted u
serves_kept spoke ended lost opening history none all accepted s u e p gone stands =
    serves_cut spoke ended lost opening history none all all accepted s u u e p (keeps_nowhere true spoke ended lost all accepted u) gone stands

-- all but the one that was ended are the same
pub others_stay : {S : Type 0} (spoke : ℕ → S → List ℕ → List ℕ → Type 0) (over : S → Cause → Type 0) (ended : ℕ → List ℕ → List ℕ → Why → Type 0) (lost : ℕ → Cause → Type 0) (number : ℕ) (why : Why) (s t : ServerValue) (old new : Members S)
    → EndsIfAny spoke over ended lost number why s old t new → OthersAreSame number old new
others_stay spoke over ended lost number why s t old new (inl e) j n = e.others j n
others_stay spoke over ended lost number why s t old new (inr (none, same, all)) j n = all.0 j

-- and that one is gone
pub none_stays : {S : Type 0} (spoke : ℕ → S → List ℕ → List ℕ → Type 0) (over : S → Cause → Type 0) (ended : ℕ → List ℕ → List ℕ → Why → Type 0) (lost : ℕ → Cause → Type 0) (number : ℕ) (why : Why) (s t : ServerValue) (old new : Members S)
    → EndsIfAny spoke over ended lost number why s old t new → member_at new number ≡ None
none_stays spoke over ended lost number why s t old new (inl e) = e.gone
none_stays spoke over ended lost number why s t old new (inr (none, same, all)) = all.0 number ∙ none

-- where there are none, none has a number
pub none_open : {S : Type 0} (members : Members S) → length members ≡ 0 → (k : ℕ) → member_at members k ≡ None
none_open [] e k = refl
none_open (m ∷ members) e k = absurd (omega arith)

-- ---- whatever is said of the connections themselves

pub led_by_served : (cut : Bool) (ended : ℕ → List ℕ → List ℕ → Why → Type 0) (lost : ℕ → Cause → Type 0) (old : ServerValue) (count : ℕ) (new : ServerValue)
    → ServesConnections cut ended lost old count new → LedByConnections old count new
led_by_served cut ended lost old count new serves opening history stands = let all : ServesEach cut ended lost old.prefix opening history count new = serves opening history stands in record {
  entries = all.entries;
  stands = all.stands;
  theirs = all.theirs;
  each = λ k h. let one = all.each k h in record {
    before = one.before;
    after = one.after;
    whole = one.whole;
    last = one.last;
    came = one.talks.came;
    earlier = one.talks.earlier;
    answer = one.talks.part ++ one.unsent;
    answered = one.talks.answered;
  };
}

pub led_by_none : (server : ServerValue) → LedByConnections server 0 server
led_by_none server opening history stands = record {
  entries = [];
  stands = subst (ServerStands opening server) (sym (append-nil history)) stands;
  theirs = tt;
  each = λ k h. absurd (omega arith);
}
