-- A session goes on as the cut of its stream does.
use Rattle.std.proofs.Common.{◌≡◌, ◌≢◌, ℕ, ◌<◌, ◌≤◌, ◌+◌, inl, inr, Bool, true, false, Option, Some, None, List, [], ◌∷◌, ◌++◌, length, refl, sym, ◌∙◌, ap, subst, append_assoc, length-append, arith}
use Rattle.std.proofs.lemmas.List.{append-nil, append_cancel_left}
use Rattle.http_core.specs.declared.event.Area.{Area}
use Rattle.http_core.specs.declared.judging.Judgement.{Judgement}
use Rattle.http_core.specs.declared.judging.Judgement.TheVariants as judgements
use Rattle.http_core.specs.Block.{empty_line, HasNoBlock, IsBlock}
use Rattle.http_core.specs.Event.{EventValue, closes}
use Rattle.http_core.specs.Judging.{Judges}
use Rattle.http_core.specs.Stream.{body_length, outcome, IsRequest, Completes, IsPartial, Cuts}
use Rattle.http_core.specs.Session.{SessionState, Reading, Taking, Closed, SessionValue, Holds, Leaves, Stands, Follows, ended}
use Rattle.http_core.proofs.Blocks.{one_block, no_block_within}
use Rattle.http_core.proofs.Judged.{judges_once}
use Rattle.http_core.proofs.Cutting.{cuts_join, cuts_closed}

-- from the one state, these bytes lead to the other
abbrev pub Moves : SessionValue → List ℕ → Option EventValue → SessionValue → Type 0
Moves old bytes event new = (rest : List ℕ) → Holds old.prefix old.state rest → Follows old.prefix (rest ++ bytes) event new.state

shorter_front : (bytes front rest : List ℕ) → bytes ≡ front ++ rest → length front ≤ length bytes
shorter_front bytes front rest e = let h : length bytes ≡ length (front ++ rest) = ap length e in let k : length (front ++ rest) ≡ length front + length rest = length-append front rest in omega arith

pub partial_reading : (prefix bytes : List ℕ) → HasNoBlock bytes → length bytes < 16384 → IsPartial prefix bytes
partial_reading prefix bytes none small front rest event e (inl t) = let h : length front ≤ length bytes = shorter_front bytes front rest e in let k : length front ≡ 16384 = t.size in omega arith
partial_reading prefix bytes none small front rest event e (inr q) = none q.block (q.body ++ rest) (e ∙ ap (λ z. z ++ rest) q.whole ∙ append_assoc q.block q.body rest) q.ends.ends

taking_request : (prefix block body rest : List ℕ) (event : EventValue) (area : Area) (hash : List ℕ) (size : ℕ) (close : Bool) (front : List ℕ)
    → IsBlock block → Judges prefix block (judgements.Put area hash size close) → length body < size
    → block ++ body ≡ front ++ rest → IsRequest prefix front event → ⊥
taking_request prefix block body rest event area hash size close front ends judged small e q =
    let f : block ++ body ≡ q.block ++ (q.body ++ rest) = e ∙ ap (λ z. z ++ rest) q.whole ∙ append_assoc q.block q.body rest in
    let k : block ≡ q.block = one_block block body q.block (q.body ++ rest) ends q.ends f in
    let j : judgements.Put area hash size close ≡ q.judgement = judges_once prefix block (judgements.Put area hash size close) q.judgement judged (subst (λ z. Judges prefix z q.judgement) (sym k) q.judged) in
    let n : length q.body ≡ size = q.full ∙ ap body_length (sym j) in
    let b : body ≡ q.body ++ rest = append_cancel_left block body (q.body ++ rest) (f ∙ ap (λ z. z ++ (q.body ++ rest)) (sym k)) in
    let l : length q.body ≤ length body = shorter_front body q.body rest b in
    omega arith

pub partial_taking : (prefix block body : List ℕ) (area : Area) (hash : List ℕ) (size : ℕ) (close : Bool)
    → IsBlock block → length block ≤ 16384 → Judges prefix block (judgements.Put area hash size close) → length body < size → IsPartial prefix (block ++ body)
partial_taking prefix block body area hash size close ends fits judged small front rest event h (inl t) =
    no_block_within front rest block body t.none ends (sym h) (subst (λ n. length block ≤ n) (sym t.size) fits)
partial_taking prefix block body area hash size close ends fits judged small front rest event h (inr q) =
    taking_request prefix block body rest event area hash size close front ends judged small h q

pub holds_partial : (prefix : List ℕ) (state : SessionState) (bytes : List ℕ) → Holds prefix state bytes → IsPartial prefix bytes
holds_partial prefix (Reading front) bytes (e, none, small) = subst (IsPartial prefix) (sym e) (partial_reading prefix front none small)
holds_partial prefix (Taking area hash size close body) bytes (block, e, ends, fits, judged, small) = subst (IsPartial prefix) (sym e) (partial_taking prefix block body area hash size close ends fits judged small)
holds_partial prefix Closed bytes h = absurd h

too_short : (front : List ℕ) (rest : List ℕ) → [] ≡ (front ++ empty_line) ++ rest → ⊥
too_short [] rest e = cc
too_short (b ∷ front) rest e = let h : [] ≡ b ∷ ((front ++ empty_line) ++ rest) = e in cc

pub nothing_held : (prefix : List ℕ) → Holds prefix (Reading []) []
nothing_held prefix = (refl, (λ front rest e h. too_short h.0 rest (e ∙ ap (λ z. z ++ rest) h.1)), lit)
  where
    lit : 0 < 16384
    lit = omega arith

pub stands_first : (prefix : List ℕ) → Stands (record { prefix = prefix; state = Reading [] }) [] []
unfolding Stands Cuts
stands_first prefix = (Some [], (holds_partial prefix (Reading []) [] (nothing_held prefix), refl), nothing_held prefix)

pub option_list : Option EventValue → List EventValue
option_list None = []
option_list (Some event) = event ∷ []

cut_one : (prefix bytes : List ℕ) (event : EventValue) (state : SessionState) (b : Bool) → b ≡ closes event → Completes prefix bytes event → state ≡ ended b
    → (left : Option (List ℕ)) × Cuts prefix bytes (event ∷ []) left × Leaves prefix state left
unfolding Cuts
cut_one prefix bytes event state true is done e = (None, (bytes, [], sym (append-nil bytes), done, inl (sym is, refl, refl)), e)
cut_one prefix bytes event state false is done e = (Some [], (bytes, [], sym (append-nil bytes), done, inr (sym is, (holds_partial prefix (Reading []) [] (nothing_held prefix), refl))), subst (λ z. Holds prefix z []) (sym e) (nothing_held prefix))

cut_following : (prefix bytes : List ℕ) (event : Option EventValue) (state : SessionState) → Follows prefix bytes event state
    → (left : Option (List ℕ)) × Cuts prefix bytes (option_list event) left × Leaves prefix state left
unfolding Cuts option_list
cut_following prefix bytes None state h = (Some bytes, (holds_partial prefix state bytes h, refl), h)
cut_following prefix bytes (Some event) state (done, e) = cut_one prefix bytes event state (closes event) refl done e

standing : (prefix stream more : List ℕ) (before : List EventValue) (event : Option EventValue) (old new : SessionState)
    → old ≢ Closed → ((rest : List ℕ) → Holds prefix old rest → Follows prefix (rest ++ more) event new)
    → (left : Option (List ℕ)) → Cuts prefix stream before left → Leaves prefix old left
    → Stands (record { prefix = prefix; state = new }) (stream ++ more) (before ++ option_list event)
unfolding Stands
standing prefix stream more before event old new open_ moves None c l = absurd (open_ l)
standing prefix stream more before event old new open_ moves (Some rest) c l =
    let f : (left : Option (List ℕ)) × Cuts prefix (rest ++ more) (option_list event) left × Leaves prefix new left = cut_following prefix (rest ++ more) event new (moves rest l) in
    (f.0, cuts_join prefix stream more rest before (option_list event) f.0 c f.1, f.2)

pub stands_moved : (old new : SessionValue) (stream more : List ℕ) (before : List EventValue) (event : Option EventValue)
    → new.prefix ≡ old.prefix → old.state ≢ Closed → Moves old more event new → Stands old stream before
    → Stands new (stream ++ more) (before ++ option_list event)
unfolding Stands
stands_moved old new stream more before event e open_ moves (left, c, l) =
    let s : Stands (record { prefix = old.prefix; state = new.state }) (stream ++ more) (before ++ option_list event) = standing old.prefix stream more before event old.state new.state open_ moves left c l in
    subst (λ p. Stands (record { prefix = p; state = new.state }) (stream ++ more) (before ++ option_list event)) (sym e) s

pub stands_on : (old new : SessionValue) (stream more : List ℕ) (before : List EventValue)
    → new.prefix ≡ old.prefix → old.state ≢ Closed → Moves old more None new → Stands old stream before
    → Stands new (stream ++ more) before
unfolding option_list
stands_on old new stream more before e open_ moves s = subst (Stands new (stream ++ more)) (append-nil before) (stands_moved old new stream more before None e open_ moves s)

pub stands_event : (old new : SessionValue) (stream more : List ℕ) (before : List EventValue) (event : EventValue)
    → new.prefix ≡ old.prefix → old.state ≢ Closed → Moves old more (Some event) new → Stands old stream before
    → Stands new (stream ++ more) (before ++ event ∷ [])
unfolding option_list
stands_event old new stream more before event e open_ moves s = stands_moved old new stream more before (Some event) e open_ moves s

closed_leaves : (prefix : List ℕ) (state : SessionState) (rest : List ℕ) → state ≡ Closed → Holds prefix state rest → ⊥
closed_leaves prefix state rest e h = subst (λ z. Holds prefix z rest) e h

stands_none : (s : SessionValue) (stream more : List ℕ) (before : List EventValue) (left : Option (List ℕ)) → s.state ≡ Closed
    → Cuts s.prefix stream before left → Leaves s.prefix s.state left → Stands s (stream ++ more) before
unfolding Stands
stands_none s stream more before None e c l = (None, cuts_closed s.prefix stream more before c, l)
stands_none s stream more before (Some rest) e c l = absurd (closed_leaves s.prefix s.state rest e l)

pub stands_closed : (s : SessionValue) (stream more : List ℕ) (before : List EventValue) → s.state ≡ Closed → Stands s stream before → Stands s (stream ++ more) before
unfolding Stands
stands_closed s stream more before e (left, c, l) = stands_none s stream more before left e c l

-- behind a block
pub block_done : (prefix block : List ℕ) (j : Judgement) (event : EventValue) → IsBlock block → length block ≤ 16384 → Judges prefix block j → body_length j ≡ 0 → event ≡ outcome j [] → Completes prefix block event
block_done prefix block j event ends fits judged size gives =
    inr (record { block = block; body = []; judgement = j; whole = sym (append-nil block); ends = ends; fits = fits; judged = judged; full = sym size; gives = gives })
