-- A session within a piece.
use Rattle.std.proofs.Common.{◌≡◌, ◌≢◌, ℕ, ◌≤◌, ◌+◌, ◌⊎◌, inl, inr, arith, Option, Some, None, List, [], ◌∷◌, ◌++◌, length, map, take, drop, refl, sym, ◌∙◌, ap, subst, append_assoc, Result, Ok, Err, OnErr}
use Rattle.std.proofs.Math.Seq.{take-add}
use Rattle.std.proofs.lemmas.List.{append-nil, map-append, take_all, take-append-drop}
use Rattle.http_core.specs.declared.event.Event.{Event}
use Rattle.http_core.specs.Event.{EventValue, event_of, IsValid}
use Rattle.http_core.specs.Session.{SessionState, Reading, Taking, Closed, SessionValue, Holds, Follows, Stands, Feeds}
use Rattle.std.specs.List.{AllByRecursion}
use Rattle.http_core.proofs.Fitting.{valid_with}
use Rattle.http_core.proofs.Standing.{Moves, stands_on, stands_event, stands_closed}

pub on_err : {T E P : Type 0} (r : Result T E) → P → OnErr r P
on_err (Ok x) p = tt
on_err (Err e) p = p

further : (stream piece rest : List ℕ) (at taken : ℕ) → rest ≡ drop at piece → (stream ++ take at piece) ++ take taken rest ≡ stream ++ take (at + taken) piece
further stream piece rest at taken e = append_assoc stream (take at piece) (take taken rest) ∙ ap (λ z. stream ++ (take at piece ++ take taken z)) e ∙ ap (λ z. stream ++ z) (sym (take-add at taken piece))

-- as far as the first event, and where the session stands then
pub first_event_at : (now new : SessionValue) (stream piece rest : List ℕ) (at taken : ℕ) (before : List EventValue) (event : EventValue)
    → new.prefix ≡ now.prefix → now.state ≢ Closed → rest ≡ drop at piece → Moves now (take taken rest) (Some event) new
    → Stands now (stream ++ take at piece) before
    → Stands new (stream ++ take (at + taken) piece) (before ++ event ∷ [])
first_event_at now new stream piece rest at taken before event e open_ back moves s =
    subst (λ z. Stands new z (before ++ event ∷ [])) (further stream piece rest at taken back) (stands_event now new (stream ++ take at piece) (take taken rest) before event e open_ moves s)

-- with what was taken before
pub moves_further : (now new : SessionValue) (prefix before piece rest : List ℕ) (at taken : ℕ) (event : Option EventValue)
    → now.prefix ≡ prefix → rest ≡ drop at piece → Moves now (take taken rest) event new
    → Holds prefix now.state (before ++ take at piece) → Follows prefix (before ++ take (at + taken) piece) event new.state
moves_further now new prefix before piece rest at taken event same back moves h =
    subst (λ z. Follows prefix z event new.state) (further before piece rest at taken back)
    (subst (λ z. Follows z ((before ++ take at piece) ++ take taken rest) event new.state) same
    (moves (before ++ take at piece) (subst (λ z. Holds z now.state (before ++ take at piece)) (sym same) h)))

-- nothing was taken, and all was
pub holds_first : (prefix piece rest : List ℕ) (state : SessionState) → Holds prefix state rest → Holds prefix state (rest ++ take 0 piece)
holds_first prefix piece rest state h = subst (Holds prefix state) (sym (append-nil rest)) h

pub holds_last : (prefix piece rest : List ℕ) (state : SessionState) (at : ℕ) → (state ≡ Closed) ⊎ (length piece ≤ at)
    → Holds prefix state (rest ++ take at piece) → Holds prefix state (rest ++ take (length piece) piece)
holds_last prefix piece rest state at (inl shut) h = absurd (subst (λ z. Holds prefix z (rest ++ take at piece)) shut h)
holds_last prefix piece rest state at (inr all) h =
    subst (λ z. Holds prefix state (rest ++ z)) (take_all at piece all ∙ sym (take_all (length piece) piece (omega arith))) h

-- with the events of a front of the rest
pub piece_fed : (now new : SessionValue) (stream piece rest : List ℕ) (at taken : ℕ) (before earlier more : List EventValue)
    → rest ≡ drop at piece → Feeds now (take taken rest) more new
    → Stands now (stream ++ take at piece) (before ++ earlier)
    → Stands new (stream ++ take (at + taken) piece) (before ++ (earlier ++ more))
piece_fed now new stream piece rest at taken before earlier more back fed s =
    subst (Stands new (stream ++ take (at + taken) piece)) (append_assoc before earlier more) (subst (λ z. Stands new z ((before ++ earlier) ++ more)) (further stream piece rest at taken back) (fed.stands (stream ++ take at piece) (before ++ earlier) s))

pub events_pushed : {A : Type 0} (events more : List (Event A)) (event : Event A) → more ≡ events ++ event ∷ [] → map event_of events ++ event_of event ∷ [] ≡ map event_of more
events_pushed events more event e = sym (map-append event_of events (event ∷ [])) ∙ ap (λ z. map event_of z) (sym e)

pub nothing_more : {A : Type 0} (events : List (Event A)) → map event_of events ++ [] ≡ map event_of events
nothing_more events = append-nil (map event_of events)

pub piece_on : (now new : SessionValue) (stream piece rest : List ℕ) (at taken : ℕ) (before : List EventValue)
    → new.prefix ≡ now.prefix → now.state ≢ Closed → rest ≡ drop at piece → Moves now (take taken rest) None new
    → Stands now (stream ++ take at piece) before
    → Stands new (stream ++ take (at + taken) piece) before
piece_on now new stream piece rest at taken before e open_ back moves s =
    subst (λ z. Stands new z before) (further stream piece rest at taken back) (stands_on now new (stream ++ take at piece) (take taken rest) before e open_ moves s)

pub piece_closed : (s : SessionValue) (stream piece : List ℕ) (at : ℕ) (before : List EventValue) → s.state ≡ Closed
    → Stands s (stream ++ take at piece) before → Stands s (stream ++ piece) before
piece_closed s stream piece at before closed h =
    let k : (stream ++ take at piece) ++ drop at piece ≡ stream ++ piece = append_assoc stream (take at piece) (drop at piece) ∙ ap (λ z. stream ++ z) (take-append-drop at piece) in
    subst (λ z. Stands s z before) k (stands_closed s (stream ++ take at piece) (drop at piece) before closed h)

pub piece_done : (s : SessionValue) (stream piece : List ℕ) (at : ℕ) (before : List EventValue) → length piece ≤ at
    → Stands s (stream ++ take at piece) before → Stands s (stream ++ piece) before
piece_done s stream piece at before all h = subst (λ z. Stands s (stream ++ z) before) (take_all at piece all) h

pub not_open : (state : SessionState) → (state ≢ Closed → ⊥) → state ≡ Closed
not_open (Reading bytes) h = absurd (h (λ e. cc))
not_open (Taking area hash size close body) h = absurd (h (λ e. cc))
not_open Closed h = refl

pub valid_more : {A : Type 0} (events more : List (Event A)) (event : Event A) → more ≡ events ++ event ∷ []
    → AllByRecursion IsValid (map event_of events) → IsValid (event_of event) → AllByRecursion IsValid (map event_of more)
valid_more events more event e all h =
    subst (λ z. AllByRecursion IsValid z) (sym (ap (λ es. map event_of es) e ∙ map-append event_of events (event ∷ []))) (valid_with (map event_of events) (event_of event) all h)
