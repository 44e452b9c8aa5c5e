-- However a stream comes in pieces, a session answers the same.
use Rattle.std.proofs.Common.{◌≡◌, ℕ, Bool, Option, Some, None, List, [], ◌∷◌, ◌++◌, sym, ◌∙◌, ap, subst, append_assoc}
use Rattle.std.specs.List.{concat}
use Rattle.std.proofs.lemmas.List.{append-nil, append_cancel_left}
use Rattle.http_core.specs.declared.event.Area.{Area}
use Rattle.http_core.specs.declared.judging.Judgement.{Judgement}
use Rattle.http_core.specs.declared.judging.Judgement.TheVariants as judgements
use Rattle.http_core.specs.Event.{EventValue}
use Rattle.http_core.specs.Judging.{Judges}
use Rattle.http_core.specs.Stream.{Cuts}
use Rattle.http_core.specs.Session.{SessionState, Reading, Taking, Closed, SessionValue, Holds, Leaves, Stands, FeedsAll}
use Rattle.http_core.proofs.Blocks.{one_block}
use Rattle.http_core.proofs.Judged.{judges_once}
use Rattle.http_core.proofs.Cutting.{cut_once}

pub stands_fed : (old new : SessionValue) (pieces : List (List ℕ)) (events : List EventValue) → FeedsAll old pieces events new
    → (stream : List ℕ) (before : List EventValue) → Stands old stream before → Stands new (stream ++ concat pieces) (before ++ events)
stands_fed old new [] events (none, same) stream before s =
    let t : Stands old (stream ++ []) (before ++ events) = subst (λ z. Stands old z (before ++ events)) (sym (append-nil stream)) (subst (λ z. Stands old stream z) (sym (ap (λ z. before ++ z) none ∙ append-nil before)) s) in
    subst (λ w. Stands w (stream ++ []) (before ++ events)) (sym same) t
stands_fed old new (piece ∷ pieces) events (first, mid, others, fed, more, whole) stream before s =
    let t : Stands new ((stream ++ piece) ++ concat pieces) ((before ++ first) ++ others) = stands_fed mid new pieces others more (stream ++ piece) (before ++ first) (fed.stands stream before s) in
    let e : (before ++ first) ++ others ≡ before ++ events = append_assoc before first others ∙ ap (λ z. before ++ z) (sym whole) in
    subst (λ z. Stands new z (before ++ events)) (append_assoc stream piece (concat pieces)) (subst (λ z. Stands new ((stream ++ piece) ++ concat pieces) z) e t)

prefix_fed : (old new : SessionValue) (pieces : List (List ℕ)) (events : List EventValue) → FeedsAll old pieces events new → new.prefix ≡ old.prefix
prefix_fed old new [] events (none, same) = ap (λ (s : SessionValue). s.prefix) same
prefix_fed old new (piece ∷ pieces) events (first, mid, others, fed, more, whole) = prefix_fed mid new pieces others more ∙ fed.prefix

-- the state that a judgement leads to, with these bytes of the body
abbrev taking_of : Judgement → List ℕ → SessionState
taking_of (judgements.Put area hash size close) body = Taking area hash size close body
taking_of (judgements.Get area hash close) body = Closed
taking_of (judgements.Refuse status close) body = Closed

one_taking : (prefix : List ℕ) (a b : Area) (hash other : List ℕ) (m n : ℕ) (c d : Bool) (body rest : List ℕ) (whole : List ℕ)
    → Holds prefix (Taking a hash m c body) whole → Holds prefix (Taking b other n d rest) whole
    → Taking a hash m c body ≡ Taking b other n d rest
one_taking prefix a b hash other m n c d body rest whole (block, e, ends, fits, judged, few) (front, f, stops, small, also, less) =
    let k : block ≡ front = one_block block body front rest ends stops (sym e ∙ f) in
    let j : judgements.Put a hash m c ≡ judgements.Put b other n d = judges_once prefix block (judgements.Put a hash m c) (judgements.Put b other n d) judged (subst (λ z. Judges prefix z (judgements.Put b other n d)) (sym k) also) in
    let r : body ≡ rest = append_cancel_left block body rest (sym e ∙ f ∙ ap (λ z. z ++ rest) (sym k)) in
    by_parts (judgements.Put a hash m c) (judgements.Put b other n d) body rest j r
  where
    by_parts : (i j : Judgement) (x y : List ℕ) → i ≡ j → x ≡ y → taking_of i x ≡ taking_of j y
    by_parts i j x y e f = ap (λ z. taking_of z x) e ∙ ap (λ z. taking_of j z) f

holds_once : (prefix : List ℕ) (a b : SessionState) (rest : List ℕ) → Holds prefix a rest → Holds prefix b rest → a ≡ b
holds_once prefix (Reading x) (Reading y) rest (e, none, few) (f, also, less) = ap Reading (sym e ∙ f)
holds_once prefix (Reading x) (Taking area hash size close body) rest (e, none, few) (block, f, ends, fits, judged, less) = absurd (none block body (sym e ∙ f) ends.ends)
holds_once prefix (Taking area hash size close body) (Reading x) rest (block, f, ends, fits, judged, less) (e, none, few) = absurd (none block body (sym e ∙ f) ends.ends)
holds_once prefix (Taking a hash m c body) (Taking b other n d more) rest h k = one_taking prefix a b hash other m n c d body more rest h k
holds_once prefix Closed b rest h k = absurd h
holds_once prefix (Reading x) Closed rest h k = absurd k
holds_once prefix (Taking area hash size close body) Closed rest h k = absurd k

leaves_once : (prefix : List ℕ) (a b : SessionState) (left : Option (List ℕ)) → Leaves prefix a left → Leaves prefix b left → a ≡ b
leaves_once prefix a b None e f = e ∙ sym f
leaves_once prefix a b (Some rest) h k = holds_once prefix a b rest h k

same_session : (a b : SessionValue) → a.prefix ≡ b.prefix → a.state ≡ b.state → a ≡ b
same_session a b e f = ap (λ p. record { prefix = p; state = a.state }) e ∙ ap (λ s. record { prefix = b.prefix; state = s }) f

-- a stream leaves one session of a prefix, and its events are the same
stands_once : (a b : SessionValue) (stream : List ℕ) (x y : List EventValue) → a.prefix ≡ b.prefix → Stands a stream x → Stands b stream y → (x ≡ y) × (a ≡ b)
unfolding Stands
stands_once a b stream x y e (left, c, l) (rest, d, k) =
    let f : Cuts a.prefix stream y rest = subst (λ p. Cuts p stream y rest) (sym e) d in
    let s : (x ≡ y) × (left ≡ rest) = cut_once a.prefix stream x y left rest c f in
    let m : Leaves a.prefix b.state left = subst (λ z. Leaves a.prefix b.state z) (sym s.1) (subst (λ p. Leaves p b.state rest) (sym e) k) in
    (s.0, same_session a b e (leaves_once a.prefix a.state b.state left l m))

pub pieces_same : (old a b : SessionValue) (stream : List ℕ) (before : List EventValue) (pieces others : List (List ℕ)) (x y : List EventValue)
    → Stands old stream before → concat pieces ≡ concat others → FeedsAll old pieces x a → FeedsAll old others y b → (x ≡ y) × (a ≡ b)
pieces_same old a b stream before pieces others x y s e f g =
    let p : a.prefix ≡ b.prefix = prefix_fed old a pieces x f ∙ sym (prefix_fed old b others y g) in
    let h : Stands b (stream ++ concat pieces) (before ++ y) = subst (λ z. Stands b (stream ++ z) (before ++ y)) (sym e) (stands_fed old b others y g stream before s) in
    let k : (before ++ x ≡ before ++ y) × (a ≡ b) = stands_once a b (stream ++ concat pieces) (before ++ x) (before ++ y) p (stands_fed old a pieces x f stream before s) h in
    (append_cancel_left before x y k.0, k.1)

pub pieces_give_the_whole : (old new : SessionValue) (pieces : List (List ℕ)) (x y : List EventValue) (left : Option (List ℕ))
    → Stands old [] [] → FeedsAll old pieces x new → Cuts old.prefix (concat pieces) y left → x ≡ y
unfolding Stands
pieces_give_the_whole old new pieces x y left s f c =
    let t : Stands new (concat pieces) x = stands_fed old new pieces x f [] [] s in
    let d : Cuts old.prefix (concat pieces) x t.0 = subst (λ p. Cuts p (concat pieces) x t.0) (prefix_fed old new pieces x f) t.1 in
    (cut_once old.prefix (concat pieces) x y t.0 left d c).0
