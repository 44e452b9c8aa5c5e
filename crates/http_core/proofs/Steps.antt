-- One step of a session, on its state.
use Rattle.std.proofs.Common.{◌⊎◌, ◌≡◌, ◌≢◌, ℕ, ◌<◌, ◌≤◌, ◌+◌, ◌-◌, inl, inr, Bool, true, Option, Some, None, List, [], ◌∷◌, ◌++◌, length, take, refl, sym, ◌∙◌, ap, subst, append_assoc, length-append, arith}
use Rattle.std.specs.List.{AllByRecursion}
use Rattle.http_core.specs.declared.event.Area.{Area}
use Rattle.http_core.specs.declared.judging.Judgement.{Judgement}
use Rattle.http_core.specs.declared.judging.Judgement.TheVariants as judgements
use Rattle.http_core.specs.declared.session.Stage.{Stage}
use Rattle.http_core.specs.declared.session.Stage.TheVariants as stages
use Rattle.http_core.specs.Block.{EndsBlock, HasNoBlock, IsBlock}
use Rattle.http_core.specs.Event.{EventValue, Asked, Refused, Put}
use Rattle.http_core.specs.Judging.{Judges}
use Rattle.http_core.specs.Stream.{Completes}
use Rattle.http_core.specs.Session.{SessionState, Reading, Taking, Closed, Holds, Follows, session_state}
use Rattle.http_core.proofs.Blocks.{block_with, no_block_with, no_block_through}

-- no line feed but at the end
abbrev pub IsHeadLine : List ℕ → Type 0
IsHeadLine bytes = (front : List ℕ) × (last : ℕ) × (bytes ≡ front ++ last ∷ []) × AllByRecursion (λ b. b ≢ 10) front

-- a byte more
one_longer : (bytes : List ℕ) (byte : ℕ) → length (bytes ++ byte ∷ []) ≡ length bytes + 1
one_longer bytes byte = length-append bytes (byte ∷ [])

reads_on : (prefix : List ℕ) (old new : SessionState) (stage : Stage) (bytes body line : List ℕ) (event : Option EventValue)
    → session_state stage bytes body ≡ old → ((held : List ℕ) × (old ≡ Reading held))
    → (HasNoBlock bytes → length bytes < 16384 → Follows prefix (bytes ++ line) event new)
    → (rest : List ℕ) → Holds prefix old rest → Follows prefix (rest ++ line) event new
reads_on prefix old new stages.Block bytes body line event is reading goes rest h =
    let k : Holds prefix (Reading bytes) rest = subst (λ z. Holds prefix z rest) (sym is) h in
    subst (λ z. Follows prefix (z ++ line) event new) (sym k.0) (goes k.1 k.2)
reads_on prefix old new (stages.Body area hash size close) bytes body line event is reading goes rest h = let no : Taking area hash size close body ≡ Reading reading.0 = is ∙ reading.1 in absurd cc
reads_on prefix old new stages.Closed bytes body line event is reading goes rest h = let no : Closed ≡ Reading reading.0 = is ∙ reading.1 in absurd cc

pub line_some : (line : List ℕ) → IsHeadLine line → 0 < length line
line_some line (front, last, whole, plain) = let n : length line ≡ length front + 1 = ap length whole ∙ one_longer front last in omega arith

-- the bytes of a line, of which the last may end the block
line_follows : (prefix bytes line more : List ℕ) (room : ℕ) (event : Option EventValue) (new : SessionState)
    → IsHeadLine line → more ≡ bytes ++ line → (length line ≤ room) ⊎ (length line ≡ 1) → room ≤ 16384 - length bytes
    → ((front : List ℕ) (last : ℕ) → more ≡ front ++ last ∷ [] → HasNoBlock front → length front < 16384 → Follows prefix (front ++ last ∷ []) event new)
    → HasNoBlock bytes → length bytes < 16384 → Follows prefix (bytes ++ line) event new
line_follows prefix bytes line more room event new (front, last, whole, plain) e most fits goes none few =
    let k : more ≡ (bytes ++ front) ++ last ∷ [] = e ∙ ap (λ z. bytes ++ z) whole ∙ sym (append_assoc bytes front (last ∷ [])) in
    let n : length line ≡ length front + 1 = ap length whole ∙ one_longer front last in
    let m : length (bytes ++ front) ≡ length bytes + length front = length-append bytes front in
    let small : length (bytes ++ front) < 16384 = elim most [ inl some ↦ omega arith | inr one ↦ omega arith ] in
    subst (λ z. Follows prefix z event new) (sym k ∙ e) (goes (bytes ++ front) last k (no_block_through bytes front none plain) small)

pub reads_line : (prefix : List ℕ) (old new : SessionState) (stage : Stage) (bytes body line more piece : List ℕ) (room : ℕ) (event : Option EventValue)
    → session_state stage bytes body ≡ old → ((held : List ℕ) × (old ≡ Reading held))
    → IsHeadLine line → more ≡ bytes ++ line → (length line ≤ room) ⊎ (length line ≡ 1) → room ≤ 16384 - length bytes → line ≡ take (length line) piece
    → ((front : List ℕ) (last : ℕ) → more ≡ front ++ last ∷ [] → HasNoBlock front → length front < 16384 → Follows prefix (front ++ last ∷ []) event new)
    → (rest : List ℕ) → Holds prefix old rest → Follows prefix (rest ++ take (length line) piece) event new
reads_line prefix old new stage bytes body line more piece room event is reading line_is e most fits front goes rest h =
    subst (λ z. Follows prefix (rest ++ z) event new) front
    (reads_on prefix old new stage bytes body line event is reading (line_follows prefix bytes line more room event new line_is e most fits goes) rest h)

pub still_reading : (stage : Stage) (bytes more body : List ℕ) (old : SessionState) → session_state stage bytes body ≡ old → ((held : List ℕ) × (old ≡ Reading held)) → session_state stage more body ≡ Reading more
still_reading stages.Block bytes more body old is reading = refl
still_reading (stages.Body area hash size close) bytes more body old is reading = let no : Taking area hash size close body ≡ Reading reading.0 = is ∙ reading.1 in absurd cc
still_reading stages.Closed bytes more body old is reading = let no : Closed ≡ Reading reading.0 = is ∙ reading.1 in absurd cc

pub at_block : (prefix bytes more : List ℕ) (byte : ℕ) (j : Judgement) (event : Option EventValue) (new : SessionState)
    → more ≡ bytes ++ byte ∷ [] → EndsBlock more → Judges prefix more j
    → ((prefix block : List ℕ) → IsBlock block → length block ≤ 16384 → Judges prefix block j → Follows prefix block event new)
    → HasNoBlock bytes → length bytes < 16384 → Follows prefix (bytes ++ byte ∷ []) event new
at_block prefix bytes more byte j event new e ends judged follows none small =
    let n : length (bytes ++ byte ∷ []) ≡ length bytes + 1 = one_longer bytes byte in
    follows prefix (bytes ++ byte ∷ []) (block_with bytes byte none (subst EndsBlock e ends)) (omega arith) (subst (λ z. Judges prefix z j) e judged)

pub within_block : (prefix bytes more : List ℕ) (byte : ℕ) (new : SessionState)
    → more ≡ bytes ++ byte ∷ [] → (EndsBlock more → ⊥) → new ≡ Reading more → length more < 16384
    → HasNoBlock bytes → length bytes < 16384 → Follows prefix (bytes ++ byte ∷ []) None new
within_block prefix bytes more byte new e not_ends is few none small =
    let h : Holds prefix (Reading more) (bytes ++ byte ∷ []) = (sym e, subst HasNoBlock (sym e) (no_block_with bytes byte none (λ k. not_ends (subst EndsBlock (sym e) k))), few) in
    subst (λ z. Holds prefix z (bytes ++ byte ∷ [])) (sym is) h

pub past_block : (prefix bytes more : List ℕ) (byte : ℕ) (new : SessionState)
    → more ≡ bytes ++ byte ∷ [] → (EndsBlock more → ⊥) → new ≡ Closed → 16384 ≤ length more
    → HasNoBlock bytes → length bytes < 16384 → Follows prefix (bytes ++ byte ∷ []) (Some (Refused 431 true)) new
past_block prefix bytes more byte new e not_ends is many none small =
    let n : length (bytes ++ byte ∷ []) ≡ length bytes + 1 = one_longer bytes byte in
    let m : length more ≡ length (bytes ++ byte ∷ []) = ap length e in
    (inl (record { size = omega arith; none = no_block_with bytes byte none (λ k. not_ends (subst EndsBlock (sym e) k)); gives = refl }), is)

pub takes_some : (prefix : List ℕ) (old new : SessionState) (stage : Stage) (block body piece more : List ℕ) (area : Area) (hash : List ℕ) (size : ℕ) (close : Bool)
    → session_state stage block body ≡ old → stage ≡ stages.Body area hash size close → length piece < size - length body
    → more ≡ body ++ piece → new ≡ session_state stage block more
    → (rest : List ℕ) → Holds prefix old rest → Holds prefix new (rest ++ take (length piece) piece)
takes_some prefix old new stage block body piece more area hash size close is at few e leads rest h =
    let s : old ≡ Taking area hash size close body = sym is ∙ ap (λ z. session_state z block body) at in
    let t : new ≡ Taking area hash size close (body ++ piece) = leads ∙ ap (λ z. session_state z block more) at ∙ ap (λ z. Taking area hash size close z) e in
    let k : Holds prefix (Taking area hash size close body) rest = subst (λ z. Holds prefix z rest) s h in
    let a : take (length piece) piece ≡ piece = take-all piece in
    let n : length (body ++ piece) ≡ length body + length piece = length-append body piece in
    let r : Holds prefix (Taking area hash size close (body ++ piece)) (rest ++ piece) = (k.0, ap (λ z. z ++ piece) k.1 ∙ append_assoc k.0 body piece, k.2, k.3, k.4, omega arith) in
    subst (λ z. Holds prefix z (rest ++ take (length piece) piece)) (sym t) (subst (λ z. Holds prefix (Taking area hash size close (body ++ piece)) (rest ++ z)) (sym a) r)
  where
    take-all : (l : List ℕ) → take (length l) l ≡ l
    take-all [] = refl
    take-all (b ∷ l) = ap (λ z. b ∷ z) (take-all l)

pub takes_all : (prefix : List ℕ) (old : SessionState) (stage : Stage) (block body front more : List ℕ) (area : Area) (hash : List ℕ) (size : ℕ) (close : Bool)
    → session_state stage block body ≡ old → stage ≡ stages.Body area hash size close → length front ≡ size - length body
    → more ≡ body ++ front
    → (rest : List ℕ) → Holds prefix old rest → Completes prefix (rest ++ front) (Asked (Put area hash more) close)
takes_all prefix old stage block body front more area hash size close is at few e rest h =
    let s : old ≡ Taking area hash size close body = sym is ∙ ap (λ z. session_state z block body) at in
    let k : Holds prefix (Taking area hash size close body) rest = subst (λ z. Holds prefix z rest) s h in
    let n : length (body ++ front) ≡ length body + length front = length-append body front in
    let m : length more ≡ length (body ++ front) = ap length e in
    let l : length body < size = k.5 in
    inr (record { block = k.0; body = more; judgement = judgements.Put area hash size close; whole = ap (λ z. z ++ front) k.1 ∙ append_assoc k.0 body front ∙ ap (λ z. k.0 ++ z) (sym e); ends = k.2; fits = k.3; judged = k.4; full = omega arith; gives = refl })
