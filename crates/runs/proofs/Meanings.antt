-- The frames and commands of steps, one after another, while the source tells more and more.
use Rattle.std.proofs.Common.{◌≡◌, ℕ, zero, suc, ◌+◌, ◌*◌, ◌<◌, ◌≤◌, false, List, [], ◌∷◌, ◌++◌, length, get_or, Some, refl, ap, sym, ◌∙◌, subst, arith, inl, inr}
use Rattle.std.specs.Prelude.{◌⊎◌, slice_get}
use Rattle.std.proofs.lemmas.Bool.{cases_lt}
use Rattle.std.proofs.lemmas.List.{length-append}
use Rattle.std.proofs.lemmas.Option.{slice_get_within}
use Rattle.blob_digest.specs.Digest.{DigestValue}
use Rattle.action_messages.specs.Command.{CommandValue, IsCommand, command_bytes}
use Rattle.action_messages.specs.Frame.{FrameValue, IsFrame, frame_bytes}
use Rattle.plan.specs.Values.{StepValue}
use Rattle.blob_source.specs.Source.{Blobs, Grows, Telling}
use Rattle.blob_source.specs.Told.{IsTold, Fault, IsFault}
use Rattle.tree.specs.declared.error.TreeError.{TreeError}
use Rattle.tree.specs.declared.error.TreeError.TheVariants as tree
use Rattle.tree.proofs.Descent.{told_still}
use Rattle.tree.proofs.Leaving.{others_then}
use Rattle.tree.specs.Memo.{Asked, AsksNoOther}
use Rattle.tree.proofs.LookupOnce.{told_or_fault}
use Rattle.runs.specs.declared.error.OpenError.{OpenError}
use Rattle.runs.specs.declared.error.OpenError.TheVariants as opening
use Rattle.runs.specs.Calls.{TellsStep, AreToldBefore, IsUntold, IsOpeningFault, IsOpenFault, StopsAtFrame, opening_calls}
use Rattle.runs.specs.LooksAt.{MeaningLooksAt, OpeningLooksAt}
use Rattle.verifier.proofs.FreshRuns.{one_answer}
use Rattle.runs.proofs.Places.{element_at, has_one}

pub frame_still : (B C : Blobs) (d : DigestValue) (f : FrameValue) → Grows B C → IsTold IsFrame frame_bytes B d f → IsTold IsFrame frame_bytes C d f
frame_still B C d f g h = told_still {B = B} {C = C} g h

command_still : (B C : Blobs) (d : DigestValue) (c : CommandValue) → Grows B C → IsTold IsCommand command_bytes B d c → IsTold IsCommand command_bytes C d c
command_still B C d c g h = told_still {B = B} {C = C} g h

step_still : (B C : Blobs) (s : StepValue) (f : FrameValue) (c : CommandValue) → Grows B C → TellsStep B s f c → TellsStep C s f c
step_still B C s f c g h = record { frame = frame_still B C s.frame f g h.frame; command = command_still B C f.command c g h.command }

-- an element of a list with one more
pub one_more : {X : Type 0} (xs : List X) (x y : X) (i : ℕ) → slice_get (xs ++ x ∷ []) i ≡ Some y → (slice_get xs i ≡ Some y) ⊎ ((i ≡ length xs) × (y ≡ x))
one_more [] x y zero h = inr (refl, cc)
one_more [] x y (suc i) h = cc
one_more (z ∷ xs) x y zero h = inl h
one_more (z ∷ xs) x y (suc i) h = by (one_more xs x y i h)
  where
    by : (slice_get xs i ≡ Some y) ⊎ ((i ≡ length xs) × (y ≡ x)) → (slice_get (z ∷ xs) (suc i) ≡ Some y) ⊎ ((suc i ≡ length (z ∷ xs)) × (y ≡ x))
    by (inl h) = inl h
    by (inr h) = inr (ap suc h.0, h.1)

-- ---- the steps in front of one with this number

pub record ToldSoFar (B : Blobs) (steps : List StepValue) (i : ℕ) (frames : List FrameValue) (commands : List CommandValue) : Type 0 where
  pub frames_count : length frames ≡ i
  pub commands_count : length commands ≡ i
  pub each : (k : ℕ) (s : StepValue) (f : FrameValue) (c : CommandValue) → slice_get steps k ≡ Some s → slice_get frames k ≡ Some f → slice_get commands k ≡ Some c → TellsStep B s f c × (f.do_not_cache ≡ false)

pub told_none : (B : Blobs) (steps : List StepValue) → ToldSoFar B steps 0 [] []
told_none B steps = record { frames_count = refl; commands_count = refl; each = λ k s f c a b d. absurd cc }

pub told_next : (B C : Blobs) (steps : List StepValue) (i : ℕ) (fs : List FrameValue) (cs : List CommandValue) (s : StepValue) (f : FrameValue) (c : CommandValue) → i < length steps → s ≡ get_or steps i s
    → ToldSoFar B steps i fs cs → Grows B C → TellsStep C s f c → f.do_not_cache ≡ false → ToldSoFar C steps (i + 1) (fs ++ f ∷ []) (cs ++ c ∷ [])
told_next B C steps i fs cs s f c lt is so g told cached =
    let frames : length (fs ++ f ∷ []) ≡ length fs + 1 = length-append fs (f ∷ []) in
    let commands : length (cs ++ c ∷ []) ≡ length cs + 1 = length-append cs (c ∷ []) in
    record {
      frames_count = frames ∙ ap (λ n. n + 1) so.frames_count;
      commands_count = commands ∙ ap (λ n. n + 1) so.commands_count;
      each = λ k r x y at_step at_frame at_command. by k r x y at_step (one_more fs f x k at_frame) (one_more cs c y k at_command);
    }
  where
    by : (k : ℕ) (r : StepValue) (x : FrameValue) (y : CommandValue) → slice_get steps k ≡ Some r → (slice_get fs k ≡ Some x) ⊎ ((k ≡ length fs) × (x ≡ f)) → (slice_get cs k ≡ Some y) ⊎ ((k ≡ length cs) × (y ≡ c)) → TellsStep C r x y × (x.do_not_cache ≡ false)
    by k r x y at (inl h) (inl j) = let old = so.each k r x y at h j in (step_still B C r x y g old.0, old.1)
    by k r x y at (inl h) (inr j) = let lt = slice_get_within fs k x h in let a = so.frames_count in let b = so.commands_count in let e = j.0 in absurd (omega (arith, lt, a, b, e))
    by k r x y at (inr h) (inl j) = let lt = slice_get_within cs k y j in let a = so.frames_count in let b = so.commands_count in let e = h.0 in absurd (omega (arith, lt, a, b, e))
    by k r x y at (inr h) (inr j) =
        let number : k ≡ i = h.0 ∙ so.frames_count in
        let one : r ≡ s = one_answer (slice_get steps i) r s (subst (λ n. slice_get steps n ≡ Some r) number at) (element_at steps i s lt is) in
        subst (λ (x : FrameValue). TellsStep C r x y × (x.do_not_cache ≡ false)) (sym h.1) (subst (λ y. TellsStep C r f y × (f.do_not_cache ≡ false)) (sym j.1) (subst (λ r. TellsStep C r f c × (f.do_not_cache ≡ false)) (sym one) (told, cached)))

so_still : (B C : Blobs) (steps : List StepValue) (i : ℕ) (fs : List FrameValue) (cs : List CommandValue) → Grows B C → ToldSoFar B steps i fs cs → ToldSoFar C steps i fs cs
so_still B C steps i fs cs g so = record {
  frames_count = so.frames_count;
  commands_count = so.commands_count;
  each = λ k s f c a b d. let told = so.each k s f c a b d in (step_still B C s f c g told.0, told.1);
}

-- ---- the first fault

told_before : (B C : Blobs) (steps : List StepValue) (i : ℕ) (fs : List FrameValue) (cs : List CommandValue) → ToldSoFar B steps i fs cs → Grows B C → AreToldBefore C steps i
told_before B C steps i fs cs so g k s lt at =
    let f = has_one fs k (subst (λ n. k < n) (sym so.frames_count) lt) in
    let c = has_one cs k (subst (λ n. k < n) (sym so.commands_count) lt) in
    let told = so.each k s f.0 c.0 at f.1 c.1 in
    (f.0, c.0, step_still B C s f.0 c.0 g told.0, told.1)

pub open_fault : {A : Type 0} (B C : Blobs) (steps : List StepValue) (i : ℕ) (fs : List FrameValue) (cs : List CommandValue) (s : StepValue) (why : OpenError A) → i < length steps → s ≡ get_or steps i s → ToldSoFar B steps i fs cs → Grows B C
    → IsOpeningFault C i s why → IsOpenFault C steps why
open_fault B C steps i fs cs s opening.Memory lt is so g h = tt
open_fault B C steps i fs cs s (opening.Source j e) lt is so g h = (i, s, element_at steps i s lt is, told_before B C steps i fs cs so g, h)
open_fault B C steps i fs cs s (opening.DoNotCache j) lt is so g h = (i, s, element_at steps i s lt is, told_before B C steps i fs cs so g, h)

-- ---- how often the source is asked

unread_at : {A : Type 0} (i j : ℕ) (Fails : Fault → Type 0) (e : TreeError A) → IsUntold i Fails (opening.Source j e) → j ≡ i
unread_at i j Fails (tree.Absent path) h = h.0
unread_at i j Fails (tree.BlobMissing d) h = h.0
unread_at i j Fails (tree.BlobWrong d) h = h.0
unread_at i j Fails (tree.BlobMalformed d) h = h.0
unread_at i j Fails (tree.TooDeep path) h = h.0
unread_at i j Fails (tree.Conflict path) h = h.0
unread_at i j Fails tree.Fetch h = h.0
unread_at i j Fails tree.Memory h = absurd h

-- what is at fault in a step is asked for last
pub opening_last : {A : Type 0} (B : Blobs) (steps : List StepValue) (i : ℕ) (s : StepValue) (why : OpenError A) (old mid new : ℕ) → i < length steps → mid ≤ old + 2 * i → new ≤ mid + 2 → ((j : ℕ) → why ≡ opening.DoNotCache j → new ≤ mid + 1) → IsOpeningFault B i s why
    → new ≤ old + opening_calls (length steps) why
opening_last B steps i s opening.Memory old mid new lt first step frame h = omega (arith, lt, first, step)
opening_last B steps i s (opening.Source j e) old mid new lt first step frame (inl h) =
    let same = unread_at i j (IsFault IsFrame frame_bytes B s.frame) e h in omega (arith, same, first, step)
opening_last B steps i s (opening.Source j e) old mid new lt first step frame (inr (f, told, inl h)) = let other = h.1 in cc
opening_last B steps i s (opening.Source j e) old mid new lt first step frame (inr (f, told, inr h)) =
    let same = unread_at i j (IsFault IsCommand command_bytes B f.command) e h.1 in omega (arith, same, first, step)
opening_last B steps i s (opening.DoNotCache j) old mid new lt first step frame (inl h) = absurd h
opening_last B steps i s (opening.DoNotCache j) old mid new lt first step frame (inr (f, told, inl h)) =
    let same : j ≡ i = let is = h.1 in cc in let one = frame j refl in omega (arith, same, first, one)
opening_last B steps i s (opening.DoNotCache j) old mid new lt first step frame (inr (f, told, inr h)) = absurd h.1

-- ---- where a frame isn't told

-- the steps so far are told: a later one is at fault
behind : (C : Blobs) (steps : List StepValue) (n : ℕ) (fs : List FrameValue) (cs : List CommandValue) → ToldSoFar C steps n fs cs → (i : ℕ) (s : StepValue) (f : Fault) → slice_get steps i ≡ Some s → IsFault IsFrame frame_bytes C s.frame f → n ≤ i
behind C steps n fs cs so i s f at fault = elim (cases_lt i n) [
  | inl early ↦
      let told = told_before C C steps n fs cs so (λ d b is. is) i s early at in
      absurd (told_or_fault IsFrame frame_bytes C s.frame told.0 f told.2.frame fault)
  | inr late ↦ late
]

pub stops_behind : (steps : List StepValue) (n : ℕ) (fs : List FrameValue) (cs : List CommandValue) (old new : Telling) → ToldSoFar new.blobs steps n fs cs → new.calls ≤ old.calls + 2 * n → StopsAtFrame steps old new
stops_behind steps n fs cs old new so few = record {
  few = λ i s f at before fault. let late = behind new.blobs steps n fs cs so i s f at fault in omega (arith, few, late);
}

-- the next step isn't told, and its frame was the last
pub stops_here : (steps : List StepValue) (n : ℕ) (fs : List FrameValue) (cs : List CommandValue) (s : StepValue) (old mid new : Telling) → n < length steps → s ≡ get_or steps n s → ToldSoFar mid.blobs steps n fs cs → Grows mid.blobs new.blobs
    → mid.calls ≤ old.calls + 2 * n → new.calls ≤ mid.calls + 2 → ((f : Fault) → IsFault IsFrame frame_bytes new.blobs s.frame f → new.calls ≤ mid.calls + 1) → StopsAtFrame steps old new
stops_here steps n fs cs s old mid new lt is so g first step frame = record {
  few = λ i r f at before fault.
      let late = behind new.blobs steps n fs cs (so_still mid.blobs new.blobs steps n fs cs g so) i r f at fault in
      elim (cases_lt n i) [
        | inl later ↦ omega (arith, first, step, later)
        | inr here ↦
            let same : i ≡ n = omega (arith, late, here) in
            let one : r ≡ s = one_answer (slice_get steps n) r s (subst (λ k. slice_get steps k ≡ Some r) same at) (element_at steps n s lt is) in
            let own = frame f (subst (λ (r : StepValue). IsFault IsFrame frame_bytes new.blobs r.frame f) one fault) in
            omega (arith, first, own, same)
      ];
}

-- ---- what is asked for

meaning_still : {B C : Blobs} (s : StepValue) (a : Asked) → Grows B C → MeaningLooksAt B s a → MeaningLooksAt C s a
meaning_still s a g (inl h) = inl h
meaning_still {B} {C} s a g (inr (f, told, cached, h)) = inr (f, frame_still B C s.frame f g told, cached, h)

opening_still : {B C : Blobs} (steps : List StepValue) (a : Asked) → Grows B C → OpeningLooksAt B steps a → OpeningLooksAt C steps a
opening_still {B} {C} steps a g (i, s, at, before, h) =
    (i, s, at, λ k r lt here. let told = before k r lt here in (told.0, told.1, step_still B C r told.0 told.1 g told.2, told.3), meaning_still s a g h)

-- what the next step looks at, after those so far
pub opening_next : {old mid new : Telling} (steps : List StepValue) (i : ℕ) (fs : List FrameValue) (cs : List CommandValue) (s : StepValue) → i < length steps → s ≡ get_or steps i s → ToldSoFar mid.blobs steps i fs cs → Grows mid.blobs new.blobs
    → AsksNoOther (OpeningLooksAt mid.blobs steps) old mid → AsksNoOther (MeaningLooksAt new.blobs s) mid new → AsksNoOther (OpeningLooksAt new.blobs steps) old new
opening_next {mid = mid} {new = new} steps i fs cs s lt is so g first next =
    others_then (λ a h. opening_still steps a g h) (λ a h. (i, s, element_at steps i s lt is, told_before mid.blobs new.blobs steps i fs cs so g, h)) first next
