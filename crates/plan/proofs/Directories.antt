-- Lines of a directory, one more at a time.
use Rattle.std.proofs.Common.{◌≡◌, ◌≢◌, ◌⊎◌, ◌↔◌, ℕ, zero, suc, ◌+◌, ◌<◌, Bool, true, false, List, [], ◌∷◌, ◌++◌, length, map, refl, ap, sym, ◌∙◌, subst, inl, inr, arith, codes, append_assoc, append-nil, length-append}
use Rattle.std.specs.List.{Contains, AllByRecursion}
use Rattle.std.proofs.lemmas.Grind.{flat_map-append}
use Rattle.std.proofs.lemmas.List.Elements.{Contains-append_cases, Contains-append_left, Contains-append_right}
use Rattle.messages.specs.Path.{Overlap}
use Rattle.plan.specs.declared.error.Fault.{Fault}
use Rattle.plan.specs.declared.error.Fault.TheVariants as faults
use Rattle.plan.specs.declared.error.ReadError.{ReadError}
use Rattle.plan.specs.declared.error.ReadError.TheVariants.{Faulty}
use Rattle.plan.specs.declared.version.Version.{Version}
use Rattle.plan.specs.declared.version.Version.TheVariants.{One, Two}
use Rattle.plan.specs.Faults.{BeginsWithLine, HasStep, IsLater, OverlapsAny}
use Rattle.plan.specs.Parts.{IsFirstFault, IsNextInFault, IsLinesFault}
use Rattle.plan.specs.Line.{line_text, Begins, IsStepName}
use Rattle.plan.specs.Lines.{in_line, IsWrittenOrigin, in_words, written_origin, step_name}
use Rattle.plan.specs.Plan.{AreLines, AreSteps, NoTargetsOverlap, KeepApart, lines_text}
use Rattle.plan.specs.Reading.{FaultyUnlessMemory}
use Rattle.plan.specs.Targets.{TakesIn}
use Rattle.plan.specs.Values.{OriginValue, source, output, LineValue, StepValue, IsOrigin, IsLine}

-- ---- one more line

each_more : (n : ℕ) (lines : List LineValue) (line : LineValue) → AllByRecursion (IsLine n) lines → IsLine n line → AllByRecursion (IsLine n) (lines ++ line ∷ [])
each_more n [] line h is = (is, tt)
each_more n (first ∷ lines) line h is = (h.0, each_more n lines line h.1 is)

pub turned : (p q : List (List ℕ)) → Overlap p q → Overlap q p
turned p q (inl e) = inl (sym e)
turned p q (inr (inl under)) = inr (inr under)
turned p q (inr (inr above)) = inr (inl above)

abbrev pub targets_of : List LineValue → List (List (List ℕ))
targets_of lines = map (λ line. line.target) lines

here : (p : List (List ℕ)) (ps : List (List (List ℕ))) → Contains (p ∷ ps) p
here p ps = (0, omega arith, refl)

there : (p q : List (List ℕ)) (ps : List (List (List ℕ))) → Contains ps q → Contains (p ∷ ps) q
there p q ps has = Contains-append_right (p ∷ []) ps q has

apart_last : (first line : LineValue) (lines : List LineValue) → AllByRecursion (λ other. ¬ Overlap first.target other.target) lines → ¬ Overlap first.target line.target
    → AllByRecursion (λ other. ¬ Overlap first.target other.target) (lines ++ line ∷ [])
apart_last first line [] h free = (free, tt)
apart_last first line (next ∷ lines) h free = (h.0, apart_last first line lines h.1 free)

apart_more : (lines : List LineValue) (line : LineValue) → NoTargetsOverlap lines → ¬ OverlapsAny line.target (targets_of lines) → NoTargetsOverlap (lines ++ line ∷ [])
apart_more [] line h free = (tt, tt)
apart_more (first ∷ lines) line h free = (
  apart_last first line lines h.0 (λ o. free (first.target, here first.target (targets_of lines), turned first.target line.target o)),
  apart_more lines line h.1 (λ w. free (w.0, there first.target w.0 (targets_of lines) w.1, w.2)),
)

pub lines_more : (n : ℕ) (lines : List LineValue) (line : LineValue) → AreLines n lines → IsLine n line → length lines ≢ 65536 → AreLines n (lines ++ line ∷ [])
lines_more n lines line h is room =
    let len = length-append lines (line ∷ []) in
    let few = h.few in
    record { few = omega arith; each = each_more n lines line h.each is }

pub no_lines : (n : ℕ) → AreLines n []
no_lines n = record { few = omega arith; each = tt }

pub still_apart : (version : Version) (lines : List LineValue) (line : LineValue) → KeepApart version lines → (version ≡ One → ¬ OverlapsAny line.target (targets_of lines)) → KeepApart version (lines ++ line ∷ [])
still_apart version lines line apart free one = apart_more lines line (apart one) (free one)

-- the text of one more line
pub text_more : (steps : List StepValue) (lines : List LineValue) (line : LineValue) (rest : List ℕ) → lines_text steps lines ++ (line_text (in_words steps line) ++ rest) ≡ lines_text steps (lines ++ line ∷ []) ++ rest
text_more steps lines line rest =
    let one : lines_text steps (line ∷ []) ≡ line_text (in_words steps line) = append-nil (line_text (in_words steps line)) in
    let all : lines_text steps (lines ++ line ∷ []) ≡ lines_text steps lines ++ line_text (in_words steps line) =
    flat_map-append (λ (l : LineValue). line_text (in_words steps l)) lines (line ∷ []) ∙ ap (λ (t : List ℕ). lines_text steps lines ++ t) one
    in
    sym (ap (λ (t : List ℕ). t ++ rest) all ∙ append_assoc (lines_text steps lines) (line_text (in_words steps line)) rest)

-- ---- the set of targets is that of the lines

abbrev pub AreTargets : List (List (List ℕ)) → List LineValue → Type 0
AreTargets targets lines = (p : List (List ℕ)) → Contains targets p ↔ Contains (targets_of lines) p

map_more : (lines : List LineValue) (line : LineValue) → targets_of (lines ++ line ∷ []) ≡ targets_of lines ++ line.target ∷ []
map_more [] line = refl
map_more (first ∷ lines) line = ap (λ (l : List (List (List ℕ))). first.target ∷ l) (map_more lines line)

last_or : (targets : List (List (List ℕ))) (t p : List (List ℕ)) → Contains (targets ++ t ∷ []) p → (p ≡ t) ⊎ Contains targets p
last_or targets t p has = elim (Contains-append_cases targets (t ∷ []) p has) [
  | inl old ↦ inr old
  | inr new ↦ inl (only new)
] where
  only : Contains (t ∷ []) p → p ≡ t
  only (zero, within, e) = sym e
  only (suc k, within, e) = absurd (omega (arith, within))

pub targets_more : (old new : List (List (List ℕ))) (lines : List LineValue) (line : LineValue) → AreTargets old lines → ((p : List (List ℕ)) → Contains new p ↔ ((p ≡ line.target) ⊎ Contains old p))
    → AreTargets new (lines ++ line ∷ [])
targets_more old new lines line same with_line p = (
  λ has. subst (λ (l : List (List (List ℕ))). Contains l p) (sym (map_more lines line)) (forth ((with_line p).0 has)),
  λ has. (with_line p).1 (back (last_or (targets_of lines) line.target p (subst (λ (l : List (List (List ℕ))). Contains l p) (map_more lines line) has))),
)
  where
    forth : (p ≡ line.target) ⊎ Contains old p → Contains (targets_of lines ++ line.target ∷ []) p
    forth (inl e) = Contains-append_right (targets_of lines) (line.target ∷ []) p (subst (λ (q : List (List ℕ)). Contains (line.target ∷ []) q) (sym e) (here line.target []))
    forth (inr has) = Contains-append_left (targets_of lines) (line.target ∷ []) p ((same p).0 has)

    back : (p ≡ line.target) ⊎ Contains (targets_of lines) p → (p ≡ line.target) ⊎ Contains old p
    back (inl e) = inl e
    back (inr has) = inr ((same p).1 has)

-- the set of targets is kept in version 1 alone
abbrev pub AreTargetsIn : Version → List (List (List ℕ)) → List LineValue → Type 0
AreTargetsIn version targets lines = version ≡ One → AreTargets targets lines

pub targets_more_in : (version : Version) (old new : List (List (List ℕ))) (lines : List LineValue) (line : LineValue) → AreTargetsIn version old lines → TakesIn version true line.target old new → AreTargetsIn version new (lines ++ line ∷ [])
targets_more_in One old new lines line same takes one = targets_more old new lines line (same one) takes.1
targets_more_in Two old new lines line same takes one = absurd (cc one)

overlaps_lines : (targets : List (List (List ℕ))) (lines : List LineValue) (p : List (List ℕ)) → AreTargets targets lines → OverlapsAny p targets → OverlapsAny p (targets_of lines)
overlaps_lines targets lines p same w = (w.0, (same w.0).0 w.1, w.2)

free_of_lines : (targets : List (List (List ℕ))) (lines : List LineValue) (p : List (List ℕ)) → AreTargets targets lines → ¬ OverlapsAny p targets → ¬ OverlapsAny p (targets_of lines)
free_of_lines targets lines p same free w = free (w.0, (same w.0).1 w.1, w.2)

pub free_in : (version : Version) (targets new : List (List (List ℕ))) (lines : List LineValue) (p : List (List ℕ)) → AreTargetsIn version targets lines → TakesIn version true p targets new
    → version ≡ One → ¬ OverlapsAny p (targets_of lines)
free_in One targets new lines p same takes one = free_of_lines targets lines p (same one) takes.0
free_in Two targets new lines p same takes one = absurd (cc one)

overlaps_in : (version : Version) (targets new : List (List (List ℕ))) (lines : List LineValue) (p : List (List ℕ)) → AreTargetsIn version targets lines → TakesIn version false p targets new
    → (version ≡ One) × OverlapsAny p (targets_of lines)
overlaps_in One targets new lines p same refusal = (refl, overlaps_lines targets lines p (same refl) refusal.0)
overlaps_in Two targets new lines p same refusal = let taken = refusal.0 in absurd cc

-- ---- a line that names earlier steps

-- each step has a valid name
abbrev pub AreNamed : List StepValue → Type 0
AreNamed steps = AllByRecursion (λ s. IsStepName s.name) steps

pub named : (earlier steps : List StepValue) → AreSteps earlier steps → AreNamed steps
named earlier [] h = tt
named earlier (s ∷ steps) h = (h.0.name, named (earlier ++ s ∷ []) steps h.1)

name_at : (steps : List StepValue) (number : ℕ) → AreNamed steps → number < length steps → IsStepName (step_name steps number)
name_at [] number h lt = absurd (omega arith)
name_at (s ∷ steps) zero h lt = h.0
name_at (s ∷ steps) (suc number) h lt = name_at steps number h.1 (omega arith)

pub has_at : (steps : List StepValue) (number : ℕ) → number < length steps → HasStep steps (step_name steps number)
has_at [] number lt = absurd (omega arith)
has_at (s ∷ steps) zero lt = inl refl
has_at (s ∷ steps) (suc number) lt = inr (has_at steps number (omega arith))

pub written_valid : (steps : List StepValue) (origin : OriginValue) → AreNamed steps → IsOrigin (length steps) origin → IsWrittenOrigin (written_origin steps origin)
written_valid steps (source path) h is = is
written_valid steps (output number path) h is = (name_at steps number h is.0, is.1)

pub not_later : (steps : List StepValue) (origin : OriginValue) → IsOrigin (length steps) origin → ¬ IsLater steps (written_origin steps origin)
not_later steps (source path) is later = later
not_later steps (output number path) is later = later (has_at steps number is.0)

-- ---- a line at fault

pub begins_in : (steps : List StepValue) (line : LineValue) (rest behind : List ℕ) → AreNamed steps → IsLine (length steps) line → rest ≡ line_text (in_words steps line) ++ behind
    → BeginsWithLine (in_line line.target (written_origin steps line.origin)) rest
begins_in steps line rest behind h is e = ((is.target, written_valid steps line.origin h is.origin), (behind, e))

lines_fault : (version : Version) (steps : List StepValue) (first : ℕ) (text rest : List ℕ) (good : List LineValue) (number : ℕ) (fault : Fault) (e : ReadError)
    → text ≡ lines_text steps good ++ rest → AreLines (length steps) good → KeepApart version good → number ≡ first + length good → IsNextInFault version steps good rest fault
    → e ≡ Faulty (record { line = number; fault = fault }) → FaultyUnlessMemory (IsLinesFault version steps first text) e
lines_fault version steps first text rest good number fault e cut valid apart at h told =
    let told_fault : IsLinesFault version steps first text (record { line = number; fault = fault }) = record { good = good; rest = rest; valid = valid; apart = apart; cut = cut; number = at; fault = h } in
    subst (FaultyUnlessMemory (IsLinesFault version steps first text)) (sym told) told_fault

next_fault : (version : Version) (steps : List StepValue) (good : List LineValue) (rest : List ℕ) (fault : Fault) → Begins (codes "in ") rest → IsFirstFault steps rest fault → IsNextInFault version steps good rest fault
next_fault version steps good rest faults.BadLine begins h = inl (refl, begins, h)
next_fault version steps good rest faults.LaterStep begins h = inr (h.0, h.1, h.2, h.3)
next_fault version steps good rest faults.BadHeader begins h = absurd h
next_fault version steps good rest faults.SameStep begins h = absurd h
next_fault version steps good rest faults.Overlap begins h = absurd h
next_fault version steps good rest faults.TooMany begins h = absurd h
next_fault version steps good rest faults.RecordDiffers begins h = absurd h

pub form_fault : (version : Version) (steps : List StepValue) (first : ℕ) (text rest : List ℕ) (good : List LineValue) (number : ℕ) (fault : Fault) (e : ReadError)
    → text ≡ lines_text steps good ++ rest → AreLines (length steps) good → KeepApart version good → number ≡ first + length good → Begins (codes "in ") rest → IsFirstFault steps rest fault
    → e ≡ Faulty (record { line = number; fault = fault }) → FaultyUnlessMemory (IsLinesFault version steps first text) e
form_fault version steps first text rest good number fault e cut valid apart at begins h told =
    lines_fault version steps first text rest good number fault e cut valid apart at (next_fault version steps good rest fault begins h) told

pub many_fault : (version : Version) (steps : List StepValue) (first : ℕ) (text rest behind : List ℕ) (good : List LineValue) (line : LineValue) (number : ℕ) (e : ReadError)
    → AreNamed steps → text ≡ lines_text steps good ++ rest → AreLines (length steps) good → KeepApart version good → number ≡ first + length good → IsLine (length steps) line → rest ≡ line_text (in_words steps line) ++ behind
    → length good ≡ 65536 → e ≡ Faulty (record { line = number; fault = faults.TooMany }) → FaultyUnlessMemory (IsLinesFault version steps first text) e
many_fault version steps first text rest behind good line number e h cut valid apart at is f full told =
    lines_fault version steps first text rest good number faults.TooMany e cut valid apart at
    (inr (line.target, written_origin steps line.origin, begins_in steps line rest behind h is f, (not_later steps line.origin is.origin, full))) told

pub overlap_fault : (version : Version) (steps : List StepValue) (first : ℕ) (text rest behind : List ℕ) (good : List LineValue) (line : LineValue) (number : ℕ) (targets new : List (List (List ℕ))) (target : List (List ℕ)) (taken : Bool) (e : ReadError)
    → AreNamed steps → text ≡ lines_text steps good ++ rest → AreLines (length steps) good → KeepApart version good → number ≡ first + length good → IsLine (length steps) line → rest ≡ line_text (in_words steps line) ++ behind
    → length good ≢ 65536 → AreTargetsIn version targets good → target ≡ line.target → taken ≡ false → TakesIn version taken target targets new → e ≡ Faulty (record { line = number; fault = faults.Overlap })
    → FaultyUnlessMemory (IsLinesFault version steps first text) e
overlap_fault version steps first text rest behind good line number targets new target taken e h cut valid apart at is f room same target_is refused takes told =
    let few = valid.few in
    let refusal : TakesIn version false target targets new = subst (λ (t : Bool). TakesIn version t target targets new) refused takes in
    let overlaps = overlaps_in version targets new good line.target same (subst (λ (p : List (List ℕ)). TakesIn version false p targets new) target_is refusal) in
    lines_fault version steps first text rest good number faults.Overlap e cut valid apart at
    (inr (line.target, written_origin steps line.origin, begins_in steps line rest behind h is f, (overlaps.0, not_later steps line.origin is.origin, omega arith, overlaps.1))) told
