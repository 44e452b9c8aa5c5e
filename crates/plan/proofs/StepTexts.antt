-- Steps, one more at a time, and their text.
use Rattle.std.proofs.Common.{◌≡◌, ◌⊎◌, ℕ, zero, suc, ◌+◌, ◌*◌, ◌<◌, ◌≤◌, List, [], ◌∷◌, ◌++◌, length, get_or, length-append, refl, ap, sym, ◌∙◌, subst, inl, inr, arith, append_assoc, append-nil}
use Rattle.std.specs.List.{AllByRecursion, flat_map}
use Rattle.plan.specs.Faults.{line_count}
use Rattle.plan.specs.Line.{line_text, step_words}
use Rattle.plan.specs.Lines.{WrittenOrigin, from_step, in_line, written_words, written_origin, step_name, in_words}
use Rattle.plan.specs.Plan.{IsStep, AreSteps, lines_text, step_text}
use Rattle.plan.specs.Values.{OriginValue, source, output, LineValue, StepValue, IsOrigin, IsLine}

-- ---- later steps don't change a text

name_before : (earlier more : List StepValue) (number : ℕ) → number < length earlier → step_name (earlier ++ more) number ≡ step_name earlier number
name_before [] more number lt = absurd (omega arith)
name_before (s ∷ earlier) more zero lt = refl
name_before (s ∷ earlier) more (suc number) lt = name_before earlier more number (omega arith)

pub written_before : (earlier more : List StepValue) (origin : OriginValue) → IsOrigin (length earlier) origin → written_origin (earlier ++ more) origin ≡ written_origin earlier origin
written_before earlier more (source path) is = refl
written_before earlier more (output number path) is = ap (λ (n : List ℕ). from_step n path) (name_before earlier more number is.0)

line_before : (earlier more : List StepValue) (line : LineValue) → IsLine (length earlier) line → in_words (earlier ++ more) line ≡ in_words earlier line
line_before earlier more line is = ap (λ (o : WrittenOrigin). written_words (in_line line.target o)) (written_before earlier more line.origin is.origin)

pub lines_before : (earlier more : List StepValue) (lines : List LineValue) → AllByRecursion (IsLine (length earlier)) lines → lines_text (earlier ++ more) lines ≡ lines_text earlier lines
lines_before earlier more [] h = refl
lines_before earlier more (line ∷ lines) h =
    ap (λ (w : List ℕ). line_text w ++ lines_text (earlier ++ more) lines) (line_before earlier more line h.0)
    ∙ ap (λ (t : List ℕ). line_text (in_words earlier line) ++ t) (lines_before earlier more lines h.1)

step_before : (earlier more : List StepValue) (step : StepValue) → IsStep earlier step → step_text (earlier ++ more) step ≡ step_text earlier step
step_before earlier more step is = ap (λ (t : List ℕ). line_text (step_words step.name step.frame) ++ t) (lines_before earlier more step.lines is.lines.each)

-- each step written behind those in front of it
abbrev pub own_text : List StepValue → List StepValue → List ℕ
own_text earlier [] = []
own_text earlier (step ∷ steps) = step_text earlier step ++ own_text (earlier ++ step ∷ []) steps

pub shifted : (earlier : List StepValue) (step : StepValue) (more : List StepValue) → earlier ++ step ∷ more ≡ (earlier ++ step ∷ []) ++ more
shifted earlier step more = sym (append_assoc earlier (step ∷ []) more)

pub own : (all earlier steps more : List StepValue) → all ≡ earlier ++ (steps ++ more) → AreSteps earlier steps → flat_map (step_text all) steps ≡ own_text earlier steps
own all earlier [] more e h = refl
own all earlier (step ∷ steps) more e h =
    let first : step_text all step ≡ step_text earlier step = ap (λ (a : List StepValue). step_text a step) e ∙ step_before earlier (step ∷ (steps ++ more)) step h.0 in
    let rest = own all (earlier ++ step ∷ []) steps more (e ∙ shifted earlier step (steps ++ more)) h.1 in
    ap (λ (t : List ℕ). t ++ flat_map (step_text all) steps) first ∙ ap (λ (t : List ℕ). step_text earlier step ++ t) rest

own_more : (earlier steps : List StepValue) (step : StepValue) → own_text earlier (steps ++ step ∷ []) ≡ own_text earlier steps ++ step_text (earlier ++ steps) step
own_more earlier [] step = append-nil (step_text earlier step) ∙ ap (λ (e : List StepValue). step_text e step) (sym (append-nil earlier))
own_more earlier (s ∷ steps) step =
    ap (λ (t : List ℕ). step_text earlier s ++ t) (own_more (earlier ++ s ∷ []) steps step ∙ ap (λ (e : List StepValue). own_text (earlier ++ s ∷ []) steps ++ step_text e step) (sym (shifted earlier s steps)))
    ∙ sym (append_assoc (step_text earlier s) (own_text (earlier ++ s ∷ []) steps) (step_text (earlier ++ s ∷ steps) step))

-- ---- one more step

pub steps_more : (earlier steps : List StepValue) (step : StepValue) → AreSteps earlier steps → IsStep (earlier ++ steps) step → AreSteps earlier (steps ++ step ∷ [])
steps_more earlier [] step h is = (subst (λ (e : List StepValue). IsStep e step) (append-nil earlier) is, tt)
steps_more earlier (s ∷ steps) step h is = (h.0, steps_more (earlier ++ s ∷ []) steps step h.1 (subst (λ (e : List StepValue). IsStep e step) (shifted earlier s steps) is))

pub steps_less : (earlier steps : List StepValue) (step : StepValue) → AreSteps earlier (steps ++ step ∷ []) → AreSteps earlier steps × IsStep (earlier ++ steps) step
steps_less earlier [] step h = (tt, subst (λ (e : List StepValue). IsStep e step) (sym (append-nil earlier)) h.0)
steps_less earlier (s ∷ steps) step h =
    let rest = steps_less (earlier ++ s ∷ []) steps step h.1 in
    ((h.0, rest.0), subst (λ (e : List StepValue). IsStep e step) (sym (shifted earlier s steps)) rest.1)

pub own_all : (steps : List StepValue) → AreSteps [] steps → flat_map (step_text steps) steps ≡ own_text [] steps
own_all steps h = own steps [] steps [] (sym (append-nil steps)) h

pub steps_text_more : (steps : List StepValue) (step : StepValue) → AreSteps [] steps → IsStep steps step
    → flat_map (step_text (steps ++ step ∷ [])) (steps ++ step ∷ []) ≡ flat_map (step_text steps) steps ++ step_text steps step
steps_text_more steps step h is =
    own_all (steps ++ step ∷ []) (steps_more [] steps step h is) ∙ own_more [] steps step ∙ ap (λ (t : List ℕ). t ++ step_text steps step) (sym (own_all steps h))

pub last_of : (steps : List StepValue) → (steps ≡ []) ⊎ ((earlier : List StepValue) × (step : StepValue) × (steps ≡ earlier ++ step ∷ []))
last_of [] = inl refl
last_of (s ∷ steps) = elim (last_of steps) [
  | inl none ↦ inr ([], s, ap (λ (ss : List StepValue). s ∷ ss) none)
  | inr w ↦ inr (s ∷ w.0, w.1, ap (λ (ss : List StepValue). s ∷ ss) w.2)
]

-- ---- how many lines

pub count_more : (steps : List StepValue) (step : StepValue) → line_count (steps ++ step ∷ []) ≡ line_count steps + (1 + length step.lines)
count_more [] step = omega arith
count_more (s ∷ steps) step = let ih = count_more steps step in omega arith

pub count_few : (earlier steps : List StepValue) → AreSteps earlier steps → line_count steps ≤ 65537 * length steps
count_few earlier [] h = omega arith
count_few earlier (s ∷ steps) h =
    let ih = count_few (earlier ++ s ∷ []) steps h.1 in
    let few = h.0.lines.few in
    omega arith

-- ---- each line of a plan reads a step of the plan

wider : (m n : ℕ) (origin : OriginValue) → m ≤ n → IsOrigin m origin → IsOrigin n origin
wider m n (source path) h is = is
wider m n (output number path) h is = (omega (arith, is.0), is.1)

wider_lines : (m n : ℕ) (lines : List LineValue) → m ≤ n → AllByRecursion (IsLine m) lines → AllByRecursion (IsLine n) lines
wider_lines m n [] h is = tt
wider_lines m n (line ∷ lines) h is = (record { target = is.0.target; origin = wider m n line.origin h is.0.origin }, wider_lines m n lines h is.1)

pub lines_within : (earlier steps : List StepValue) (n k : ℕ) (step : StepValue) → AreSteps earlier steps → length earlier + length steps ≤ n → k < length steps → step ≡ get_or steps k step
    → AllByRecursion (IsLine n) step.lines
lines_within earlier [] n k step h few lt e = absurd (omega arith)
lines_within earlier (s ∷ steps) n zero step h few lt e =
    subst (λ (x : StepValue). AllByRecursion (IsLine n) x.lines) (sym e) (wider_lines (length earlier) n s.lines (omega arith) h.0.lines.each)
lines_within earlier (s ∷ steps) n (suc k) step h few lt e =
    let len = length-append earlier (s ∷ []) in
    lines_within (earlier ++ s ∷ []) steps n k step h.1 (omega arith) (omega arith) e
