-- Steps as a beginning of a plan, and faults behind it.
use Rattle.std.proofs.Common.{◌≡◌, ◌≢◌, ℕ, ◌+◌, ◌<◌, ◌≤◌, List, [], ◌∷◌, ◌++◌, length, refl, ap, sym, ◌∙◌, subst, inl, inr, arith, codes, append_assoc, append-nil, length-append, Result, Ok, Err, IfErr}
use Rattle.std.specs.Result.{IsErrAnd}
use Rattle.std.specs.List.{AllByRecursion, flat_map}
use Rattle.blob_digest.specs.Digest.{DigestValue, IsDigest}
use Rattle.plan.specs.declared.error.PlanError.{PlanError}
use Rattle.plan.specs.declared.error.Fault.{Fault}
use Rattle.plan.specs.declared.error.Fault.TheVariants as faults
use Rattle.plan.specs.declared.error.ReadError.{ReadError}
use Rattle.plan.specs.declared.error.ReadError.TheVariants.{Faulty, Memory}
use Rattle.plan.specs.declared.version.Version.{Version}
use Rattle.plan.specs.Faults.{Beginning, at_start, in_step, in_root, IsBeginning, beginning_text, line_count, next_number, BeginsWithLine, MayStand, HasStep, IsStepFault, IsLineFault, NoLineStands, IsNextFault, IsFaultBehind}
use Rattle.plan.specs.Parts.{IsNextInFault, IsLinesFault, IsFront}
use Rattle.plan.specs.Line.{line_text, Begins, IsStepName, step_words}
use Rattle.plan.specs.Lines.{WrittenOrigin, WrittenLine, step_line, root_line, in_line}
use Rattle.plan.specs.Plan.{KeepApart, AllKeepApart, AreLines, IsStep, AreSteps, plan_header, lines_text, step_text, plan_text}
use Rattle.plan.specs.Reading.{FaultyUnlessMemory}
use Rattle.plan.specs.Values.{LineValue, StepValue, PlanValue}
use Rattle.plan.proofs.Lines.{heads}
use Rattle.plan.proofs.StepTexts.{steps_less, steps_more, steps_text_more, last_of, count_more}

-- ---- lines that begin otherwise

step_is_no_in : (name : List ℕ) (frame : DigestValue) (rest : List ℕ) → Begins (codes "in ") rest → ¬ BeginsWithLine (step_line name frame) rest
step_is_no_in name frame rest begins first = heads 105 115 _ _ (omega arith) (sym begins.1 ∙ first.1.1)

root_is_no_in : (rest : List ℕ) → Begins (codes "in ") rest → ¬ BeginsWithLine root_line rest
root_is_no_in rest begins first = heads 105 114 _ _ (omega arith) (sym begins.1 ∙ first.1.1)

in_begins : (target : List (List ℕ)) (origin : WrittenOrigin) (rest : List ℕ) → BeginsWithLine (in_line target origin) rest → Begins (codes "in ") rest
in_begins target origin rest first = (_, first.1.1)

-- ---- whole steps

-- the beginning that these steps are
pub record IsBehind (version : Version) (steps : List StepValue) (start : Beginning) : Type 0 where
  pub valid : IsBeginning version start
  pub text : beginning_text version start ≡ plan_header version ++ flat_map (step_text steps) steps
  pub number : next_number start ≡ line_count steps + 2
  pub step_fault : (name : List ℕ) (frame : DigestValue) (fault : Fault) → IsStepFault steps name fault → IsLineFault version start (step_line name frame) fault
  pub no_line : (rest : List ℕ) → ((name : List ℕ) (frame : DigestValue) → ¬ BeginsWithLine (step_line name frame) rest) → ¬ Begins (line_text (codes "root")) rest
      → ((steps ≢ []) → ¬ Begins (codes "in ") rest) → NoLineStands start rest

none_at_start : (version : Version) (name : List ℕ) (frame : DigestValue) (fault : Fault) → IsStepFault [] name fault → IsLineFault version at_start (step_line name frame) fault
none_at_start version name frame faults.SameStep h = h
none_at_start version name frame faults.TooMany h = omega (arith, h.1)
none_at_start version name frame faults.BadHeader h = h
none_at_start version name frame faults.BadLine h = h
none_at_start version name frame faults.LaterStep h = h
none_at_start version name frame faults.Overlap h = h
none_at_start version name frame faults.RecordDiffers h = h

no_line_at_start : (rest : List ℕ) → ((name : List ℕ) (frame : DigestValue) → ¬ BeginsWithLine (step_line name frame) rest) → ¬ Begins (line_text (codes "root")) rest → NoLineStands at_start rest
no_line_at_start rest steps root = (λ ends. absurd ends, by)
  where
    by : (line : WrittenLine) → MayStand at_start line → ¬ BeginsWithLine line rest
    by (step_line name frame) may first = steps name frame first
    by root_line may first = root first.1
    by (in_line target origin) may first = may

no_line_in_step : (earlier : List StepValue) (step : StepValue) (rest : List ℕ) → ((name : List ℕ) (frame : DigestValue) → ¬ BeginsWithLine (step_line name frame) rest) → ¬ Begins (line_text (codes "root")) rest
    → ¬ Begins (codes "in ") rest → NoLineStands (in_step earlier step) rest
no_line_in_step earlier step rest steps root lines = (λ ends. absurd ends, by)
  where
    by : (line : WrittenLine) → MayStand (in_step earlier step) line → ¬ BeginsWithLine line rest
    by (step_line name frame) may first = steps name frame first
    by root_line may first = root first.1
    by (in_line target origin) may first = lines (in_begins target origin rest first)

step_text_joined : (version : Version) (earlier : List StepValue) (step : StepValue) → AreSteps [] earlier → IsStep earlier step
    → beginning_text version (in_step earlier step) ≡ plan_header version ++ flat_map (step_text (earlier ++ step ∷ [])) (earlier ++ step ∷ [])
step_text_joined version earlier step h is = ap (λ (t : List ℕ). plan_header version ++ t) (sym (steps_text_more earlier step h is))

pub apart_last : (version : Version) (earlier : List StepValue) (step : StepValue) → AllKeepApart version earlier → KeepApart version step.lines → AllKeepApart version (earlier ++ step ∷ [])
apart_last version [] step h last = (last, tt)
apart_last version (s ∷ earlier) step h last = (h.0, apart_last version earlier step h.1 last)

apart_split : (version : Version) (earlier : List StepValue) (step : StepValue) → AllKeepApart version (earlier ++ step ∷ []) → AllKeepApart version earlier × KeepApart version step.lines
apart_split version [] step h = (tt, h.0)
apart_split version (s ∷ earlier) step h =
    let rest = apart_split version earlier step h.1 in
    ((h.0, rest.0), rest.1)

behind_last : (version : Version) (steps earlier : List StepValue) (step : StepValue) → length steps ≤ 4096 → AreSteps [] steps → AllKeepApart version steps → steps ≡ earlier ++ step ∷ []
    → IsBehind version steps (in_step earlier step)
behind_last version steps earlier step few h apart e =
    let apart_parts = apart_split version earlier step (subst (AllKeepApart version) e apart) in
    let parts = steps_less [] earlier step (subst (AreSteps []) e h) in
    let count = count_more earlier step in
    let len = length-append earlier (step ∷ []) in
    let same_len : length steps ≡ length (earlier ++ step ∷ []) = ap (λ (ss : List StepValue). length ss) e in
    let counted : line_count steps ≡ line_count (earlier ++ step ∷ []) = ap line_count e in
    record {
      valid = (omega arith, parts.0, parts.1, apart_parts.0, apart_parts.1);
      text = step_text_joined version earlier step parts.0 parts.1 ∙ ap (λ (ss : List StepValue). plan_header version ++ flat_map (step_text ss) ss) (sym e);
      number = omega arith;
      step_fault = λ name frame fault f. subst (λ (ss : List StepValue). IsStepFault ss name fault) e f;
      no_line = λ rest steps_none root lines. no_line_in_step earlier step rest steps_none root (lines (λ none. some (sym none ∙ e)));
    }
  where
    some : [] ≢ earlier ++ step ∷ []
    some f = let g = ap (λ (ss : List StepValue). length ss) f in omega (arith, length-append earlier (step ∷ []))

behind_none : (version : Version) (steps : List StepValue) → steps ≡ [] → IsBehind version steps at_start
behind_none version steps e = subst (λ (ss : List StepValue). IsBehind version ss at_start) (sym e) (record {
  valid = tt;
  text = sym (append-nil (plan_header version));
  number = omega arith;
  step_fault = none_at_start version;
  no_line = λ rest steps_none root lines. no_line_at_start rest steps_none root;
})

pub behind : (version : Version) (steps : List StepValue) → length steps ≤ 4096 → AreSteps [] steps → AllKeepApart version steps → (start : Beginning) × IsBehind version steps start
behind version steps few h apart = elim (last_of steps) [
  | inl none ↦ (at_start, behind_none version steps none)
  | inr w ↦ (in_step w.0 w.1, behind_last version steps w.0 w.1 few h apart w.2)
]

-- ---- faults

fault_with : (version : Version) (text : List ℕ) (start : Beginning) (rest : List ℕ) (number : ℕ) (fault : Fault) (e : ReadError)
    → IsBeginning version start → text ≡ beginning_text version start ++ rest → number ≡ next_number start → IsNextFault version start rest fault → e ≡ Faulty (record { line = number; fault = fault })
    → FaultyUnlessMemory (IsFaultBehind text) e
fault_with version text start rest number fault e valid cut at h told =
    let told_fault : IsFaultBehind text (record { line = number; fault = fault }) = record { version = version; start = start; rest = rest; valid = valid; cut = cut; number = at; fault = h } in
    subst (FaultyUnlessMemory (IsFaultBehind text)) (sym told) told_fault

cut_behind : (version : Version) (text rest : List ℕ) (steps : List StepValue) (start : Beginning) → IsBehind version steps start → text ≡ flat_map (step_text steps) steps ++ rest
    → plan_header version ++ text ≡ beginning_text version start ++ rest
cut_behind version text rest steps start is e =
    ap (λ (t : List ℕ). plan_header version ++ t) e ∙ sym (append_assoc (plan_header version) (flat_map (step_text steps) steps) rest) ∙ ap (λ (t : List ℕ). t ++ rest) (sym is.text)

-- a step's line is at fault
pub step_fault : (version : Version) (text rest behind_it : List ℕ) (steps : List StepValue) (name : List ℕ) (frame : DigestValue) (number : ℕ) (fault : Fault) (e : ReadError)
    → length steps ≤ 4096 → AreSteps [] steps → AllKeepApart version steps → text ≡ flat_map (step_text steps) steps ++ rest → number ≡ line_count steps + 2 → BeginsWithLine (step_line name frame) rest → IsStepFault steps name fault
    → e ≡ Faulty (record { line = number; fault = fault }) → FaultyUnlessMemory (IsFaultBehind (plan_header version ++ text)) e
step_fault version text rest behind_it steps name frame number fault e few h apart cut at first f told =
    let b = behind version steps few h apart in
    fault_with version (plan_header version ++ text) b.0 rest number fault e b.1.valid (cut_behind version text rest steps b.0 b.1 cut) (at ∙ sym b.1.number)
    (inr (step_line name frame, first, b.1.step_fault name frame fault f)) told

-- no step's line and no `root` stands behind the steps
pub root_fault : (version : Version) (text rest : List ℕ) (steps : List StepValue) (number : ℕ) (e : ReadError) → IsFront version text steps rest number → ¬ Begins (line_text (codes "root")) rest
    → e ≡ Faulty (record { line = number; fault = faults.BadLine }) → FaultyUnlessMemory (IsFaultBehind (plan_header version ++ text)) e
root_fault version text rest steps number e front none told =
    let b = behind version steps front.few front.valid front.apart in
    fault_with version (plan_header version ++ text) b.0 rest number faults.BadLine e b.1.valid (cut_behind version text rest steps b.0 b.1 front.cut) (front.counted ∙ sym b.1.number)
    (inl (refl, b.1.no_line rest front.none none front.no_in)) told

-- ---- a directory's line is at fault

next_in_step : (version : Version) (steps : List StepValue) (step : StepValue) (rest : List ℕ) (fault : Fault) → IsNextInFault version steps step.lines rest fault → IsNextFault version (in_step steps step) rest fault
next_in_step version steps step rest fault (inl w) = inl (w.0, (λ ends. absurd ends, by))
  where
    by : (line : WrittenLine) → MayStand (in_step steps step) line → ¬ BeginsWithLine line rest
    by (step_line name frame) may first = step_is_no_in name frame rest w.1 first
    by root_line may first = root_is_no_in rest w.1 first
    by (in_line target origin) may first = w.2 target origin first
next_in_step version steps step rest fault (inr w) = inr (in_line w.0 w.1, w.2, w.3)

next_in_root : (version : Version) (steps : List StepValue) (lines : List LineValue) (rest : List ℕ) (fault : Fault) → IsNextInFault version steps lines rest fault → IsNextFault version (in_root steps lines) rest fault
next_in_root version steps lines rest fault (inl w) = inl (w.0, (λ ends none. cc (sym none ∙ w.1.1), by))
  where
    by : (line : WrittenLine) → MayStand (in_root steps lines) line → ¬ BeginsWithLine line rest
    by (step_line name frame) may first = may
    by root_line may first = may
    by (in_line target origin) may first = w.2 target origin first
next_in_root version steps lines rest fault (inr w) = inr (in_line w.0 w.1, w.2, w.3)

abbrev pub step_with : List ℕ → DigestValue → List LineValue → StepValue
step_with name frame lines = record { name = name; frame = frame; lines = lines }

-- a line of a step
pub lines_of_step : (version : Version) (text rest behind_it : List ℕ) (steps : List StepValue) (name : List ℕ) (frame : DigestValue) (first : ℕ) (e : PlanError)
    → length steps < 4096 → AreSteps [] steps → AllKeepApart version steps → text ≡ flat_map (step_text steps) steps ++ rest → first ≡ line_count steps + 3 → rest ≡ line_text (step_words name frame) ++ behind_it
    → IsStep steps (step_with name frame []) → IsLinesFault version steps first behind_it e → IsFaultBehind (plan_header version ++ text) e
lines_of_step version text rest behind_it steps name frame first e few h apart cut at begins is f =
    let number = f.number in
    record {
      version = version;
      start = in_step steps (step_with name frame f.good);
      rest = f.rest;
      valid = (few, h, record { name = is.name; new = is.new; frame = is.frame; lines = f.valid }, apart, f.apart);
      cut =
          ap (λ (t : List ℕ). plan_header version ++ t)
          (cut ∙ ap (λ (t : List ℕ). flat_map (step_text steps) steps ++ t) (begins ∙ ap (λ (t : List ℕ). line_text (step_words name frame) ++ t) f.cut ∙ sym (append_assoc (line_text (step_words name frame)) (lines_text steps f.good) f.rest))
          ∙ sym (append_assoc (flat_map (step_text steps) steps) (step_text steps (step_with name frame f.good)) f.rest))
          ∙ sym (append_assoc (plan_header version) (flat_map (step_text steps) steps ++ step_text steps (step_with name frame f.good)) f.rest);
      number = omega arith;
      fault = next_in_step version steps (step_with name frame f.good) f.rest e.fault f.fault;
    }

abbrev pub plan_with : Version → List StepValue → List LineValue → PlanValue
plan_with version steps lines = record { version = version; steps = steps; root_lines = lines }

-- the text of a plan whose root has these lines
pub root_cut : (version : Version) (text rest behind_it end : List ℕ) (steps : List StepValue) (lines : List LineValue) → text ≡ flat_map (step_text steps) steps ++ rest → rest ≡ line_text (codes "root") ++ behind_it → behind_it ≡ lines_text steps lines ++ end
    → plan_header version ++ text ≡ plan_text (plan_with version steps lines) ++ end
root_cut version text rest behind_it end steps lines cut begins f =
    ap (λ (t : List ℕ). plan_header version ++ t)
    (cut ∙ ap (λ (t : List ℕ). flat_map (step_text steps) steps ++ t) (begins ∙ ap (λ (t : List ℕ). line_text (codes "root") ++ t) f ∙ sym (append_assoc (line_text (codes "root")) (lines_text steps lines) end))
    ∙ sym (append_assoc (flat_map (step_text steps) steps) (line_text (codes "root") ++ lines_text steps lines) end))
    ∙ sym (append_assoc (plan_header version) (flat_map (step_text steps) steps ++ (line_text (codes "root") ++ lines_text steps lines)) end)

-- a line of the root
pub lines_of_root : (version : Version) (text rest behind_it : List ℕ) (steps : List StepValue) (number : ℕ) (e : PlanError)
    → IsFront version text steps rest number → rest ≡ line_text (codes "root") ++ behind_it → IsLinesFault version steps (number + 1) behind_it e → IsFaultBehind (plan_header version ++ text) e
lines_of_root version text rest behind_it steps number e front begins f =
    let told = f.number in
    let counted = front.counted in
    record {
      version = version;
      start = in_root steps f.good;
      rest = f.rest;
      valid = record { few = front.few; steps = front.valid; root_lines = f.valid; apart = front.apart; root_apart = f.apart };
      cut = root_cut version text rest behind_it f.rest steps f.good front.cut begins f.cut;
      number = omega arith;
      fault = next_in_root version steps f.good f.rest e.fault f.fault;
    }

-- what stands behind the root is none of its lines
pub end_fault : (version : Version) (text rest behind_it end : List ℕ) (steps : List StepValue) (lines : List LineValue) (number at : ℕ) (e : ReadError)
    → IsFront version text steps rest number → rest ≡ line_text (codes "root") ++ behind_it → AreLines (length steps) lines → KeepApart version lines → behind_it ≡ lines_text steps lines ++ end → end ≢ [] → ¬ Begins (codes "in ") end
    → at ≡ number + 1 + length lines → e ≡ Faulty (record { line = at; fault = faults.BadLine }) → FaultyUnlessMemory (IsFaultBehind (plan_header version ++ text)) e
end_fault version text rest behind_it end steps lines number at e front begins valid apart f some none counted told =
    let front_counted = front.counted in
    fault_with version (plan_header version ++ text) (in_root steps lines) end at faults.BadLine e (record { few = front.few; steps = front.valid; root_lines = valid; apart = front.apart; root_apart = apart }) (root_cut version text rest behind_it end steps lines front.cut begins f) (omega arith)
    (inl (refl, (λ _. some, by))) told
  where
    by : (line : WrittenLine) → MayStand (in_root steps lines) line → ¬ BeginsWithLine line end
    by (step_line name frame) may first = may
    by root_line may first = may
    by (in_line target origin) may first = none (in_begins target origin end first)

-- ---- one more step

new_of : (steps : List StepValue) (name : List ℕ) → ¬ HasStep steps name → AllByRecursion (λ other. other.name ≢ name) steps
new_of [] name none = tt
new_of (s ∷ steps) name none = ((λ e. none (inl e)), new_of steps name (λ has. none (inr has)))

pub has_not_new : (steps : List StepValue) (name : List ℕ) → AllByRecursion (λ other. other.name ≢ name) steps → ¬ HasStep steps name
has_not_new [] name h has = has
has_not_new (s ∷ steps) name h (inl e) = h.0 e
has_not_new (s ∷ steps) name h (inr has) = has_not_new steps name h.1 has

pub is_step : (steps : List StepValue) (step : StepValue) → ¬ HasStep steps step.name → IsStepName step.name → IsDigest step.frame → AreLines (length steps) step.lines → IsStep steps step
is_step steps step new named valid lines = record { name = named; new = new_of steps step.name new; frame = valid; lines = lines }

pub front_more : (text rest behind_it more : List ℕ) (steps : List StepValue) (step : StepValue) → AreSteps [] steps → IsStep steps step → text ≡ flat_map (step_text steps) steps ++ rest
    → rest ≡ line_text (step_words step.name step.frame) ++ behind_it → behind_it ≡ lines_text steps step.lines ++ more
    → text ≡ flat_map (step_text (steps ++ step ∷ [])) (steps ++ step ∷ []) ++ more
front_more text rest behind_it more steps step h is cut begins f =
    cut
    ∙ ap (λ (t : List ℕ). flat_map (step_text steps) steps ++ t) (begins ∙ ap (λ (t : List ℕ). line_text (step_words step.name step.frame) ++ t) f ∙ sym (append_assoc (line_text (step_words step.name step.frame)) (lines_text steps step.lines) more))
    ∙ sym (append_assoc (flat_map (step_text steps) steps) (step_text steps step) more)
    ∙ ap (λ (t : List ℕ). t ++ more) (sym (steps_text_more steps step h is))

-- what a loop over the steps keeps
pub record KeepsFront (version : Version) (text : List ℕ) (steps : List StepValue) (rest : List ℕ) (number : ℕ) : Type 0 where
  pub few : length steps ≤ 4096
  pub valid : AreSteps [] steps
  pub apart : AllKeepApart version steps
  pub cut : text ≡ flat_map (step_text steps) steps ++ rest
  pub counted : number ≡ line_count steps + 2
  pub no_in : (steps ≢ []) → ¬ Begins (codes "in ") rest

pub next_front : (version : Version) (text rest behind_it more : List ℕ) (steps : List StepValue) (step : StepValue) (next : List StepValue) (number at : ℕ)
    → length steps ≤ 4096 → length steps ≢ 4096 → AreSteps [] steps → AllKeepApart version steps → IsStep steps step → KeepApart version step.lines → text ≡ flat_map (step_text steps) steps ++ rest → number ≡ line_count steps + 2
    → rest ≡ line_text (step_words step.name step.frame) ++ behind_it → behind_it ≡ lines_text steps step.lines ++ more → ¬ Begins (codes "in ") more
    → next ≡ steps ++ step ∷ [] → at ≡ number + (1 + length step.lines) → KeepsFront version text next more at
next_front version text rest behind_it more steps step next number at few room h apart is last cut counted begins f none told numbered =
    let count = count_more steps step in
    let len = length-append steps (step ∷ []) in
    subst (λ (ss : List StepValue). KeepsFront version text ss more at) (sym told) (record {
      few = omega arith;
      valid = steps_more [] steps step h is;
      apart = apart_last version steps step apart last;
      cut = front_more text rest behind_it more steps step h is cut begins f;
      counted = omega arith;
      no_in = λ _. none;
    })

-- an error that is handed on
pub handed_on : {X : Type 0} (r : Result X ReadError) (e : ReadError) (P Q : PlanError → Type 0) → IsErrAnd r (λ other. other ≡ e) → ((x : PlanError) → P x → Q x) → FaultyUnlessMemory P e → IfErr r (FaultyUnlessMemory Q)
handed_on (Ok x) e P Q told wide h = tt
handed_on (Err other) e P Q told wide h = subst (FaultyUnlessMemory Q) (sym told) (by e h)
  where
    by : (other_e : ReadError) → FaultyUnlessMemory P other_e → FaultyUnlessMemory Q other_e
    by Memory p = tt
    by (Faulty x) p = wide x p

pub shorter : (name : List ℕ) (frame : DigestValue) (rest behind_it lines more : List ℕ) → rest ≡ line_text (step_words name frame) ++ behind_it → behind_it ≡ lines ++ more → length more < length rest
shorter name frame rest behind_it lines more e f =
    let a = ap (λ (t : List ℕ). length t) e in
    let b = ap (λ (t : List ℕ). length t) f in
    omega (arith, length-append (line_text (step_words name frame)) behind_it, length-append lines more, length-append (step_words name frame) (10 ∷ []))
