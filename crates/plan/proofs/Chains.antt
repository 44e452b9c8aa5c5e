-- A text is taken apart into lines in one way, so it has one first fault.
use Rattle.std.proofs.Common.{◌≡◌, ◌⊎◌, ℕ, zero, suc, ◌+◌, ◌<◌, ◌≤◌, List, [], ◌∷◌, ◌++◌, length, map, refl, ap, sym, ◌∙◌, subst, inl, inr, arith, codes, append_assoc, append-nil, length-append}
use Rattle.std.specs.List.{AllByRecursion, Contains, flat_map}
use Rattle.std.proofs.lemmas.Grind.{flat_map-append}
use Rattle.std.proofs.lemmas.List.{append_cancel_left}
use Rattle.blob_digest.specs.Digest.{DigestValue}
use Rattle.messages.specs.Path.{Overlap}
use Rattle.plan.specs.declared.error.PlanError.{PlanError}
use Rattle.plan.specs.declared.error.Fault.{Fault}
use Rattle.plan.specs.declared.version.Version.{Version}
use Rattle.plan.specs.declared.version.Version.TheVariants.{One, Two}
use Rattle.plan.specs.Faults.{Beginning, at_start, in_step, in_root, IsBeginning, beginning_text, next_number, BeginsWithLine, IsNextFault, IsFaultBehind, IsPlanFault, OverlapsAny}
use Rattle.plan.specs.Line.{line_text, Begins, step_words}
use Rattle.plan.specs.Lines.{WrittenLine, step_line, root_line, in_line, IsWrittenLine, written_words, written_origin}
use Rattle.plan.specs.Plan.{AreLines, NoTargetsOverlap, KeepApart, AllKeepApart, IsStep, AreSteps, IsPlan, plan_header, lines_text, step_text, plan_text}
use Rattle.plan.specs.Values.{LineValue, StepValue, PlanValue, IsLine}
use Rattle.plan.proofs.Beginnings.{step_with, plan_with, has_not_new}
use Rattle.plan.proofs.Directories.{targets_of, turned, named, written_valid}
use Rattle.plan.proofs.Lines.{heads}
use Rattle.plan.proofs.StepTexts.{own_text, own_all, shifted, steps_more}
use Rattle.plan.proofs.Written.{first_one, no_line_left}
use Rattle.plan.proofs.Follows.{InFollows, OpenAt, Follows, follows_one, no_next_fault, next_fault_one}

-- ---- lines one behind another

abbrev Chain : Version → Beginning → List WrittenLine → Beginning → Type 0
Chain version b [] end = b ≡ end
Chain version b (line ∷ lines) end = IsWrittenLine line × ((next : Beginning) × Follows version b line next × Chain version next lines end)

abbrev written_text : List WrittenLine → List ℕ
written_text lines = flat_map (λ line. line_text (written_words line)) lines

-- one more line may follow where a text goes on
abbrev GoesOn : Version → Beginning → List ℕ → Type 0
GoesOn version b rest = (line : WrittenLine) × (next : Beginning) × BeginsWithLine line rest × Follows version b line next

assoc_line : (line : WrittenLine) (lines : List WrittenLine) (rest : List ℕ) → written_text (line ∷ lines) ++ rest ≡ line_text (written_words line) ++ (written_text lines ++ rest)
assoc_line line lines rest = append_assoc (line_text (written_words line)) (written_text lines) rest

same_end : (version : Version) (b : Beginning) (fs gs : List WrittenLine) (x y : Beginning) (r s : List ℕ) → Chain version b fs x → Chain version b gs y → written_text fs ++ r ≡ written_text gs ++ s
    → ((x ≡ y) × (r ≡ s)) ⊎ (GoesOn version x r ⊎ GoesOn version y s)
same_end version b [] [] x y r s h k e = inl (sym h ∙ k, e)
same_end version b [] (g ∷ gs) x y r s h k e = inr (inl (g, k.1.0, (k.0, (written_text gs ++ s, e ∙ assoc_line g gs s)), subst (λ (z : Beginning). Follows version z g k.1.0) h k.1.1))
same_end version b (f ∷ fs) [] x y r s h k e = inr (inr (f, h.1.0, (h.0, (written_text fs ++ r, sym e ∙ assoc_line f fs r)), subst (λ (z : Beginning). Follows version z f h.1.0) k h.1.1))
same_end version b (f ∷ fs) (g ∷ gs) x y r s h k e =
    let first = first_one f g (written_text fs ++ r) (written_text gs ++ s) h.0 k.0 (sym (assoc_line f fs r) ∙ e ∙ assoc_line g gs s) in
    let next = follows_one version b g h.1.0 k.1.0 (subst (λ (l : WrittenLine). Follows version b l h.1.0) first.0 h.1.1) k.1.1 in
    same_end version k.1.0 fs gs x y r s (subst (λ (z : Beginning). Chain version z fs x) next h.1.2) k.1.2 first.1

join : (version : Version) (b : Beginning) (fs gs : List WrittenLine) (m end : Beginning) → Chain version b fs m → Chain version m gs end → Chain version b (fs ++ gs) end
join version b [] gs m end h k = subst (λ (z : Beginning). Chain version z gs end) (sym h) k
join version b (f ∷ fs) gs m end h k = (h.0, (h.1.0, h.1.1, join version h.1.0 fs gs m end h.1.2 k))

-- ---- a valid beginning is a chain

forms : List StepValue → List LineValue → List WrittenLine
forms earlier lines = map (λ (line : LineValue). in_line line.target (written_origin earlier line.origin)) lines

forms_text : (earlier : List StepValue) (lines : List LineValue) → written_text (forms earlier lines) ≡ lines_text earlier lines
unfolding forms
forms_text earlier [] = refl
forms_text earlier (line ∷ lines) = ap (λ (t : List ℕ). line_text (written_words (in_line line.target (written_origin earlier line.origin))) ++ t) (forms_text earlier lines)

all_at : (P : LineValue → Type 0) (done : List LineValue) (line : LineValue) (more : List LineValue) → AllByRecursion P (done ++ line ∷ more) → P line
all_at P [] line more h = h.0
all_at P (first ∷ done) line more h = all_at P done line more h.1

in_cons : (x y : List (List ℕ)) (xs : List (List (List ℕ))) → Contains (x ∷ xs) y → (x ≡ y) ⊎ Contains xs y
in_cons x y xs (zero, within, e) = inl e
in_cons x y xs (suc k, within, e) = inr (k, omega arith, e)

apart_parts : (done : List LineValue) (line : LineValue) (more : List LineValue) → NoTargetsOverlap (done ++ line ∷ more) → OverlapsAny line.target (targets_of done) → ⊥
apart_parts [] line more h (p, (k, within, e), overlap) = omega (arith, within)
apart_parts (first ∷ done) line more h w = elim (in_cons first.target w.0 (targets_of done) w.1) [
  | inl e ↦ all_at (λ other. ¬ Overlap first.target other.target) done line more h.0 (turned line.target first.target (subst (λ (p : List (List ℕ)). Overlap line.target p) (sym e) w.2))
  | inr has ↦ apart_parts done line more h.1 (w.0, has, w.2)
]

next_in : (version : Version) (earlier : List StepValue) (done : List LineValue) (line : LineValue) (more : List LineValue) → AreSteps [] earlier → AreLines (length earlier) (done ++ line ∷ more) → KeepApart version (done ++ line ∷ more)
    → InFollows version earlier done line.target (written_origin earlier line.origin) (done ++ line ∷ [])
next_in version earlier done line more h is apart =
    let few = is.few in
    let len = length-append done (line ∷ more) in
    record {
      steps = h;
      line = line;
      valid = all_at (IsLine (length earlier)) done line more is.each;
      at = refl;
      from = refl;
      room = omega arith;
      free = λ one. apart_parts done line more (apart one);
      more = refl;
    }

moved : (done : List LineValue) (line : LineValue) (more : List LineValue) → done ++ line ∷ more ≡ (done ++ line ∷ []) ++ more
moved done line more = sym (append_assoc done (line ∷ []) more)

written_line : (earlier : List StepValue) (line : LineValue) → AreSteps [] earlier → IsLine (length earlier) line → IsWrittenLine (in_line line.target (written_origin earlier line.origin))
written_line earlier line h is = (is.target, written_valid earlier line.origin (named [] earlier h) is.origin)

step_lines : (version : Version) (earlier : List StepValue) (name : List ℕ) (frame : DigestValue) (done more : List LineValue) → AreSteps [] earlier → AreLines (length earlier) (done ++ more) → KeepApart version (done ++ more)
    → Chain version (in_step earlier (step_with name frame done)) (forms earlier more) (in_step earlier (step_with name frame (done ++ more)))
unfolding forms next_in
step_lines version earlier name frame done [] h is apart = ap (λ (ls : List LineValue). in_step earlier (step_with name frame ls)) (sym (append-nil done))
step_lines version earlier name frame done (line ∷ more) h is apart =
    let next = next_in version earlier done line more h is apart in
    let rest = step_lines version earlier name frame (done ++ line ∷ []) more h (subst (AreLines (length earlier)) (moved done line more) is) (subst (KeepApart version) (moved done line more) apart) in
    let last = subst (λ (ls : List LineValue). Chain version (in_step earlier (step_with name frame (done ++ line ∷ []))) (forms earlier more) (in_step earlier (step_with name frame ls))) (sym (moved done line more)) rest in
    (written_line earlier line h next.valid, (in_step earlier (step_with name frame (done ++ line ∷ [])), (done ++ line ∷ [], next, refl), last))

root_lines : (version : Version) (steps : List StepValue) (done more : List LineValue) → AreSteps [] steps → AreLines (length steps) (done ++ more) → KeepApart version (done ++ more) → Chain version (in_root steps done) (forms steps more) (in_root steps (done ++ more))
unfolding forms next_in
root_lines version steps done [] h is apart = ap (λ (ls : List LineValue). in_root steps ls) (sym (append-nil done))
root_lines version steps done (line ∷ more) h is apart =
    let next = next_in version steps done line more h is apart in
    let rest = root_lines version steps (done ++ line ∷ []) more h (subst (AreLines (length steps)) (moved done line more) is) (subst (KeepApart version) (moved done line more) apart) in
    let last = subst (λ (ls : List LineValue). Chain version (in_root steps (done ++ line ∷ [])) (forms steps more) (in_root steps ls)) (sym (moved done line more)) rest in
    (written_line steps line h next.valid, (in_root steps (done ++ line ∷ []), (done ++ line ∷ [], next, refl), last))

step_forms : List StepValue → StepValue → List WrittenLine
step_forms earlier step = step_line step.name step.frame ∷ forms earlier step.lines

one_step : (version : Version) (b : Beginning) (earlier : List StepValue) (step : StepValue) → OpenAt b earlier → AreSteps [] earlier → IsStep earlier step → KeepApart version step.lines → length earlier < 4096 → Chain version b (step_forms earlier step) (in_step earlier step)
unfolding step_forms
one_step version b earlier step opened h is apart room =
    ((is.name, is.frame), (in_step earlier (step_with step.name step.frame []), (earlier, opened, has_not_new earlier step.name is.new, room, refl), step_lines version earlier step.name step.frame [] step.lines h is.lines apart))

step_forms_text : (earlier : List StepValue) (step : StepValue) → written_text (step_forms earlier step) ≡ step_text earlier step
unfolding step_forms
step_forms_text earlier step = ap (λ (t : List ℕ). line_text (step_words step.name step.frame) ++ t) (forms_text earlier step.lines)

written_joined : (fs gs : List WrittenLine) → written_text (fs ++ gs) ≡ written_text fs ++ written_text gs
written_joined fs gs = flat_map-append (λ (l : WrittenLine). line_text (written_words l)) fs gs

-- whole steps, from a beginning that they may stand behind
record StepChain (version : Version) (b : Beginning) (earlier steps : List StepValue) : Type 0 where
  lines : List WrittenLine
  end : Beginning
  chain : Chain version b lines end
  open_end : OpenAt end (earlier ++ steps)
  text : written_text lines ≡ own_text earlier steps

chain_steps : (version : Version) (b : Beginning) (earlier steps : List StepValue) → OpenAt b earlier → AreSteps [] earlier → AreSteps earlier steps → AllKeepApart version steps → length earlier + length steps ≤ 4096 → StepChain version b earlier steps
chain_steps version b earlier [] opened h is apart few = record { lines = []; end = b; chain = refl; open_end = subst (OpenAt b) (sym (append-nil earlier)) opened; text = refl }
chain_steps version b earlier (step ∷ steps) opened h is apart few =
    let first = one_step version b earlier step opened h is.0 apart.0 (omega arith) in
    let len = length-append earlier (step ∷ []) in
    let rest = chain_steps version (in_step earlier step) (earlier ++ step ∷ []) steps refl (steps_more [] earlier step h is.0) is.1 apart.1 (omega arith) in
    record {
      lines = step_forms earlier step ++ rest.lines;
      end = rest.end;
      chain = join version b (step_forms earlier step) rest.lines (in_step earlier step) rest.end first rest.chain;
      open_end = subst (OpenAt rest.end) (sym (shifted earlier step steps)) rest.open_end;
      text =
          written_joined (step_forms earlier step) rest.lines ∙ ap (λ (t : List ℕ). t ++ written_text rest.lines) (step_forms_text earlier step)
          ∙ ap (λ (t : List ℕ). step_text earlier step ++ t) rest.text;
    }

-- the lines of a beginning
record IsChained (version : Version) (b : Beginning) : Type 0 where
  lines : List WrittenLine
  chain : Chain version at_start lines b
  text : beginning_text version b ≡ plan_header version ++ written_text lines

chained : (version : Version) (b : Beginning) → IsBeginning version b → IsChained version b
chained version at_start is = record { lines = []; chain = refl; text = sym (append-nil (plan_header version)) }
chained version (in_step earlier step) is =
    let whole = chain_steps version at_start [] earlier refl tt is.1 is.3 (omega (arith, is.0)) in
    record {
      lines = whole.lines ++ step_forms earlier step;
      chain = join version at_start whole.lines (step_forms earlier step) whole.end (in_step earlier step) whole.chain (one_step version whole.end earlier step whole.open_end is.1 is.2 is.4 is.0);
      text =
          ap (λ (t : List ℕ). plan_header version ++ t)
          (ap (λ (t : List ℕ). t ++ step_text earlier step) (own_all earlier is.1 ∙ sym whole.text) ∙ ap (λ (t : List ℕ). written_text whole.lines ++ t) (sym (step_forms_text earlier step))
          ∙ sym (written_joined whole.lines (step_forms earlier step)));
    }
chained version (in_root steps lines) is =
    let few = is.few in
    let whole = chain_steps version at_start [] steps refl tt is.steps is.apart (omega arith) in
    let root : Chain version whole.end (root_line ∷ forms steps lines) (in_root steps lines) = (tt, (in_root steps [], (steps, whole.open_end, refl), root_lines version steps [] lines is.steps is.root_lines is.root_apart)) in
    record {
      lines = whole.lines ++ root_line ∷ forms steps lines;
      chain = join version at_start whole.lines (root_line ∷ forms steps lines) whole.end (in_root steps lines) whole.chain root;
      text =
          ap (λ (t : List ℕ). plan_header version ++ t)
          (ap (λ (t : List ℕ). t ++ (line_text (codes "root") ++ lines_text steps lines)) (own_all steps is.steps ∙ sym whole.text)
          ∙ ap (λ (t : List ℕ). written_text whole.lines ++ (line_text (codes "root") ++ t)) (sym (forms_text steps lines)) ∙ sym (written_joined whole.lines (root_line ∷ forms steps lines)));
    }

-- ---- the laws

cut_lines : (version : Version) (b : Beginning) (c : IsChained version b) (text rest : List ℕ) → text ≡ beginning_text version b ++ rest → text ≡ plan_header version ++ (written_text c.lines ++ rest)
cut_lines version b c text rest e = e ∙ ap (λ (t : List ℕ). t ++ rest) c.text ∙ append_assoc (plan_header version) (written_text c.lines) rest

-- two ways to cut a text meet, or one goes on behind the other
meet : (version : Version) (x y : Beginning) (text r s : List ℕ) → IsBeginning version x → IsBeginning version y → text ≡ beginning_text version x ++ r → text ≡ beginning_text version y ++ s → ((x ≡ y) × (r ≡ s)) ⊎ (GoesOn version x r ⊎ GoesOn version y s)
meet version x y text r s is was e f =
    let c = chained version x is in
    let d = chained version y was in
    same_end version at_start c.lines d.lines x y r s c.chain d.chain
    (append_cancel_left (plan_header version) (written_text c.lines ++ r) (written_text d.lines ++ s) (sym (cut_lines version x c text r e) ∙ cut_lines version y d text s f))

no_goes_on : (version : Version) (b : Beginning) (rest : List ℕ) (fault : Fault) → GoesOn version b rest → IsNextFault version b rest fault → ⊥
no_goes_on version b rest fault w h = no_next_fault version b w.0 w.1 rest fault w.2 w.3 h

abbrev error_with : ℕ → Fault → PlanError
error_with line fault = record { line = line; fault = fault }

header_begins : (version : Version) (b : Beginning) → Begins (plan_header version) (beginning_text version b)
header_begins version at_start = ([], sym (append-nil (plan_header version)))
header_begins version (in_step earlier step) = (_, refl)
header_begins version (in_root steps lines) = (_, refl)

begins_behind : (version : Version) (text rest : List ℕ) (b : Beginning) → text ≡ beginning_text version b ++ rest → Begins (plan_header version) text
begins_behind version text rest b e =
    let h = header_begins version b in
    (h.0 ++ rest, e ∙ ap (λ (t : List ℕ). t ++ rest) h.1 ∙ append_assoc (plan_header version) h.0 rest)

-- no text begins with two headers
header_apart : (text : List ℕ) → Begins (plan_header One) text → Begins (plan_header Two) text → ⊥
header_apart text f g = heads 49 50 _ _ (omega arith) (append_cancel_left (codes "buildplan ") (49 ∷ 10 ∷ f.0) (50 ∷ 10 ∷ g.0) (sym f.1 ∙ g.1))

pub header_one : (v w : Version) (text : List ℕ) → Begins (plan_header v) text → Begins (plan_header w) text → v ≡ w
header_one One One text f g = refl
header_one One Two text f g = absurd (header_apart text f g)
header_one Two One text f g = absurd (header_apart text g f)
header_one Two Two text f g = refl

-- a fault behind the header of this version
record IsFaultIn (version : Version) (text : List ℕ) (e : PlanError) : Type 0 where
  start : Beginning
  rest : List ℕ
  valid : IsBeginning version start
  cut : text ≡ beginning_text version start ++ rest
  number : e.line ≡ next_number start
  fault : IsNextFault version start rest e.fault

fault_in : (version : Version) (text : List ℕ) (e : PlanError) → IsFaultBehind text e → Begins (plan_header version) text → IsFaultIn version text e
fault_in version text e x begins =
    let own : IsFaultIn x.version text e = record { start = x.start; rest = x.rest; valid = x.valid; cut = x.cut; number = x.number; fault = x.fault } in
    subst (λ (v : Version). IsFaultIn v text e) (header_one x.version version text (begins_behind x.version text x.rest x.start x.cut) begins) own

in_one_version : (version : Version) (text : List ℕ) (e f : PlanError) → IsFaultIn version text e → IsFaultIn version text f → e ≡ f
in_one_version version text e f x y = elim (meet version x.start y.start text x.rest y.rest x.valid y.valid x.cut y.cut) [
  | inl same ↦
      let number : e.line ≡ f.line = x.number ∙ ap next_number same.0 ∙ sym y.number in
      let moved_fault = subst (λ (r : List ℕ). IsNextFault version y.start r e.fault) same.1 (subst (λ (b : Beginning). IsNextFault version b x.rest e.fault) same.0 x.fault) in
      let fault = next_fault_one version y.start y.rest e.fault f.fault moved_fault y.fault in
      ap (λ (n : ℕ). error_with n e.fault) number ∙ ap (λ (k : Fault). error_with f.line k) fault
  | inr other ↦ elim other [
    | inl on ↦ absurd (no_goes_on version x.start x.rest e.fault on x.fault)
    | inr on ↦ absurd (no_goes_on version y.start y.rest f.fault on y.fault)
  ]
]

behind_one : (text : List ℕ) (e f : PlanError) → IsFaultBehind text e → IsFaultBehind text f → e ≡ f
behind_one text e f x y =
    let begins = begins_behind y.version text y.rest y.start y.cut in
    in_one_version y.version text e f (fault_in y.version text e x begins) (fault_in y.version text f y begins)

pub fault_one : (text : List ℕ) (e f : PlanError) → IsPlanFault text e → IsPlanFault text f → e ≡ f
fault_one text e f (inl x) (inl y) = x.0 ∙ sym y.0
fault_one text e f (inl x) (inr y) = absurd (x.1 y.version (begins_behind y.version text y.rest y.start y.cut))
fault_one text e f (inr x) (inl y) = absurd (y.1 x.version (begins_behind x.version text x.rest x.start x.cut))
fault_one text e f (inr x) (inr y) = behind_one text e f x y

nothing_goes_on : (version : Version) (b : Beginning) → GoesOn version b [] → ⊥
nothing_goes_on version b w = no_line_left [] w.0 refl w.2

at_root : (plan : PlanValue) → Beginning
at_root plan = in_root plan.steps plan.root_lines

root_ends : (plan : PlanValue) (fault : Fault) → IsNextFault plan.version (at_root plan) [] fault → ⊥
unfolding at_root
root_ends plan fault (inl w) = w.1.0 tt refl
root_ends plan fault (inr w) = no_line_left [] w.0 refl w.1

plan_begins : (plan : PlanValue) → Begins (plan_header plan.version) (plan_text plan)
plan_begins plan = (_, refl)

no_fault_in : (plan : PlanValue) (e : PlanError) → IsPlan plan → IsFaultIn plan.version (plan_text plan) e → ⊥
unfolding at_root
no_fault_in plan e is x = elim (meet plan.version x.start (at_root plan) (plan_text plan) x.rest [] x.valid is x.cut (sym (append-nil (plan_text plan)))) [
  | inl same ↦ root_ends plan e.fault (subst (λ (r : List ℕ). IsNextFault plan.version (at_root plan) r e.fault) same.1 (subst (λ (b : Beginning). IsNextFault plan.version b x.rest e.fault) same.0 x.fault))
  | inr other ↦ elim other [
    | inl on ↦ no_goes_on plan.version x.start x.rest e.fault on x.fault
    | inr on ↦ nothing_goes_on plan.version (at_root plan) on
  ]
]

pub no_fault : (plan : PlanValue) (e : PlanError) → IsPlan plan → ¬ IsPlanFault (plan_text plan) e
no_fault plan e is (inl x) = x.1 plan.version (plan_begins plan)
no_fault plan e is (inr x) = no_fault_in plan e is (fault_in plan.version (plan_text plan) e x (plan_begins plan))

plan_of : Version → Beginning → PlanValue
plan_of version at_start = plan_with version [] []
plan_of version (in_step earlier step) = plan_with version [] []
plan_of version (in_root steps lines) = plan_with version steps lines

abbrev in_version : Version → PlanValue → PlanValue
in_version version plan = plan_with version plan.steps plan.root_lines

one_in : (p q : PlanValue) → p.version ≡ q.version → IsPlan p → IsPlan (in_version p.version q) → plan_text p ≡ plan_text (in_version p.version q) → p ≡ q
unfolding at_root plan_of
one_in p q version is was e = elim (meet p.version (at_root p) (at_root q) (plan_text p) [] [] is was (sym (append-nil (plan_text p))) (e ∙ sym (append-nil (plan_text (in_version p.version q))))) [
  | inl same ↦ ap (plan_of p.version) same.0 ∙ ap (λ (v : Version). in_version v q) version
  | inr other ↦ elim other [
    | inl on ↦ absurd (nothing_goes_on p.version (at_root p) on)
    | inr on ↦ absurd (nothing_goes_on p.version (at_root q) on)
  ]
]

pub plan_one : (p q : PlanValue) → IsPlan p → IsPlan q → plan_text p ≡ plan_text q → p ≡ q
plan_one p q is was e =
    let version : p.version ≡ q.version = header_one p.version q.version (plan_text p) (plan_begins p) (subst (Begins (plan_header q.version)) (sym e) (plan_begins q)) in
    one_in p q version is (subst (λ (v : Version). IsPlan (in_version v q)) (sym version) was) (subst (λ (v : Version). plan_text p ≡ plan_text (in_version v q)) (sym version) e)
