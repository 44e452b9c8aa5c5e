-- What may follow a beginning of a plan, and that it is at no fault.
use Rattle.std.proofs.Common.{◌≡◌, ◌⊎◌, ℕ, zero, suc, ◌<◌, List, [], ◌∷◌, ◌++◌, length, refl, ap, sym, ◌∙◌, subst, inl, inr, arith}
use Rattle.plan.specs.declared.error.Fault.{Fault}
use Rattle.plan.specs.declared.error.Fault.TheVariants as faults
use Rattle.plan.specs.declared.version.Version.{Version}
use Rattle.plan.specs.declared.version.Version.TheVariants.{One}
use Rattle.plan.specs.Faults.{Beginning, at_start, in_step, in_root, BeginsWithLine, MayStand, HasStep, IsLater, IsStepFault, IsInFault, IsLineFault, IsNextFault, OverlapsAny}
use Rattle.plan.specs.Lines.{WrittenOrigin, WrittenLine, step_line, root_line, in_line, written_origin, step_name}
use Rattle.plan.specs.Plan.{AreSteps}
use Rattle.plan.specs.Values.{OriginValue, source, output, LineValue, StepValue, IsOrigin, IsLine}
use Rattle.plan.proofs.Beginnings.{step_with, has_not_new}
use Rattle.plan.proofs.Directories.{targets_of, not_later}
use Rattle.plan.proofs.Written.{first_one}

-- ---- a name is that of one step

has_left : (steps more : List StepValue) (name : List ℕ) → HasStep steps name → HasStep (steps ++ more) name
has_left (s ∷ steps) more name (inl e) = inl e
has_left (s ∷ steps) more name (inr has) = inr (has_left steps more name has)
has_left [] more name has = absurd has

has_last : (steps : List StepValue) (step : StepValue) → HasStep (steps ++ step ∷ []) step.name
has_last [] step = inl refl
has_last (s ∷ steps) step = inr (has_last steps step)

later_new : (earlier steps : List StepValue) (name : List ℕ) (number : ℕ) → AreSteps earlier steps → HasStep earlier name → number < length steps → step_name steps number ≡ name → ⊥
later_new earlier [] name number h has lt e = omega arith
later_new earlier (s ∷ steps) name zero h has lt e = has_not_new earlier s.name h.0.new (subst (HasStep earlier) (sym e) has)
later_new earlier (s ∷ steps) name (suc number) h has lt e = later_new (earlier ++ s ∷ []) steps name number h.1 (has_left earlier (s ∷ []) name has) (omega arith) e

number_one : (earlier steps : List StepValue) (i j : ℕ) → AreSteps earlier steps → i < length steps → j < length steps → step_name steps i ≡ step_name steps j → i ≡ j
number_one earlier [] i j h lt lu e = absurd (omega arith)
number_one earlier (s ∷ steps) zero zero h lt lu e = refl
number_one earlier (s ∷ steps) zero (suc j) h lt lu e = absurd (later_new (earlier ++ s ∷ []) steps s.name j h.1 (has_last earlier s) (omega arith) (sym e))
number_one earlier (s ∷ steps) (suc i) zero h lt lu e = absurd (later_new (earlier ++ s ∷ []) steps s.name i h.1 (has_last earlier s) (omega arith) e)
number_one earlier (s ∷ steps) (suc i) (suc j) h lt lu e = ap suc (number_one (earlier ++ s ∷ []) steps i j h.1 (omega arith) (omega arith) e)

origin_same : (steps : List StepValue) (a b : OriginValue) → AreSteps [] steps → IsOrigin (length steps) a → IsOrigin (length steps) b → written_origin steps a ≡ written_origin steps b → a ≡ b
origin_same steps (source p) (source q) h is was e = let same : p ≡ q = cc e in ap source same
origin_same steps (source p) (output j q) h is was e = cc e
origin_same steps (output i p) (source q) h is was e = cc e
origin_same steps (output i p) (output j q) h is was e =
    let names : step_name steps i ≡ step_name steps j = cc e in
    let path : p ≡ q = cc e in
    let number = number_one [] steps i j h is.0 was.0 names in
    ap (λ (n : ℕ). output n p) number ∙ ap (λ (t : List (List ℕ)). output j t) path

abbrev line_with : List (List ℕ) → OriginValue → LineValue
line_with target origin = record { target = target; origin = origin }

-- ---- one more line behind a beginning

-- the lines of a directory, with one that may stand behind them
pub record InFollows (version : Version) (earlier : List StepValue) (lines : List LineValue) (target : List (List ℕ)) (origin : WrittenOrigin) (next : List LineValue) : Type 0 where
  pub steps : AreSteps [] earlier
  pub line : LineValue
  pub valid : IsLine (length earlier) line
  pub at : target ≡ line.target
  pub from : origin ≡ written_origin earlier line.origin
  pub room : length lines < 65536
  pub free : version ≡ One → ¬ OverlapsAny target (targets_of lines)
  pub more : next ≡ lines ++ line ∷ []

in_one : (version : Version) (earlier : List StepValue) (lines : List LineValue) (target : List (List ℕ)) (origin : WrittenOrigin) (a b : List LineValue) → InFollows version earlier lines target origin a → InFollows version earlier lines target origin b → a ≡ b
in_one version earlier lines target origin a b f g =
    let targets = sym f.at ∙ g.at in
    let origins = origin_same earlier f.line.origin g.line.origin f.steps f.valid.origin g.valid.origin (sym f.from ∙ g.from) in
    let same : f.line ≡ g.line = ap (λ (t : List (List ℕ)). line_with t f.line.origin) targets ∙ ap (λ (o : OriginValue). line_with g.line.target o) origins in
    f.more ∙ ap (λ (l : LineValue). lines ++ l ∷ []) same ∙ sym g.more

-- these steps stand in front of what comes next
abbrev pub OpenAt : Beginning → List StepValue → Type 0
OpenAt at_start steps = steps ≡ []
OpenAt (in_step earlier step) steps = steps ≡ earlier ++ step ∷ []
OpenAt (in_root earlier lines) steps = ⊥

open_one : (b : Beginning) (x y : List StepValue) → OpenAt b x → OpenAt b y → x ≡ y
open_one at_start x y h k = h ∙ sym k
open_one (in_step earlier step) x y h k = h ∙ sym k
open_one (in_root earlier lines) x y h k = absurd h

abbrev pub Follows : Version → Beginning → WrittenLine → Beginning → Type 0
Follows version b (step_line name frame) next = (steps : List StepValue) × OpenAt b steps × (¬ HasStep steps name) × (length steps < 4096) × (next ≡ in_step steps (step_with name frame []))
Follows version b root_line next = (steps : List StepValue) × OpenAt b steps × (next ≡ in_root steps [])
Follows version at_start (in_line target origin) next = ⊥
Follows version (in_step earlier step) (in_line target origin) next = (lines : List LineValue) × InFollows version earlier step.lines target origin lines × (next ≡ in_step earlier (step_with step.name step.frame lines))
Follows version (in_root steps lines) (in_line target origin) next = (more : List LineValue) × InFollows version steps lines target origin more × (next ≡ in_root steps more)

pub follows_one : (version : Version) (b : Beginning) (line : WrittenLine) (x y : Beginning) → Follows version b line x → Follows version b line y → x ≡ y
follows_one version b (step_line name frame) x y f g =
    let same = open_one b f.0 g.0 f.1 g.1 in
    f.4 ∙ ap (λ (steps : List StepValue). in_step steps (step_with name frame [])) same ∙ sym g.4
follows_one version b root_line x y f g =
    let same = open_one b f.0 g.0 f.1 g.1 in
    f.2 ∙ ap (λ (steps : List StepValue). in_root steps []) same ∙ sym g.2
follows_one version at_start (in_line target origin) x y f g = absurd f
follows_one version (in_step earlier step) (in_line target origin) x y f g =
    let same = in_one version earlier step.lines target origin f.0 g.0 f.1 g.1 in
    f.2 ∙ ap (λ (lines : List LineValue). in_step earlier (step_with step.name step.frame lines)) same ∙ sym g.2
follows_one version (in_root steps lines) (in_line target origin) x y f g =
    let same = in_one version steps lines target origin f.0 g.0 f.1 g.1 in
    f.2 ∙ ap (λ (more : List LineValue). in_root steps more) same ∙ sym g.2

-- ---- a line that may follow is at no fault

in_no_fault : (version : Version) (earlier : List StepValue) (lines : List LineValue) (target : List (List ℕ)) (origin : WrittenOrigin) (next : List LineValue) (fault : Fault)
    → InFollows version earlier lines target origin next → IsInFault version earlier lines target origin fault → ⊥
in_no_fault version earlier lines target origin next faults.LaterStep f h = not_later earlier f.line.origin f.valid.origin (subst (IsLater earlier) f.from h)
in_no_fault version earlier lines target origin next faults.TooMany f h = let room = f.room in omega (arith, h.1)
in_no_fault version earlier lines target origin next faults.Overlap f h = f.free h.0 h.3
in_no_fault version earlier lines target origin next faults.BadHeader f h = h
in_no_fault version earlier lines target origin next faults.BadLine f h = h
in_no_fault version earlier lines target origin next faults.SameStep f h = h
in_no_fault version earlier lines target origin next faults.RecordDiffers f h = h

step_no_fault : (steps : List StepValue) (name : List ℕ) (fault : Fault) → ¬ HasStep steps name → length steps < 4096 → IsStepFault steps name fault → ⊥
step_no_fault steps name faults.SameStep new room h = new h
step_no_fault steps name faults.TooMany new room h = omega (arith, h.1)
step_no_fault steps name faults.BadHeader new room h = h
step_no_fault steps name faults.BadLine new room h = h
step_no_fault steps name faults.LaterStep new room h = h
step_no_fault steps name faults.Overlap new room h = h
step_no_fault steps name faults.RecordDiffers new room h = h

follows_no_fault : (version : Version) (b : Beginning) (line : WrittenLine) (next : Beginning) (fault : Fault) → Follows version b line next → IsLineFault version b line fault → ⊥
follows_no_fault version at_start line next fault f h = h
follows_no_fault version (in_step earlier step) (step_line name frame) next fault f h =
    step_no_fault f.0 name fault f.2 f.3 (subst (λ (steps : List StepValue). IsStepFault steps name fault) (sym f.1) h)
follows_no_fault version (in_step earlier step) root_line next fault f h = h
follows_no_fault version (in_step earlier step) (in_line target origin) next fault f h = in_no_fault version earlier step.lines target origin f.0 fault f.1 h
follows_no_fault version (in_root steps lines) (step_line name frame) next fault f h = h
follows_no_fault version (in_root steps lines) root_line next fault f h = h
follows_no_fault version (in_root steps lines) (in_line target origin) next fault f h = in_no_fault version steps lines target origin f.0 fault f.1 h

may_stand : (version : Version) (b : Beginning) (line : WrittenLine) (next : Beginning) → Follows version b line next → MayStand b line
may_stand version at_start (step_line name frame) next f = tt
may_stand version at_start root_line next f = tt
may_stand version at_start (in_line target origin) next f = f
may_stand version (in_step earlier step) line next f = tt
may_stand version (in_root steps lines) (step_line name frame) next f = f.1
may_stand version (in_root steps lines) root_line next f = f.1
may_stand version (in_root steps lines) (in_line target origin) next f = tt

-- lines that a text begins with
same_line : (a b : WrittenLine) (text : List ℕ) → BeginsWithLine a text → BeginsWithLine b text → a ≡ b
same_line a b text f g = (first_one a b f.1.0 g.1.0 f.0 g.0 (sym f.1.1 ∙ g.1.1)).0

pub no_next_fault : (version : Version) (b : Beginning) (line : WrittenLine) (next : Beginning) (rest : List ℕ) (fault : Fault) → BeginsWithLine line rest → Follows version b line next → IsNextFault version b rest fault → ⊥
no_next_fault version b line next rest fault first f (inl w) = w.1.1 line (may_stand version b line next f) first
no_next_fault version b line next rest fault first f (inr w) =
    follows_no_fault version b line next fault f (subst (λ (l : WrittenLine). IsLineFault version b l fault) (same_line w.0 line rest w.1 first) w.2)

-- ---- one fault behind one beginning

step_fault_is : (steps : List StepValue) (name : List ℕ) (fault : Fault) → IsStepFault steps name fault → ((fault ≡ faults.SameStep) × HasStep steps name) ⊎ ((fault ≡ faults.TooMany) × ¬ HasStep steps name)
step_fault_is steps name faults.SameStep h = inl (refl, h)
step_fault_is steps name faults.TooMany h = inr (refl, h.0)
step_fault_is steps name faults.BadHeader h = absurd h
step_fault_is steps name faults.BadLine h = absurd h
step_fault_is steps name faults.LaterStep h = absurd h
step_fault_is steps name faults.Overlap h = absurd h
step_fault_is steps name faults.RecordDiffers h = absurd h

step_fault_one : (steps : List StepValue) (name : List ℕ) (x y : Fault) → IsStepFault steps name x → IsStepFault steps name y → x ≡ y
step_fault_one steps name x y f g = by (step_fault_is steps name x f) (step_fault_is steps name y g)
  where
    by : ((x ≡ faults.SameStep) × HasStep steps name) ⊎ ((x ≡ faults.TooMany) × ¬ HasStep steps name) → ((y ≡ faults.SameStep) × HasStep steps name) ⊎ ((y ≡ faults.TooMany) × ¬ HasStep steps name) → x ≡ y
    by (inl a) (inl b) = a.0 ∙ sym b.0
    by (inl a) (inr b) = absurd (b.1 a.1)
    by (inr a) (inl b) = absurd (a.1 b.1)
    by (inr a) (inr b) = a.0 ∙ sym b.0

-- the number of a line's fault, in their order
in_fault_is : (version : Version) (earlier : List StepValue) (lines : List LineValue) (target : List (List ℕ)) (origin : WrittenOrigin) (fault : Fault) → IsInFault version earlier lines target origin fault
    → ((fault ≡ faults.LaterStep) × IsLater earlier origin) ⊎ (((fault ≡ faults.TooMany) × (¬ IsLater earlier origin) × (length lines ≡ 65536)) ⊎ ((fault ≡ faults.Overlap) × (¬ IsLater earlier origin) × (length lines < 65536)))
in_fault_is version earlier lines target origin faults.LaterStep h = inl (refl, h)
in_fault_is version earlier lines target origin faults.TooMany h = inr (inl (refl, h.0, h.1))
in_fault_is version earlier lines target origin faults.Overlap h = inr (inr (refl, h.1, h.2))
in_fault_is version earlier lines target origin faults.BadHeader h = absurd h
in_fault_is version earlier lines target origin faults.BadLine h = absurd h
in_fault_is version earlier lines target origin faults.SameStep h = absurd h
in_fault_is version earlier lines target origin faults.RecordDiffers h = absurd h

apart_numbers : (n : ℕ) → n ≡ 65536 → n < 65536 → ⊥
apart_numbers n e h = omega arith

in_fault_one : (version : Version) (earlier : List StepValue) (lines : List LineValue) (target : List (List ℕ)) (origin : WrittenOrigin) (x y : Fault) → IsInFault version earlier lines target origin x → IsInFault version earlier lines target origin y → x ≡ y
in_fault_one version earlier lines target origin x y f g = by (in_fault_is version earlier lines target origin x f) (in_fault_is version earlier lines target origin y g)
  where
    by : ((x ≡ faults.LaterStep) × IsLater earlier origin) ⊎ (((x ≡ faults.TooMany) × (¬ IsLater earlier origin) × (length lines ≡ 65536)) ⊎ ((x ≡ faults.Overlap) × (¬ IsLater earlier origin) × (length lines < 65536)))
        → ((y ≡ faults.LaterStep) × IsLater earlier origin) ⊎ (((y ≡ faults.TooMany) × (¬ IsLater earlier origin) × (length lines ≡ 65536)) ⊎ ((y ≡ faults.Overlap) × (¬ IsLater earlier origin) × (length lines < 65536))) → x ≡ y
    by (inl a) (inl b) = a.0 ∙ sym b.0
    by (inl a) (inr (inl b)) = absurd (b.1 a.1)
    by (inl a) (inr (inr b)) = absurd (b.1 a.1)
    by (inr (inl a)) (inl b) = absurd (a.1 b.1)
    by (inr (inl a)) (inr (inl b)) = a.0 ∙ sym b.0
    by (inr (inl a)) (inr (inr b)) = absurd (apart_numbers (length lines) a.2 b.2)
    by (inr (inr a)) (inl b) = absurd (a.1 b.1)
    by (inr (inr a)) (inr (inl b)) = absurd (apart_numbers (length lines) b.2 a.2)
    by (inr (inr a)) (inr (inr b)) = a.0 ∙ sym b.0

line_fault_one : (version : Version) (b : Beginning) (line : WrittenLine) (x y : Fault) → IsLineFault version b line x → IsLineFault version b line y → x ≡ y
line_fault_one version at_start line x y f g = absurd f
line_fault_one version (in_step earlier step) (step_line name frame) x y f g = step_fault_one (earlier ++ step ∷ []) name x y f g
line_fault_one version (in_step earlier step) root_line x y f g = absurd f
line_fault_one version (in_step earlier step) (in_line target origin) x y f g = in_fault_one version earlier step.lines target origin x y f g
line_fault_one version (in_root steps lines) (step_line name frame) x y f g = absurd f
line_fault_one version (in_root steps lines) root_line x y f g = absurd f
line_fault_one version (in_root steps lines) (in_line target origin) x y f g = in_fault_one version steps lines target origin x y f g

fault_stands : (version : Version) (b : Beginning) (line : WrittenLine) (x : Fault) → IsLineFault version b line x → MayStand b line
fault_stands version at_start line x f = absurd f
fault_stands version (in_step earlier step) line x f = tt
fault_stands version (in_root steps lines) (step_line name frame) x f = f
fault_stands version (in_root steps lines) root_line x f = f
fault_stands version (in_root steps lines) (in_line target origin) x f = tt

pub next_fault_one : (version : Version) (b : Beginning) (rest : List ℕ) (x y : Fault) → IsNextFault version b rest x → IsNextFault version b rest y → x ≡ y
next_fault_one version b rest x y (inl f) (inl g) = f.0 ∙ sym g.0
next_fault_one version b rest x y (inl f) (inr g) = absurd (f.1.1 g.0 (fault_stands version b g.0 y g.2) g.1)
next_fault_one version b rest x y (inr f) (inl g) = absurd (g.1.1 f.0 (fault_stands version b f.0 x f.2) f.1)
next_fault_one version b rest x y (inr f) (inr g) =
    line_fault_one version b g.0 x y (subst (λ (l : WrittenLine). IsLineFault version b l x) (same_line f.0 g.0 rest f.1 g.1) f.2) g.2
