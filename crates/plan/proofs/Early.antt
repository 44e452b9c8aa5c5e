-- A fault in line 1 or 2 is told, whatever memory is left: reading takes none before line 3.
use Rattle.std.proofs.Common.{◌≡◌, ℕ, ◌≤◌, List, [], ◌∷◌, ◌++◌, ap, sym, ◌∙◌, subst, inl, inr, arith, codes, append_assoc, Result, Ok, Err}
use Rattle.std.specs.Result.{OnErr}
use Rattle.std.specs.List.{flat_map}
use Rattle.std.proofs.lemmas.List.{append_cancel_left}
use Rattle.blob_digest.specs.Digest.{DigestValue, IsDigest}
use Rattle.plan.specs.declared.error.PlanError.{PlanError}
use Rattle.plan.specs.declared.error.ReadError.{ReadError}
use Rattle.plan.specs.declared.error.ReadError.TheVariants.{Faulty}
use Rattle.plan.specs.declared.version.Version.{Version}
use Rattle.plan.specs.Faults.{Beginning, at_start, in_step, in_root, beginning_text, next_number, BeginsWithLine, IsNextFault, IsPlanFault}
use Rattle.plan.specs.Line.{line_text, IsStepName, step_words}
use Rattle.plan.specs.Lines.{step_line, root_line}
use Rattle.plan.specs.Parts.{HasLineTwo, IsFront}
use Rattle.plan.specs.Plan.{AreSteps, plan_header, lines_text, step_text}
use Rattle.plan.specs.Reading.{FaultyUnlessMemory}
use Rattle.plan.specs.Values.{StepValue}
use Rattle.plan.proofs.Chains.{header_one, fault_one}

-- the line after whole steps is line 2, or line 2 is that of the first step
pub line_two : (text rest : List ℕ) (all steps : List StepValue) → AreSteps [] steps → text ≡ flat_map (step_text all) steps ++ rest → HasLineTwo rest → HasLineTwo text
line_two text rest all [] h cut two = subst HasLineTwo (sym cut) two
line_two text rest all (s ∷ steps) h cut two =
    let behind = flat_map (step_text all) steps ++ rest in
    let split = cut ∙ append_assoc (step_text all s) (flat_map (step_text all) steps) rest ∙ append_assoc (line_text (step_words s.name s.frame)) (lines_text all s.lines) behind in
    (step_line s.name s.frame, tt, ((h.0.name, h.0.frame), (lines_text all s.lines ++ behind, split)))

-- a step's line stands behind the steps
pub step_at : (text rest behind : List ℕ) (steps : List StepValue) (name : List ℕ) (frame : DigestValue) → AreSteps [] steps → text ≡ flat_map (step_text steps) steps ++ rest
    → IsStepName name × IsDigest frame × (rest ≡ line_text (step_words name frame) ++ behind) → HasLineTwo text
step_at text rest behind steps name frame valid cut first = line_two text rest steps steps valid cut (step_line name frame, tt, ((first.0, first.1), (behind, first.2)))

-- so does the root
pub root_at : (version : Version) (text rest behind : List ℕ) (steps : List StepValue) (number : ℕ) → IsFront version text steps rest number → rest ≡ line_text (codes "root") ++ behind → HasLineTwo text
root_at version text rest behind steps number front root = line_two text rest steps steps front.valid front.cut (root_line, tt, (tt, (behind, root)))

-- such a text has no fault in line 1 or 2
pub not_early : (version : Version) (text rest : List ℕ) (e : PlanError) → text ≡ plan_header version ++ rest → HasLineTwo rest → IsPlanFault text e → e.line ≤ 2 → ⊥
not_early version text rest e cut two (inl x) few = x.1 version (rest, cut)
not_early version text rest e cut two (inr x) few = by x.start x.number x.cut x.fault
  where
    same_rest : text ≡ plan_header x.version ++ x.rest → rest ≡ x.rest
    same_rest at =
        let same : version ≡ x.version = header_one version x.version text (rest, cut) (x.rest, at) in
        append_cancel_left (plan_header x.version) rest x.rest (ap (λ (v : Version). plan_header v ++ rest) (sym same) ∙ sym cut ∙ at)

    by : (start : Beginning) → e.line ≡ next_number start → text ≡ beginning_text x.version start ++ x.rest → IsNextFault x.version start x.rest e.fault → ⊥
    by at_start number at (inl h) = h.1.1 two.0 two.1 (subst (BeginsWithLine two.0) (same_rest at) two.2)
    by at_start number at (inr h) = h.2
    by (in_step earlier step) number at h = omega (arith, number, few)
    by (in_root steps lines) number at h = omega (arith, number, few)

-- a fault that is told is the first one
pub told : (text : List ℕ) (x : ReadError) (y e : PlanError) → x ≡ Faulty y → FaultyUnlessMemory (IsPlanFault text) x → IsPlanFault text e → x ≡ Faulty e
told text x y e is h f = is ∙ ap Faulty (fault_one text y e (subst (FaultyUnlessMemory (IsPlanFault text)) is h) f)

pub on_err : {X E P : Type 0} (r : Result X E) → P → OnErr r P
on_err (Ok x) h = tt
on_err (Err e) h = h
