-- What reading answers follows from the faults that it tells.
use Rattle.std.proofs.Common.{◌≡◌, ◌<◌, ◌^◌, List, [], ℕ, ◌++◌, length, ap, append-nil, codes, sym, ◌∙◌, subst, inr, arith, Result, Ok, Err, IfOk, IfErr}
use Rattle.std.specs.Result.{IsErr}
use Rattle.plan.specs.declared.error.PlanError.{PlanError}
use Rattle.plan.specs.declared.error.ReadError.{ReadError}
use Rattle.plan.specs.declared.error.ReadError.TheVariants.{Faulty, Memory}
use Rattle.plan.specs.declared.version.Version.{Version}
use Rattle.plan.specs.Faults.{HasNoHeader, IsFaultBehind, IsPlanFault}
use Rattle.plan.specs.Parts.{IsFront}
use Rattle.plan.specs.Line.{line_text}
use Rattle.plan.specs.Plan.{AreLines, KeepApart, IsPlan, plan_header, lines_text, plan_text}
use Rattle.plan.specs.Reading.{FaultyUnlessMemory, ReadsUnlessMemory}
use Rattle.plan.specs.Values.{LineValue, StepValue, PlanValue}
use Rattle.plan.proofs.Beginnings.{root_cut, plan_with}
use Rattle.plan.proofs.Chains.{plan_one, no_fault}
use Rattle.plan.proofs.StepTexts.{count_few}

pub only_of : (text : List ℕ) (r : Result PlanValue ReadError) (plan : PlanValue) → IsPlan plan → text ≡ plan_text plan → IfOk r (λ p. IsPlan p × (text ≡ plan_text p)) → IfErr r (FaultyUnlessMemory (IsPlanFault text))
    → ReadsUnlessMemory r plan
only_of text (Ok p) plan is e found fault = plan_one p plan found.0 is (sym found.1 ∙ e)
only_of text (Err Memory) plan is e found fault = tt
only_of text (Err (Faulty x)) plan is e found fault = no_fault plan x is (subst (λ (t : List ℕ). IsPlanFault t x) e fault)

pub lifted : (version : Version) (text rest : List ℕ) (x : PlanError) → text ≡ plan_header version ++ rest → IsFaultBehind (plan_header version ++ rest) x → IsPlanFault text x
lifted version text rest x e h = inr (subst (λ (t : List ℕ). IsFaultBehind t x) (sym e) h)

pub lifted_error : (version : Version) (text rest : List ℕ) (x : ReadError) → text ≡ plan_header version ++ rest → FaultyUnlessMemory (IsFaultBehind (plan_header version ++ rest)) x → FaultyUnlessMemory (IsPlanFault text) x
lifted_error version text rest Memory e h = tt
lifted_error version text rest (Faulty x) e h = lifted version text rest x e h

pub only_error : (text : List ℕ) (x : ReadError) (plan : PlanValue) → IsPlan plan → text ≡ plan_text plan → FaultyUnlessMemory (IsPlanFault text) x → ReadsUnlessMemory {X = PlanValue} (Err x) plan
only_error text x plan is e fault = only_of text (Err x) plan is e tt fault

pub only_handed : (text : List ℕ) (r : Result PlanValue ReadError) (plan : PlanValue) → IsErr r → IsPlan plan → text ≡ plan_text plan → IfErr r (FaultyUnlessMemory (IsPlanFault text)) → ReadsUnlessMemory r plan
only_handed text (Ok p) plan err is e fault = absurd (cc err)
only_handed text (Err x) plan err is e fault = only_of text (Err x) plan is e tt fault

pub no_header : (text : List ℕ) (plan : PlanValue) → text ≡ plan_text plan → ¬ HasNoHeader text
no_header text plan e none = none plan.version (_, e)

-- the numbers of lines are small
pub small_number : (version : Version) (text rest : List ℕ) (steps : List StepValue) (number : ℕ) → IsFront version text steps rest number → number < 2 ^ 30
small_number version text rest steps number front =
    let few = front.few in
    let counted = front.counted in
    let many = count_few [] steps front.valid in
    omega arith

-- all of a text is read
pub whole_plan : (version : Version) (text rest root behind end : List ℕ) (steps : List StepValue) (lines : List LineValue) (number : ℕ) → text ≡ plan_header version ++ rest → IsFront version rest steps root number → root ≡ line_text (codes "root") ++ behind
    → AreLines (length steps) lines → KeepApart version lines → behind ≡ lines_text steps lines ++ end → end ≡ [] → IsPlan (plan_with version steps lines) × (text ≡ plan_text (plan_with version steps lines))
whole_plan version text rest root behind end steps lines number e front f valid apart g none = (
  record { few = front.few; steps = front.valid; root_lines = valid; apart = front.apart; root_apart = apart },
  e ∙ root_cut version rest root behind end steps lines front.cut f g ∙ ap (λ (t : List ℕ). plan_text (plan_with version steps lines) ++ t) none ∙ append-nil (plan_text (plan_with version steps lines)),
)
