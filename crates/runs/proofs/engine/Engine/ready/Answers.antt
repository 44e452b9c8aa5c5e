use Rattle.std.proofs.Common.{◌≡◌, ◌<◌, sym, subst, length}
use Rattle.runs.specs.Engine.{EngineValue}
use Rattle.std.specs.Prelude.{slice_get, Some}
use Rattle.verifier.specs.Together.{AreThere}
use Rattle.runs.specs.Looking.{outcomes_in}
use Rattle.std.specs.Prelude.{◌↔◌, IsTrue}
use Rattle.runs.proofs.Ready.{ready_lines, ready_answer}
use Rattle.plan.specs.Values.{StepValue}
use Rattle.runs.proofs.Places.{has_one}
use Rattle.runs.proofs.Noted.{tells_ready}
use Rattle.runs.proofs.engine.Engine.ready.Goals as goal

pub are_there-requires : goal.are_there-requires
are_there-requires g c =
    let lt = subst (λ (e : EngineValue). c.args.step < length e.plan.steps) (sym c.self.view_is) c.requires in
    ready_lines c.steps-steps.result.now c.self.inside.plan.now.steps c.args.step c.index-steps-step.result _ c.self.inside.finished.items c.deref.result.now c.deref-2.result.now c.steps-steps.ensures.value c.steps-steps.ensures.valid.steps lt c.index-steps-step.is c.step.view_is c.deref-2.ensures.value
    c.deref.ensures.value c.self.invariant.count

pub returns-clause-value : goal.returns-clause-value
returns-clause-value g c =
    let lt = subst (λ (e : EngineValue). c.args.step < length e.plan.steps) (sym c.self.view_is) c.requires in
    let each : (s : StepValue) → slice_get c.args.self.now.plan.steps c.args.step ≡ Some s → IsTrue c.are_there.result ↔ AreThere (outcomes_in c.args.self.now.finished) s.lines = λ s at.
    let here = subst (λ (e : EngineValue). slice_get e.plan.steps c.args.step ≡ Some s) (sym c.self.view_is) at in
    subst (λ (e : EngineValue). IsTrue c.are_there.result ↔ AreThere (outcomes_in e.finished) s.lines) c.self.view_is
    (ready_answer c.steps-steps.result.now c.self.inside.plan.now.steps c.args.step c.index-steps-step.result _ s c.self.inside.finished.items c.deref.result.now c.deref-2.result.now c.are_there.result c.steps-steps.ensures.value lt c.index-steps-step.is c.step.view_is c.deref-2.ensures.value
    c.deref.ensures.value c.are_there.ensures here) in
    let some = has_one c.args.self.now.plan.steps c.args.step c.requires in
    (λ h s at. (each s at).0 h, λ all. (each some.0 some.1).1 (all some.0 some.1))

pub returns-clause-state : goal.returns-clause-state
returns-clause-state g c = tells_ready c.args.self.now c.args.step c.are_there.result (returns-clause-value g c)
