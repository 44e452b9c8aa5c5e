use Rattle.std.proofs.Common.{◌≡◌, ◌∙◌, ap, sym, subst, Some}
use Rattle.runs.specs.Engine.{FinishedValue, EngineValue, IsEngine, at_number, finished_in}
use Rattle.runs.proofs.Kept.{kept_answer}
use Rattle.runs.proofs.engine.Engine.result.Goals as goal

pub returns-clause-kept : goal.returns-clause-kept
returns-clause-kept g c =
    let f : FinishedValue = record { action = c.finished.inside.action; outcome = c.finished.inside.outcome } in
    let is : at_number c.self.inside.finished.items c.args.step ≡ Some f = ap (λ fs. at_number fs c.args.step) (sym c.deref.ensures.value) ∙ sym (c.in-Some.ensures {u = tt}) ∙ ap Some (sym c.finished.view_is) in
    kept_answer c.result_of.result c.args.self.now c.args.step f (subst IsEngine c.self.view_is c.self.invariant) (subst (λ (e : EngineValue). finished_in c.args.step e ≡ Some f) c.self.view_is is) c.result_of.ensures.value c.result_of.ensures.valid
