use Rattle.std.proofs.Common.{◌≡◌, Some, ap, sym, ◌∙◌}
use Rattle.std.specs.Prelude.{option_map}
use Rattle.runs.specs.Engine.{FinishedValue, EngineValue, at_number}
use Rattle.runs.specs.Looking.{outcomes_in}
use Rattle.runs.proofs.Places.{outcome_is}
use Rattle.runs.proofs.looking.EngineOutcomes.outcome.Goals as goal

pub returns-in-Some : goal.returns-in-Some
returns-in-Some g c =
    let is : at_number c.self.inside.finished.items c.args.step ≡ Some (record { action = c.finished.inside.action; outcome = c.finished.inside.outcome }) = ap (λ fs. at_number fs c.args.step) (sym c.deref.ensures.value) ∙ sym (c.in-Some.ensures {u = tt}) ∙ ap Some (sym c.finished.view_is) in
    sym (outcome_is c.self.inside.finished.items c.args.step _ is) ∙ ap (λ (e : EngineValue). outcomes_in e.finished c.args.step) c.self.view_is

pub returns-in-None : goal.returns-in-None
returns-in-None g c =
    ap (option_map (λ (f : FinishedValue). f.outcome)) ((c.in-None.ensures {u = tt}) ∙ ap (λ fs. at_number fs c.args.step) c.deref.ensures.value) ∙ ap (λ (e : EngineValue). outcomes_in e.finished c.args.step) c.self.view_is
