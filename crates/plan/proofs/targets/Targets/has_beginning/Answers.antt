use Rattle.std.proofs.Common.{◌↔◌, IsTrue, List, ℕ, subst, sym}
use Rattle.plan.proofs.TargetSets.{HasBeginning, beginning_answer, no_beginning}
use Rattle.plan.proofs.targets.Targets.has_beginning.Goals as goal

pub returns-in-Some : goal.returns-in-Some
returns-in-Some g c =
    subst (λ (ks : List (List (List ℕ))). IsTrue c.begins_with.result ↔ HasBeginning ks c.args.names.now) c.self.view_is
    (beginning_answer c.self.inside.names c.args.names.now c.in-Some.before.now c.range.result c.next_back.new.self c.begins_with.result c.self.invariant (c.range.ensures.in_range tt) c.in-Some.ensures.steps c.begins_with.ensures)

pub returns-in-None : goal.returns-in-None
returns-in-None g c =
    let none = no_beginning c.self.inside.names c.args.names.now c.range.result (c.range.ensures.in_range tt) c.in-None.ensures.steps.0 in
    (λ t. cc t, λ w. absurd (none (subst (λ (ks : List (List (List ℕ))). HasBeginning ks c.args.names.now) (sym c.self.view_is) w)))
