use Rattle.std.proofs.Common.{subst}
use Rattle.std.specs.Prelude.{option_map}
use Rattle.tree.specs.Lookup.{looked}
use Rattle.actions.specs.OutcomeLookup.{LooksIn}
use Rattle.actions.proofs.outcome.Outcome.lookup.Goals as goal

pub returns-in-Some-clause-looked : goal.returns-in-Some-clause-looked
returns-in-Some-clause-looked g c = subst (λ o. LooksIn c.args.self.now c.args.path.now (looked (option_map (λ x. x.0) o))) c.in-Some.is (c.in_ok-node.ensures {u = tt}).looked
