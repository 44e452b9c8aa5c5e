use Rattle.std.proofs.Common.{◌≡◌, rules, sym, subst}
use Rattle.std.specs.Prelude.{Option, Some, option_map, IfSome}
use Rattle.actions.specs.OutcomeLookup.{LooksIn, LiesWithin}
use Rattle.messages.specs.declared.node.Node.{Node}
use Rattle.tree.specs.declared.merging.Within.{Within}
use Rattle.tree.specs.Lookup.{looked}
use Rattle.tree.specs.Merging.{node_within, within_value}
use Rattle.tree.proofs.Learning.{learns_refused}
use Rattle.verifier.proofs.Explained.{source_missing, output_stands, output_missing}
use Rattle.verifier.proofs.Looking.{origin_looked}
use Rattle.verifier.proofs.origins.find_origin.Goals as goal

pub returns-in-Err-clause-faulty : goal.returns-in-Err-clause-faulty
returns-in-Err-clause-faulty g c = source_missing _ c.args.sources.now (g.O.Outcomes.came_to c.args.outcomes.now) c.args.line.now _ c.in-Err.error (search rules) (c.in-Err.ensures {u = tt}).refused

pub returns-in-Some-2-clause-told : goal.returns-in-Some-2-clause-told
returns-in-Some-2-clause-told g c =
    let v = c.in-Some.outcome.now in
    let p = c.in-Output.path in
    let x = c.in-Some-2.found in
    let told = c.in_ok-found-in-Output.ensures {u = tt} in
    let there : g.O.Outcomes.came_to c.args.outcomes.now c.in-Output.step ≡ Some v = sym (c.in-Some.ensures {u = tt}) in
    output_stands _ c.args.sources.now (g.O.Outcomes.came_to c.args.outcomes.now) c.args.line.now c.in-Output.step p v (node_within x.0 x.1) (search rules) there
    (subst (λ (o : Option (Node g.row.A.Denot × Within g.row.A.Denot)). LooksIn v p (looked (option_map (λ (y : Node g.row.A.Denot × Within g.row.A.Denot). y.0) o))) c.in-Some-2.is told.looked)
    (subst (λ (o : Option (Node g.row.A.Denot × Within g.row.A.Denot)). IfSome o (λ (y : Node g.row.A.Denot × Within g.row.A.Denot). LiesWithin v p (within_value y.1))) c.in-Some-2.is told.within)

pub returns-in_ok-copy_of-in-None-clause-faulty : goal.returns-in_ok-copy_of-in-None-clause-faulty
returns-in_ok-copy_of-in-None-clause-faulty g c =
    let v = c.in-Some.outcome.now in
    let p = c.in-Output.path in
    let told = c.in_ok-found-in-Output.ensures {u = tt} in
    let there : g.O.Outcomes.came_to c.args.outcomes.now c.in-Output.step ≡ Some v = sym (c.in-Some.ensures {u = tt}) in
    output_missing _ c.args.sources.now (g.O.Outcomes.came_to c.args.outcomes.now) c.args.line.now c.in-Output.step p v c.in_ok-copy_of-in-None.field-0 (search rules) there
    (subst (λ (o : Option (Node g.row.A.Denot × Within g.row.A.Denot)). LooksIn v p (looked (option_map (λ (y : Node g.row.A.Denot × Within g.row.A.Denot). y.0) o))) c.in-None.is told.looked)
    (search rules)

pub returns-in-Ok-clause-learned : goal.returns-in-Ok-clause-learned
returns-in-Ok-clause-learned g c = origin_looked c.args.sources.now c.args.line.now.origin _ (search rules) (c.in-Ok.ensures {u = tt}).learned

pub returns-in-Err-clause-learned : goal.returns-in-Err-clause-learned
returns-in-Err-clause-learned g c = learns_refused (λ a h. h) tt (origin_looked c.args.sources.now c.args.line.now.origin _ (search rules) (c.in-Err.ensures {u = tt}).learned)
