use Rattle.std.proofs.Common.{◌≡◌, ◌∙◌, ◌++◌, ap, append_assoc, sym, take}
use Rattle.tree.specs.Folded.{items_of}
use Rattle.verifier.specs.Made.{outcomes_directories, outputs_directories}
use Rattle.verifier.proofs.MadeOf.{next_outcome}
use Rattle.verifier.proofs.made.made_of.Goals as goal

pub loop-outcome-preserved : goal.loop-outcome-preserved
loop-outcome-preserved g c =
    let all = outcomes_directories (take c.loop-outcome.outcome-index c.args.outcomes.now) in
    let these = outputs_directories c.outcome-item.result.outputs in
    c.in_ok-push_outputs.ensures {u = tt} ∙ ap (λ es. items_of c.loop-outcome.directories.items ++ outputs_directories es) c.outputs.ensures.value ∙ ap (λ l. l ++ these) c.loop-outcome.invariant
    ∙ append_assoc (items_of c.args.root.directories.items) all these
    ∙ ap (λ l. items_of c.args.root.directories.items ++ l) (sym (next_outcome c.args.outcomes.now c.loop-outcome.outcome-index c.outcome-item.result c.loop-outcome-test.true c.outcome-item.is))
