use Rattle.std.proofs.Common.{◌≡◌, ◌∙◌, ◌++◌, ap, append_assoc, sym, take}
use Rattle.actions.specs.Outcome.{output_value, outputs_in}
use Rattle.tree.specs.Folded.{items_of}
use Rattle.verifier.specs.Made.{output_directories, outputs_directories}
use Rattle.verifier.proofs.MadeOf.{next_output}
use Rattle.verifier.proofs.made.push_outputs.Goals as goal

pub loop-entry-preserved : goal.loop-entry-preserved
loop-entry-preserved g c =
    let all = outputs_directories (outputs_in (take c.loop-entry.entry-index c.args.outputs.now)) in
    c.in_ok-push_output.ensures {u = tt} ∙ ap (λ l. l ++ output_directories (output_value c.entry-item.result.1)) c.loop-entry.invariant
    ∙ append_assoc (items_of c.args.encodings.now.items) all (output_directories (output_value c.entry-item.result.1))
    ∙ ap (λ l. items_of c.args.encodings.now.items ++ l) (sym (next_output c.args.outputs.now c.loop-entry.entry-index c.entry-item.result c.loop-entry-test.true c.entry-item.is))
