-- The output is listed, so its Tree is looked at.
use Rattle.std.proofs.Common.{rules}
use Rattle.std.specs.List.{Contains}
use Rattle.action_messages.specs.Outputs.{recorded_path, recorded_value}
use Rattle.tree.proofs.Learning.{learns_more, learns_refused}
use Rattle.verifier.proofs.steps.read_output.Goals as goal

pub returns-in-Ok-clause-learned : goal.returns-in-Ok-clause-learned
returns-in-Ok-clause-learned g c =
    let listed : Contains c.args.command.now.output_paths (recorded_path (recorded_value c.args.output.now)) = search rules in
    learns_more (λ a h. (listed, h)) (λ n. n) (c.in-Ok.ensures {u = tt}).learned

pub returns-in-Err-clause-learned : goal.returns-in-Err-clause-learned
returns-in-Err-clause-learned g c =
    let listed : Contains c.args.command.now.output_paths (recorded_path (recorded_value c.args.output.now)) = search rules in
    learns_refused (λ a h. (listed, h)) tt (c.in-Err.ensures {u = tt}).learned
