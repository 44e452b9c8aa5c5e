use Rattle.std.proofs.Common.{rules, ◌++◌, [], ◌∷◌, take, ap, ◌∙◌, sym, append_assoc}
use Rattle.std.specs.Prelude.{map, string_bytes}
use Rattle.std.specs.Process.{command_args}
use Rattle.processes.proofs.Lists.{map_taken}
use Rattle.processes.proofs.launching.add_arguments.Goals as goal

pub loop-argument-preserved : goal.loop-argument-preserved
loop-argument-preserved g c =
    let before = command_args c.args.process.now in
    let some = map string_bytes (take c.loop-argument.argument-index c.args.arguments.now) in
    let taken = map_taken string_bytes c.args.arguments.now c.loop-argument.argument-index c.argument-item.result c.loop-argument-test.true c.argument-item.is in
    record {
      added = c.in_ok-add_argument.ensures.added ∙ ap (λ xs. xs ++ c.as_str.result.now ∷ []) c.loop-argument.invariant.added
          ∙ append_assoc before some (c.as_str.result.now ∷ []) ∙ ap (λ x. before ++ (some ++ x ∷ [])) c.as_str.ensures.value ∙ ap (λ xs. before ++ xs) (sym taken);
      program = search rules;
      env = search rules;
      dir = search rules;
    }
