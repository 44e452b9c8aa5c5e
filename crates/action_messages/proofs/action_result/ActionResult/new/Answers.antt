use Rattle.std.specs.Int.{w32}
use Rattle.std.proofs.lemmas.Int.{to_z-of_z}
use Rattle.action_messages.proofs.Results.{result_answer}
use Rattle.action_messages.proofs.action_result.ActionResult.new.Goals as goal

pub returns-clause-some : goal.returns-clause-some
returns-clause-some g c =
    let same = to_z-of_z w32 c.args.exit_code c.ranges.exit_code in
    result_answer (record {
      files = c.args.files.items;
      directories = c.args.directories.items;
      symlinks = c.args.symlinks.items;
      exit_code = c.args.exit_code;
      stdout = c.args.stdout;
      stderr = c.args.stderr;
    }) c.checked.result (rw same at c.checked.ensures.exact) c.checked.ensures.valid
