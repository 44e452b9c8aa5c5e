use Rattle.std.proofs.Common.{refl, subst}
use Rattle.std.specs.Int.{w32}
use Rattle.std.proofs.lemmas.Int.{to_z-of_z}
use Rattle.messages.specs.Path.{AreApart}
use Rattle.action_messages.specs.ActionResult.{ActionResultValue, IsActionResult}
use Rattle.action_messages.specs.Unordered.{IsOrderingOf, AreOutputsValid, output_paths}
use Rattle.action_messages.proofs.Decoding.{IsSortedResult, ordered_made, overlapping}
use Rattle.action_messages.proofs.action_result.ordered.Goals as goal

pub returns-in-Ok-clause-found : goal.returns-in-Ok-clause-found
returns-in-Ok-clause-found g c =
    let u : ActionResultValue = record {
      files = c.read.inside.files.items;
      directories = c.read.inside.directories.items;
      symlinks = c.read.inside.symlinks.items;
      exit_code = c.read.inside.exit_code;
      stdout = c.read.inside.stdout;
      stderr = c.read.inside.stderr;
    } in
    let code = to_z-of_z w32 c.read.inside.exit_code (record { sfits = c.read.ranges.1.1.1.0.1 }) in
    let s : ActionResultValue = record {
      files = c.sort_by_path.new.items.items;
      directories = c.sort_by_path-2.new.items.items;
      symlinks = c.sort_by_path-3.new.items.items;
      exit_code = c.read.inside.exit_code;
      stdout = c.read.inside.stdout;
      stderr = c.read.inside.stderr;
    } in
    let o : IsOrderingOf u s = record {
      files = c.sort_by_path.ensures.same;
      directories = c.sort_by_path-2.ensures.same;
      symlinks = c.sort_by_path-3.ensures.same;
      exit_code = refl;
      stdout = refl;
      stderr = refl;
    } in
    subst (λ (x : ActionResultValue). IsActionResult c.in-Ok.result × IsOrderingOf x c.in-Ok.result) c.read.view_is (ordered_made u s c.in-Ok.result o (rw code at c.in-Ok.ensures.exact) c.in-Ok.ensures.valid)

pub returns-in-Err-clause-refused : goal.returns-in-Err-clause-refused
returns-in-Err-clause-refused g c =
    let u : ActionResultValue = record {
      files = c.read.inside.files.items;
      directories = c.read.inside.directories.items;
      symlinks = c.read.inside.symlinks.items;
      exit_code = c.read.inside.exit_code;
      stdout = c.read.inside.stdout;
      stderr = c.read.inside.stderr;
    } in
    let code = to_z-of_z w32 c.read.inside.exit_code (record { sfits = c.read.ranges.1.1.1.0.1 }) in
    let s : ActionResultValue = record {
      files = c.sort_by_path.new.items.items;
      directories = c.sort_by_path-2.new.items.items;
      symlinks = c.sort_by_path-3.new.items.items;
      exit_code = c.read.inside.exit_code;
      stdout = c.read.inside.stdout;
      stderr = c.read.inside.stderr;
    } in
    let o : IsOrderingOf u s = record {
      files = c.sort_by_path.ensures.same;
      directories = c.sort_by_path-2.ensures.same;
      symlinks = c.sort_by_path-3.ensures.same;
      exit_code = refl;
      stdout = refl;
      stderr = refl;
    } in
    let sorted : IsSortedResult s = record {
      files = c.sort_by_path.ensures.sorted;
      directories = c.sort_by_path-2.ensures.sorted;
      symlinks = c.sort_by_path-3.ensures.sorted;
    } in
    (refl, subst (λ (x : ActionResultValue). AreOutputsValid x → AreApart (output_paths x) → ⊥) c.read.view_is (overlapping u s c.in-Err.field-0 o sorted (rw code at c.in-Err.ensures.exact)))
