-- The fields that were collected are those of the outcome's result, which keeps the rules.
use Rattle.std.proofs.Common.{◌≡◌, ◌∙◌, List, [], ap, sym, to_z, of_z}
use Rattle.std.specs.Int.{w32}
use Rattle.std.proofs.lemmas.Int.{to_z-of_z}
use Rattle.std.specs.Prelude.{None, Result, Ok, Err}
use Rattle.messages.specs.declared.error.MessageError.{MessageError}
use Rattle.action_messages.specs.ActionResult.{ActionResultValue}
use Rattle.actions.specs.Outcome.{outputs_in}
use Rattle.action_messages.specs.Stream.{StreamValue}
use Rattle.action_messages.proofs.Results.{result_found}
use Rattle.runs.specs.Results.{result_of}
use Rattle.verifier.specs.Holding.{no_stream}
use Rattle.runs.proofs.Forms.{fits_by_size}
use Rattle.runs.proofs.Kept.{result_checked, collected}
use Rattle.runs.proofs.results.result_of.Goals as goal

-- a stream without bytes
nothing : (s : StreamValue) (raw : List _) → s ≡ record { raw = raw; digest = None } → raw ≡ [] → s ≡ no_stream
nothing s raw is none = is ∙ ap (λ r. record { raw = r; digest = None }) none

pub unreachable-requires : goal.unreachable-requires
unreachable-requires g c =
    let r : ActionResultValue = record { files = c.in_ok-files_of.field-0.items; directories = c.in_ok-directories_of.field-0.items; symlinks = c.in_ok-symlinks_of.field-0.items; exit_code = to_z w32 (of_z w32 c.exit_code.result); stdout = c.new-2.result; stderr = c.new-4.result } in
    let same : r ≡ result_of c.args.outcome.now = collected c.args.outcome.now (outputs_in c.outputs-outputs.result.now) c.in_ok-files_of.field-0.items c.in_ok-directories_of.field-0.items c.in_ok-symlinks_of.field-0.items (to_z w32 (of_z w32 c.exit_code.result)) c.new-2.result c.new-4.result c.outputs-outputs.ensures.value
    c.in_ok-files_of.ensures c.in_ok-directories_of.ensures c.in_ok-symlinks_of.ensures (to_z-of_z w32 c.exit_code.result (fits_by_size c.exit_code.result c.exit_code.type_inv) ∙ c.exit_code.ensures.value) (nothing c.new-2.result c.new.result.items c.new-2.ensures c.new.ensures.items) (nothing c.new-4.result c.new-3.result.items c.new-4.ensures c.new-3.ensures.items) in
    let checked = result_checked c.args.outcome.now c.outputs-outputs.ensures.valid r same in
    let both : ◌≡◌ {A = Result ActionResultValue MessageError} (Ok r) (Err c.in-Err.field-0) = sym checked ∙ (c.in-Err.ensures {u = tt}).exact in
    cc

pub returns-clause-value : goal.returns-clause-value
returns-clause-value g c =
    let r : ActionResultValue = record { files = c.in_ok-files_of.field-0.items; directories = c.in_ok-directories_of.field-0.items; symlinks = c.in_ok-symlinks_of.field-0.items; exit_code = to_z w32 (of_z w32 c.exit_code.result); stdout = c.new-2.result; stderr = c.new-4.result } in
    let same : r ≡ result_of c.args.outcome.now = collected c.args.outcome.now (outputs_in c.outputs-outputs.result.now) c.in_ok-files_of.field-0.items c.in_ok-directories_of.field-0.items c.in_ok-symlinks_of.field-0.items (to_z w32 (of_z w32 c.exit_code.result)) c.new-2.result c.new-4.result c.outputs-outputs.ensures.value
    c.in_ok-files_of.ensures c.in_ok-directories_of.ensures c.in_ok-symlinks_of.ensures (to_z-of_z w32 c.exit_code.result (fits_by_size c.exit_code.result c.exit_code.type_inv) ∙ c.exit_code.ensures.value) (nothing c.new-2.result c.new.result.items c.new-2.ensures c.new.ensures.items) (nothing c.new-4.result c.new-3.result.items c.new-4.ensures c.new-3.ensures.items) in
    sym (result_found r c.in-Ok.made (c.in-Ok.ensures {u = tt}).exact).1 ∙ same
