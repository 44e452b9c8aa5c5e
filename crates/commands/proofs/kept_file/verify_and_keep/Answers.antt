use Rattle.std.proofs.Common.{◌⊎◌, inl, inr, refl, string_bytes}
use Rattle.clap.specs.Words.{found_of, rows_of}
use Rattle.commands.specs.Faults.{IsFaultAtPath, TellsOfEntry}
use Rattle.commands.specs.Kept.{not_kept}
use Rattle.commands.specs.Verified.{FailsToAnswer, FailsToKeep}
use Rattle.commands.specs.Verified.FailsToKeep.{in_answer, in_archive, in_memory, in_place, in_writing}
use Rattle.commands.proofs.Exits.{exit_by}
use Rattle.commands.proofs.Refused.{or_memory}
use Rattle.commands.proofs.kept_file.verify_and_keep.Goals as goal

pub returns-in_err-check_writable-clause-refused : goal.returns-in_err-check_writable-clause-refused
returns-in_err-check_writable-clause-refused g c =
    exit_by (FailsToKeep (g.W.World.sees c.args.world.now) (rows_of (found_of c.args.matches.now)) c.args.path.now) _ c.from_residual.ensures.1
    (in_place _ c.in_err-check_writable.ensures.fault refl)

pub returns-in_err-judgement-clause-refused : goal.returns-in_err-judgement-clause-refused
returns-in_err-judgement-clause-refused g c =
    let sees = g.W.World.sees c.args.world.now in
    let rows = rows_of (found_of c.args.matches.now) in
    exit_by (FailsToKeep sees rows c.args.path.now) _ c.from_residual-in_err-judgement.ensures.1
    (or_memory (FailsToAnswer sees rows) (FailsToKeep sees rows c.args.path.now) _ in_memory (in_answer c.in_ok-check_writable.ensures.takes) c.in_err-judgement.ensures.refused)

pub returns-in_err-keep-clause-refused : goal.returns-in_err-keep-clause-refused
returns-in_err-keep-clause-refused g c =
    let sees = g.W.World.sees c.args.world.now in
    let rows = rows_of (found_of c.args.matches.now) in
    let path = c.args.path.now in
    let judgement = c.in_ok-judgement.judgement in
    let line = string_bytes judgement.line in
    exit_by (FailsToKeep sees rows path) _ c.from_residual-in_err-keep.ensures.1
    (or_memory (λ e. TellsOfEntry path not_kept e ⊎ IsFaultAtPath path (sees.unwritten path) e) (FailsToKeep sees rows path) _ in_memory
    (λ fails. elim fails [
      | inl unfit ↦ in_archive line judgement.ended c.in_ok-judgement.ensures.answered unfit
      | inr unwritten ↦ in_writing line judgement.ended c.in_ok-judgement.ensures.answered unwritten
    ]) c.in_err-keep.ensures.fault)
