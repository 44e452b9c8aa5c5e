use Rattle.std.proofs.Common.{◌≡◌, ◌∙◌, ◌∷◌, [], List, ℕ, Option, Some, ap, codes, refl, string_bytes, subst, sym}
use Rattle.std.specs.Prelude.{unwrap_or}
use Rattle.command_lines.specs.CommandLine.{option_text}
use Rattle.commands.specs.Evidence.{given}
use Rattle.commands.specs.FolderRead.{IsArtifact, value_of_read}
use Rattle.commands.proofs.Notes.{claim_of_read}
use Rattle.std.proofs.lemmas.Result.{IfOk-weaker}
use Rattle.commands.specs.Digested.{reads_bits}
use Rattle.commands.specs.ReadRefused.{FailsReading}
use Rattle.commands.specs.Verified.{FailsFolder}
use Rattle.commands.specs.Verified.FailsFolder.{in_folder, in_memory, in_place, in_sources, in_verdict}
use Rattle.commands.specs.Words.{FailsFirst, place_words}
use Rattle.commands.proofs.Asked.{own_row}
use Rattle.commands.proofs.Exits.{err_weaker, exit_by}
use Rattle.commands.proofs.Refused.{or_memory}
use Rattle.commands.proofs.evidence.verify_folder.Goals as goal

pub returns-in_err-read_place-clause-refused : goal.returns-in_err-read_place-clause-refused
returns-in_err-read_place-clause-refused g c =
    let sees = g.W.World.sees c.args.world.now in
    let rows = g.M.Options.rows c.args.said.now in
    exit_by (FailsFolder sees rows c.args.folder.now) _ c.from_residual.ensures.1 (or_memory (FailsFirst (place_words rows)) (FailsFolder sees rows c.args.folder.now) _ in_memory in_place c.in_err-read_place.ensures.checked)

pub returns-in_err-read_digest-clause-refused : goal.returns-in_err-read_digest-clause-refused
returns-in_err-read_digest-clause-refused g c =
    exit_by (FailsFolder (g.W.World.sees c.args.world.now) (g.M.Options.rows c.args.said.now) c.args.folder.now) _ c.from_residual-in_err-read_digest.ensures.1
    (in_sources c.in_ok-read_place.ensures.checked c.in_err-read_digest.ensures.fault)

pub returns-in_err-read-clause-refused : goal.returns-in_err-read-clause-refused
returns-in_err-read-clause-refused g c =
    let sees = g.W.World.sees c.args.world.now in
    let rows = g.M.Options.rows c.args.said.now in
    exit_by (FailsFolder sees rows c.args.folder.now) _ c.from_residual-in_err-read.ensures.1
    (or_memory (FailsReading sees (reads_bits rows) 64 c.args.folder.now) (FailsFolder sees rows c.args.folder.now) _ in_memory (in_folder c.in_ok-read_place.ensures.checked (_, c.in_ok-read_digest.ensures.found)) c.in_err-read.ensures.refused)

pub returns-clause-answered : goal.returns-clause-answered
returns-clause-answered g c =
    let sees = g.W.World.sees c.args.world.now in
    let rows = g.M.Options.rows c.args.said.now in
    let claim = string_bytes c.in_ok-claim.claim in
    let read = value_of_read c.in_ok-read.read in
    let is : option_text (given (codes "claim") claim ∷ rows) (codes "claim") ≡ claim = ap (λ (o : Option (List ℕ)). unwrap_or o []) (own_row (codes "claim") claim rows) in
    IfOk-weaker c.verify_asked.result _ _
    (λ j h. (
      claim,
      claim_of_read sees rows c.args.folder.now claim read c.in_ok-read.ensures.read c.in_ok-claim.ensures,
      record {
        read = Some read;
        is_read = subst (λ p. IsArtifact p sees rows (option_text (given (codes "claim") claim ∷ rows) (codes "claim")) (Some read)) (sym c.requires) (record { read = c.in_ok-read.ensures.read; claim = is ∙ c.in_ok-claim.ensures });
        on = h;
      },
    )) c.verify_asked.ensures.answered

pub returns-clause-refused : goal.returns-clause-refused
returns-clause-refused g c =
    err_weaker c.verify_asked.result _ _ (λ e h. in_verdict (string_bytes c.in_ok-claim.claim) (claim_of_read (g.W.World.sees c.args.world.now) (g.M.Options.rows c.args.said.now) c.args.folder.now (string_bytes c.in_ok-claim.claim) (value_of_read c.in_ok-read.read) c.in_ok-read.ensures.read c.in_ok-claim.ensures) h) c.verify_asked.ensures.refused

pub returns-in_err-claim-clause-refused : goal.returns-in_err-claim-clause-refused
returns-in_err-claim-clause-refused g c =
    exit_by (FailsFolder (g.W.World.sees c.args.world.now) (g.M.Options.rows c.args.said.now) c.args.folder.now) _ c.from_residual-in_err-claim.ensures.1 (in_memory refl)
