use Rattle.std.proofs.Common.{◌≡◌, ◌∙◌, ap, codes, string_bytes, subst, sym, IfErr, IfOk, None, Some}
use Rattle.std.proofs.lemmas.Result.{IfOk-weaker}
use Rattle.std.specs.Prelude.{option_map}
use Rattle.clap.specs.Words.{first_of}
use Rattle.commands.specs.Evidence.{FailsClaim, IsClaim}
use Rattle.commands.specs.Faults.{OrMemory}
use Rattle.commands.specs.FolderRead.{IsArtifact, value_of_read}
use Rattle.commands.proofs.evidence_options.stated_claim.Goals as goal

pub returns-in-Some : goal.returns-in-Some
returns-in-Some g c =
    let outside = g.V.World.sees c.args.outside.now in
    let sees = g.W.World.sees c.args.world.now in
    let rows = g.M.Options.rows c.args.options.now in
    let evidence = c.args.evidence.now in
    let is : Some c.in-Some.folder.now ≡ first_of (codes "artifact") rows = sym (ap (option_map (λ s. s.now)) c.in-Some.is) ∙ c.text.ensures in
    record {
      claim = subst (λ o. IfOk c.folder_claim.result (λ claim. IsClaim o outside sees rows evidence (string_bytes claim.text))) is c.folder_claim.ensures.claim;
      folder = subst (λ o. IfOk c.folder_claim.result (λ claim. IsArtifact o outside rows (string_bytes claim.text) (option_map value_of_read claim.folder))) is c.folder_claim.ensures.folder;
      fault = subst (λ o. IfErr c.folder_claim.result (OrMemory (FailsClaim o outside sees rows evidence))) is c.folder_claim.ensures.fault;
    }

pub returns-in-None : goal.returns-in-None
returns-in-None g c =
    let outside = g.V.World.sees c.args.outside.now in
    let sees = g.W.World.sees c.args.world.now in
    let rows = g.M.Options.rows c.args.options.now in
    let evidence = c.args.evidence.now in
    let is : None ≡ first_of (codes "artifact") rows = sym (ap (option_map (λ s. s.now)) c.in-None.is) ∙ c.text.ensures in
    record {
      claim = subst (λ o. IfOk c.said_claim.result (λ claim. IsClaim o outside sees rows evidence (string_bytes claim.text))) is c.said_claim.ensures.stated;
      folder = subst (λ o. IfOk c.said_claim.result (λ claim. IsArtifact o outside rows (string_bytes claim.text) (option_map value_of_read claim.folder))) is
          (IfOk-weaker c.said_claim.result _ _ (λ claim h. ap (option_map value_of_read) h) c.said_claim.ensures.none);
      fault = subst (λ o. IfErr c.said_claim.result (OrMemory (FailsClaim o outside sees rows evidence))) is c.said_claim.ensures.fault;
    }
