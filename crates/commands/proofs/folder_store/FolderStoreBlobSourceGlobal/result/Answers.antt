use Rattle.std.proofs.Common.{◌∙◌, subst, sym}
use Rattle.std.proofs.Math.Logic.{∥∥₁_map₂}
use Rattle.std.specs.Prelude.{codes}
use Rattle.remote.specs.Folder.{IsNothingAt, LooksInFolder, entry_path, error_of, files_of, results_of}
use Rattle.remote.specs.Table.{told_by}
use Rattle.text_verifier.specs.declared.lack.Lack.TheVariants.{ActionResult}
use Rattle.commands.specs.Places.{LacksAll, SeesFiles, WereRead}
use Rattle.commands.proofs.Tellings.{absent_on, by_same, failed_on, looks_more, read_on}
use Rattle.commands.proofs.folder_store.FolderStoreBlobSourceGlobal.result.Goals as goal

pub invariant_of-self : goal.invariant_of-self
invariant_of-self g c =
    let sees = g.K.FolderMark.sees in
    let folder = g.K.FolderMark.folder in
    let old = c.args.self.now.store in
    let new = c.result.new.self in
    let d = c.args.digest.now in
    let world = g.W.World.sees (files_of old).0.now in
    let looked = subst (λ x. LooksInFolder world.reads world.fails (entry_path x (codes "ac") d) d (error_of old) (error_of new) (results_of old) (results_of new) c.result.result)
    c.args.self.now.place c.result.ensures.looked in
    record {
      place = c.result.ensures.placed ∙ c.args.self.now.place;
      world = by_same (files_of old) (files_of new) c.result.ensures.same_files (λ f. ∥ SeesFiles (g.W.World.sees f.0.now) sees ∥₁) c.args.self.now.world;
      told = ∥∥₁_map₂ c.args.self.now.world c.args.self.now.told (λ known is.
          let looks = looks_more world sees known (entry_path folder (codes "ac") d) d (error_of old) (error_of new) (results_of old) (results_of new) c.result.result looked in
          record {
            told = record {
              results = read_on sees.reads sees.fails (λ e. entry_path folder (codes "ac") e) d (error_of old) (error_of new) (results_of old) (results_of new) c.result.result looks
                  c.result.ensures.told c.result.ensures.called.asked.results is.told.results;
              blobs = subst (λ t. WereRead sees folder (codes "cas") (told_by t)) (sym c.result.ensures.untouched) is.told.blobs;
            };
            lacked = record {
              results = absent_on sees.reads sees.fails (λ e. entry_path folder (codes "ac") e) d (error_of old) (error_of new) (results_of old) (results_of new) c.result.result looks
                  c.result.ensures.told is.lacked.results;
              blobs = subst (LacksAll (λ e. IsNothingAt sees.fails (entry_path folder (codes "cas") e))) (sym c.result.ensures.untouched) is.lacked.blobs;
            };
            failed = failed_on sees folder (ActionResult d) d (error_of old) (error_of new) (results_of old) (results_of new) c.result.result looks is.failed;
          });
    }
