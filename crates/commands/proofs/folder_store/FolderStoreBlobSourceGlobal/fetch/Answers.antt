use Rattle.std.proofs.Common.{◌∙◌, subst, sym}
use Rattle.std.proofs.Math.Logic.{∥∥₁_map₂}
use Rattle.std.specs.Prelude.{codes}
use Rattle.remote.specs.Folder.{IsNothingAt, LooksInFolder, blobs_of, entry_path, error_of, files_of}
use Rattle.remote.specs.Table.{told_by}
use Rattle.text_verifier.specs.declared.lack.Lack.TheVariants.{Blob}
use Rattle.commands.specs.Places.{LacksAll, SeesFiles, WereRead}
use Rattle.commands.proofs.Tellings.{absent_on, by_same, failed_on, looks_more, read_on}
use Rattle.commands.proofs.folder_store.FolderStoreBlobSourceGlobal.fetch.Goals as goal

pub invariant_of-self : goal.invariant_of-self
invariant_of-self g c =
    let sees = g.K.FolderMark.sees in
    let folder = g.K.FolderMark.folder in
    let old = c.args.self.now.store in
    let new = c.fetch.new.self in
    let d = c.args.digest.now in
    let world = g.W.World.sees (files_of old).0.now in
    let looked = subst (λ x. LooksInFolder world.reads world.fails (entry_path x (codes "cas") d) d (error_of old) (error_of new) (blobs_of old) (blobs_of new) c.fetch.result)
    c.args.self.now.place c.fetch.ensures.looked in
    record {
      place = c.fetch.ensures.placed ∙ c.args.self.now.place;
      world = by_same (files_of old) (files_of new) c.fetch.ensures.same_files (λ f. ∥ SeesFiles (g.W.World.sees f.0.now) sees ∥₁) c.args.self.now.world;
      told = ∥∥₁_map₂ c.args.self.now.world c.args.self.now.told (λ known is.
          let looks = looks_more world sees known (entry_path folder (codes "cas") d) d (error_of old) (error_of new) (blobs_of old) (blobs_of new) c.fetch.result looked in
          record {
            told = record {
              blobs = read_on sees.reads sees.fails (λ e. entry_path folder (codes "cas") e) d (error_of old) (error_of new) (blobs_of old) (blobs_of new) c.fetch.result looks
                  c.fetch.ensures.told c.fetch.ensures.called.asked.blobs is.told.blobs;
              results = subst (λ t. WereRead sees folder (codes "ac") (told_by t)) (sym c.fetch.ensures.untouched) is.told.results;
            };
            lacked = record {
              blobs = absent_on sees.reads sees.fails (λ e. entry_path folder (codes "cas") e) d (error_of old) (error_of new) (blobs_of old) (blobs_of new) c.fetch.result looks
                  c.fetch.ensures.told is.lacked.blobs;
              results = subst (LacksAll (λ e. IsNothingAt sees.fails (entry_path folder (codes "ac") e))) (sym c.fetch.ensures.untouched) is.lacked.results;
            };
            failed = failed_on sees folder (Blob d) d (error_of old) (error_of new) (blobs_of old) (blobs_of new) c.fetch.result looks is.failed;
          });
    }
