-- A directory, a link, and a file with its content.
use Rattle.std.proofs.Common.{rules, ◌≡◌, [], ◌∷◌, ◌++◌, ap, append-nil, refl, sym, subst, ◌∙◌}
use Rattle.std.proofs.lemmas.List.{map-append}
use Rattle.std.proofs.lemmas.Result.{err_from_is_err_and}
use Rattle.tree.specs.FlatTree.{entry_value}
use Rattle.worker.specs.Gathering.{AreGathered}
use Rattle.worker.specs.Refusals.{StopsLayout, of_tree}
use Rattle.worker.specs.Values.{contents_of}
use Rattle.worker.specs.declared.laid.LayoutError.TheVariants as laying
use Rattle.worker.proofs.Gathering.{file_fault, link_fault}
use Rattle.worker.proofs.laying_out.take_entry.Goals as goal

pub returns-in-Dir-clause-taken : goal.returns-in-Dir-clause-taken
returns-in-Dir-clause-taken g c =
    let blobs = (g.S.BlobSource.tells c.args.source.now).blobs in
    let pushed : c.push.new.self.items ≡ c.args.folders.now.items ++ c.args.path ∷ [] = search rules in
    record {
      more_folders = c.args.path ∷ [];
      more_files = [];
      gathered = subst (λ e. AreGathered blobs ((c.args.path, entry_value e) ∷ []) (c.args.path ∷ []) []) (sym c.in-Dir.is) ([], refl, (refl, refl));
      folders_are = pushed;
      files_are = sym (append-nil (contents_of c.args.files.now.items));
    }

pub returns-in-Link-clause-refused : goal.returns-in-Link-clause-refused
returns-in-Link-clause-refused g c =
    let blobs = (g.S.BlobSource.tells c.args.source.now).blobs in
    subst (λ e. StopsLayout blobs ((c.args.path, entry_value e) ∷ []) (laying.LinkInput c.args.path)) (sym c.in-Link.is) (link_fault blobs c.args.path c.in-Link.target)

pub returns-in_err-content-clause-refused : goal.returns-in_err-content-clause-refused
returns-in_err-content-clause-refused g c =
    let p = err_from_is_err_and c.from_residual-in_err-content.result c.from_residual-in_err-content.ensures.1 in
    let blobs = (g.S.BlobSource.tells c.fetch_content.new.source).blobs in
    rw (p.1, p.2) (subst (λ e. StopsLayout blobs ((c.args.path, entry_value e) ∷ []) (of_tree c.in_err-content.field-0.0)) (sym c.in-File.is) (file_fault blobs c.args.path c.in-File.digest c.in-File.executable c.in_err-content.field-0.0 c.in_err-content.ensures.faulty))

pub returns-clause-taken : goal.returns-clause-taken
returns-clause-taken g c =
    let blobs = (g.S.BlobSource.tells c.fetch_content.new.source).blobs in
    let content = c.in_ok-content.content in
    let pushed : c.push-2.new.self.items ≡ c.args.files.now.items ++ (c.args.path, content) ∷ [] = search rules in
    record {
      more_folders = [];
      more_files = (c.args.path, content.items) ∷ [];
      gathered = subst (λ e. AreGathered blobs ((c.args.path, entry_value e) ∷ []) [] ((c.args.path, content.items) ∷ [])) (sym c.in-File.is) (content.items, c.in_ok-content.ensures.told, [], refl, (refl, refl));
      folders_are = sym (append-nil c.args.folders.now.items);
      files_are = ap contents_of pushed ∙ map-append (λ f. (f.0, f.1.items)) c.args.files.now.items ((c.args.path, content) ∷ []);
    }
