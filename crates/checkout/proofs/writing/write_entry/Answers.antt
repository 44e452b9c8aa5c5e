use Rattle.std.proofs.Common.{◌+◌, ◌≤◌, [], ◌∷◌, ap, sym, subst, refl, inr}
use Rattle.std.specs.Prelude.{string_bytes}
use Rattle.std.proofs.lemmas.Result.{err_from_is_err_and}
use Rattle.tree.specs.FlatTree.{entry_value}
use Rattle.checkout.specs.Refused.FailsOneEntry.{untried}
use Rattle.checkout.specs.Folder.{Gains}
use Rattle.checkout.specs.Folder.Written.{a_file, a_link}
use Rattle.checkout.specs.Written.{EntryLooksAt, MakesEntry, contents_at}
use Rattle.tree.specs.Memo.{AsksNoOther}
use Rattle.checkout.proofs.Entries.{tries_none, where_ok}
use Rattle.checkout.proofs.Telling.{asks_nothing, call_fails, content_few}
use Rattle.checkout.proofs.writing.write_entry.Goals as goal

pub returns-in-Link-clause-made : goal.returns-in-Link-clause-made
returns-in-Link-clause-made g c =
    let has = g.W.FolderWriter.has in
    let B = (g.S.BlobSource.tells c.args.source.now).blobs in
    where_ok c.made_at-in-Link.result c.make_link-made.result c.made_at-in-Link.ensures.same c.make_link-made.ensures.made
    (λ gains. subst (λ e. MakesEntry has B c.args.folder.now c.make_link-made.new.folder (string_bytes c.args.place) (entry_value e)) (sym c.in-Link.is)
    (record { written = a_link c.as_str-in-Link-2.result.now; of_entry = c.as_str-in-Link-2.ensures.value; gains = subst (λ q. Gains has c.args.folder.now c.make_link-made.new.folder ((q, a_link c.as_str-in-Link-2.result.now) ∷ [])) c.as_str-in-Link.ensures.value gains }))

pub returns-in_ok-content-in-File-clause-made : goal.returns-in_ok-content-in-File-clause-made
returns-in_ok-content-in-File-clause-made g c =
    let has = g.W.FolderWriter.has in
    let B = (g.S.BlobSource.tells c.read_content.new.source).blobs in
    let old = c.args.folder.now in
    let new = c.write_file-made.new.folder in
    where_ok c.made_at-in-File.result c.write_file-made.result c.made_at-in-File.ensures.same c.write_file-made.ensures.made
    (λ gains. subst (λ e. MakesEntry has B old new (string_bytes c.args.place) (entry_value e)) (sym c.in-File.is)
    (record {
      written = a_file c.in_ok-content-in-File.content.items c.in-File.executable;
      of_entry = (c.in_ok-content-in-File.ensures.told, refl);
      gains = subst (λ b. Gains has old new ((string_bytes c.args.place, a_file b c.in-File.executable) ∷ [])) c.deref.ensures.value
          (subst (λ q. Gains has old new ((q, a_file c.deref.result.now c.in-File.executable) ∷ [])) c.as_str-in-File.ensures.value gains);
    }))

pub returns-in-Dir-clause-only : goal.returns-in-Dir-clause-only
returns-in-Dir-clause-only g c = asks_nothing

pub returns-in-Link-clause-only : goal.returns-in-Link-clause-only
returns-in-Link-clause-only g c = asks_nothing

pub returns-in_err-content-in-File-clause-only : goal.returns-in_err-content-in-File-clause-only
returns-in_err-content-in-File-clause-only g c =
    let tells = g.S.BlobSource.tells in
    subst (λ e. AsksNoOther (EntryLooksAt (entry_value e)) (tells c.args.source.now) (tells c.read_content.new.source)) (sym c.in-File.is) c.read_content.ensures.only

pub returns-in_ok-content-in-File-clause-only : goal.returns-in_ok-content-in-File-clause-only
returns-in_ok-content-in-File-clause-only g c =
    let tells = g.S.BlobSource.tells in
    subst (λ e. AsksNoOther (EntryLooksAt (entry_value e)) (tells c.args.source.now) (tells c.read_content.new.source)) (sym c.in-File.is) c.read_content.ensures.only

pub returns-in_err-content-in-File-clause-few : goal.returns-in_err-content-in-File-clause-few
returns-in_err-content-in-File-clause-few g c =
    let tells = g.S.BlobSource.tells in
    subst (λ e. (tells c.read_content.new.source).calls ≤ (tells c.args.source.now).calls + contents_at (entry_value e)) (sym c.in-File.is)
    (content_few c.in-File.digest c.in-File.executable c.read_content.ensures.called.asked c.read_content.ensures.unasked)

pub returns-in_ok-content-in-File-clause-few : goal.returns-in_ok-content-in-File-clause-few
returns-in_ok-content-in-File-clause-few g c =
    let tells = g.S.BlobSource.tells in
    subst (λ e. (tells c.read_content.new.source).calls ≤ (tells c.args.source.now).calls + contents_at (entry_value e)) (sym c.in-File.is)
    (content_few c.in-File.digest c.in-File.executable c.read_content.ensures.called.asked c.read_content.ensures.unasked)

pub returns-in-Dir-clause-refused : goal.returns-in-Dir-clause-refused
returns-in-Dir-clause-refused g c =
    call_fails (g.W.FolderWriter.refuses c.make_folder-made.new.self) _ _ (string_bytes c.args.place) _ c.make_folder-made.result c.made_at.result c.as_str.ensures.value c.make_folder-made.ensures.tries c.made_at.ensures.refused c.make_folder-made.ensures.refused

pub returns-in-Link-clause-refused : goal.returns-in-Link-clause-refused
returns-in-Link-clause-refused g c =
    call_fails (g.W.FolderWriter.refuses c.make_link-made.new.self) _ _ (string_bytes c.args.place) _ c.make_link-made.result c.made_at-in-Link.result c.as_str-in-Link.ensures.value c.make_link-made.ensures.tries c.made_at-in-Link.ensures.refused c.make_link-made.ensures.refused

pub returns-in_ok-content-in-File-clause-refused : goal.returns-in_ok-content-in-File-clause-refused
returns-in_ok-content-in-File-clause-refused g c =
    call_fails (g.W.FolderWriter.refuses c.write_file-made.new.self) _ _ (string_bytes c.args.place) _ c.write_file-made.result c.made_at-in-File.result c.as_str-in-File.ensures.value c.write_file-made.ensures.tries c.made_at-in-File.ensures.refused c.write_file-made.ensures.refused

pub returns-in_err-content-in-File-clause-refused : goal.returns-in_err-content-in-File-clause-refused
returns-in_err-content-in-File-clause-refused g c =
    let p = err_from_is_err_and c.from_residual.result c.from_residual.ensures.1 in
    rw (p.1, p.2) (untried (tries_none g.W.FolderWriter.tried c.args.writer.now) (inr (c.in-File.digest, c.in-File.executable, ap entry_value c.in-File.is, c.in_err-content-in-File.ensures.refused)))
