-- The entries so far, and the next one.
use Rattle.std.proofs.Common.{rules, arith, ◌≡◌, ◌∷◌, length, ap, subst, refl, ◌∙◌, inl}
use Rattle.std.specs.Prelude.{string_bytes}
use Rattle.std.proofs.lemmas.Result.{err_from_is_err_and}
use Rattle.blob_source.proofs.Asking.{ok_no_error}
use Rattle.blob_source.proofs.Calling.{called_none, called_no, called_on, called_exit}
use Rattle.tree.specs.FlatTree.{path_values}
use Rattle.checkout.specs.Written.{place_below}
use Rattle.checkout.specs.declared.error.CheckoutError.TheVariants.{Memory}
use Rattle.checkout.specs.Folder.{Tries}
use Rattle.checkout.specs.Refused.FailsOneEntry.{untried}
use Rattle.checkout.proofs.Telling.{asks_nothing}
use Rattle.checkout.proofs.Entries.{SoFar, none_yet, next_one, next_fails, all_done, tries_none}
use Rattle.checkout.proofs.writing.write_entries.Goals as goal

pub loop-below-init : goal.loop-below-init
loop-below-init g c =
    let tells = g.S.BlobSource.tells c.args.source.now in
    let has = g.W.FolderWriter.has in
    let all = path_values c.args.entries.items in
    let tried = g.W.FolderWriter.tried in
    let folder = c.args.folder.now in
    record {
      called = called_none (λ n. n);
      so_far = subst (λ es. SoFar has (Tries tried c.args.writer.now c.args.writer.now) tells tells folder folder c.args.path.now all (path_values es)) (search rules) (none_yet has tried c.args.writer.now c.args.path.now all tells folder);
    }

pub loop-below-preserved : goal.loop-below-preserved
loop-below-preserved g c =
    let has = g.W.FolderWriter.has in
    let tried = g.W.FolderWriter.tried in
    let all = path_values c.args.entries.items in
    let steps : c.loop-below.below-iterator.rest.items ≡ (c.in-Some.below, c.in-Some.entry) ∷ c.next.new.self.rest.items = search rules in
    let at = c.in_ok-place.ensures ∙ ap (λ t. place_below c.args.path.now t) c.as_str.ensures.value in
    record {
      called = called_on c.loop-below.invariant.called (called_no ok_no_error (λ n. n) c.in_ok-write_entry.ensures.called);
      so_far = next_one has tried c.args.writer.now c.args.path.now all c.args.folder.now c.loop-below.folder c.write_entry.new.folder c.loop-below.writer c.write_entry.new.writer (string_bytes c.in_ok-place.place) steps
          c.write_entry.ensures.called.asked.blobs at c.loop-below.invariant.so_far c.in_ok-write_entry.ensures.made c.in_ok-write_entry.ensures.tried c.write_entry.ensures.few c.write_entry.ensures.only;
    }

-- ---- no place for the next one

pub returns-in_err-place-clause-refused : goal.returns-in_err-place-clause-refused
returns-in_err-place-clause-refused g c =
    let has = g.W.FolderWriter.has in
    let tried = g.W.FolderWriter.tried in
    let steps : c.loop-below.below-iterator.rest.items ≡ (c.in-Some.below, c.in-Some.entry) ∷ c.next.new.self.rest.items = search rules in
    let p = err_from_is_err_and c.from_residual.result c.from_residual.ensures.1 in
    rw (p.1, p.2) (next_fails has tried c.args.writer.now c.args.path.now (path_values c.args.entries.items) (g.W.FolderWriter.refuses c.loop-below.writer) c.args.folder.now c.loop-below.folder c.loop-below.writer c.loop-below.writer _ Memory steps
    (λ d b h. h) refl c.loop-below.invariant.so_far (untried (tries_none tried c.loop-below.writer) (inl refl)) (omega arith) asks_nothing)

pub returns-in_err-place-clause-called : goal.returns-in_err-place-clause-called
returns-in_err-place-clause-called g c = called_no (λ n. n) (search rules) c.loop-below.invariant.called

-- ---- the next one isn't written

pub returns-in_err-write_entry-clause-refused : goal.returns-in_err-write_entry-clause-refused
returns-in_err-write_entry-clause-refused g c =
    let has = g.W.FolderWriter.has in
    let steps : c.loop-below.below-iterator.rest.items ≡ (c.in-Some.below, c.in-Some.entry) ∷ c.next.new.self.rest.items = search rules in
    let at = c.in_ok-place.ensures ∙ ap (λ t. place_below c.args.path.now t) c.as_str.ensures.value in
    let p = err_from_is_err_and c.from_residual-in_err-write_entry.result c.from_residual-in_err-write_entry.ensures.1 in
    rw (p.1, p.2) (next_fails has g.W.FolderWriter.tried c.args.writer.now c.args.path.now (path_values c.args.entries.items) (g.W.FolderWriter.refuses c.write_entry.new.writer) c.args.folder.now c.loop-below.folder c.loop-below.writer c.write_entry.new.writer
    (string_bytes c.in_ok-place.place) c.in_err-write_entry.field-0.0 steps c.write_entry.ensures.called.asked.blobs at c.loop-below.invariant.so_far c.in_err-write_entry.ensures.refused c.write_entry.ensures.few c.write_entry.ensures.only)

pub returns-in_err-write_entry-clause-called : goal.returns-in_err-write_entry-clause-called
returns-in_err-write_entry-clause-called g c =
    called_on c.loop-below.invariant.called (called_exit c.from_residual-in_err-write_entry.ensures.1 c.in_err-write_entry.ensures.called)

-- ---- none is left

pub returns-clause-made : goal.returns-clause-made
returns-clause-made g c =
    let none : length c.loop-below.below-iterator.rest.items ≡ 0 = (let len = c.in-None.ensures.steps.0 in let ok = c.loop-below.below-iterator.rest.ok in omega (arith, len, ok)) in
    (all_done g.W.FolderWriter.has g.W.FolderWriter.tried c.args.writer.now c.args.path.now (path_values c.args.entries.items) c.loop-below.below-iterator.rest.items c.args.folder.now c.loop-below.folder none c.loop-below.invariant.so_far).0

pub returns-clause-tried : goal.returns-clause-tried
returns-clause-tried g c =
    let none : length c.loop-below.below-iterator.rest.items ≡ 0 = (let len = c.in-None.ensures.steps.0 in let ok = c.loop-below.below-iterator.rest.ok in omega (arith, len, ok)) in
    (all_done g.W.FolderWriter.has g.W.FolderWriter.tried c.args.writer.now c.args.path.now (path_values c.args.entries.items) c.loop-below.below-iterator.rest.items c.args.folder.now c.loop-below.folder none c.loop-below.invariant.so_far).1

pub returns-clause-asked : goal.returns-clause-asked
returns-clause-asked g c =
    let none : length c.loop-below.below-iterator.rest.items ≡ 0 = (let len = c.in-None.ensures.steps.0 in let ok = c.loop-below.below-iterator.rest.ok in omega (arith, len, ok)) in
    (all_done g.W.FolderWriter.has g.W.FolderWriter.tried c.args.writer.now c.args.path.now (path_values c.args.entries.items) c.loop-below.below-iterator.rest.items c.args.folder.now c.loop-below.folder none c.loop-below.invariant.so_far).2

pub returns-clause-called : goal.returns-clause-called
returns-clause-called g c = called_no (λ n. n) ok_no_error c.loop-below.invariant.called
