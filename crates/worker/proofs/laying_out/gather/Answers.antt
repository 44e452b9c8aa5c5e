-- The entries so far, and the next one.
use Rattle.std.proofs.Common.{rules, arith, ◌≡◌, [], ◌∷◌, sym, subst}
use Rattle.std.proofs.lemmas.Result.{err_from_is_err_and}
use Rattle.blob_source.proofs.Asking.{ok_no_error}
use Rattle.blob_source.proofs.Calling.{called_none, called_no, called_on, called_exit}
use Rattle.tree.specs.FlatTree.{entry_value, path_values}
use Rattle.worker.specs.Values.{contents_of}
use Rattle.worker.proofs.Gathering.{GoesOn, gathers_first, gathers_more, gathering_stops, gathers_end, contents_count}
use Rattle.worker.proofs.Sorting.{none_left}
use Rattle.worker.proofs.laying_out.gather.Goals as goal

pub loop-path-init : goal.loop-path-init
loop-path-init g c =
    let tells = g.S.BlobSource.tells c.args.source.now in
    let all = path_values c.args.entries.items in
    record {
      called = called_none (λ n. n);
      goes =
          subst (λ es. GoesOn tells.blobs all c.new-folders.result.items (contents_of c.new-files.result.items) (path_values es)) (search rules)
          (subst (λ fs. GoesOn tells.blobs all c.new-folders.result.items (contents_of fs) all) (sym c.new-files.ensures.items)
          (subst (λ ps. GoesOn tells.blobs all ps [] all) (sym c.new-folders.ensures.items) (gathers_first tells.blobs all)));
      few = omega arith;
    }

pub loop-path-preserved : goal.loop-path-preserved
loop-path-preserved g c =
    let blobs = (g.S.BlobSource.tells c.loop-path.source).blobs in
    let all = path_values c.args.entries.items in
    let folders = c.loop-path.folders.items in
    let files = contents_of c.loop-path.files.items in
    let left = c.next.new.self.rest.items in
    let steps : c.loop-path.path-iterator.rest.items ≡ (c.in-Some.path, c.in-Some.entry) ∷ left = search rules in
    let goes = subst (λ es. GoesOn blobs all folders files (path_values es)) steps c.loop-path.invariant.goes in
    record {
      called = called_on c.loop-path.invariant.called (called_no ok_no_error (λ n. n) c.in_ok-take_entry.ensures.called);
      goes = gathers_more c.take_entry.ensures.called.asked.blobs all (path_values left) folders files c.in-Some.path (entry_value c.in-Some.entry) goes c.take_entry.new.folders.items (contents_of c.take_entry.new.files.items) c.in_ok-take_entry.ensures.taken;
      few = let was = c.loop-path.invariant.few in let more = c.in_ok-take_entry.ensures.few in omega (arith, was, more);
    }

pub returns-in_err-take_entry-clause-refused : goal.returns-in_err-take_entry-clause-refused
returns-in_err-take_entry-clause-refused g c =
    let p = err_from_is_err_and c.from_residual.result c.from_residual.ensures.1 in
    let blobs = (g.S.BlobSource.tells c.loop-path.source).blobs in
    let all = path_values c.args.entries.items in
    let folders = c.loop-path.folders.items in
    let files = contents_of c.loop-path.files.items in
    let left = c.next.new.self.rest.items in
    let steps : c.loop-path.path-iterator.rest.items ≡ (c.in-Some.path, c.in-Some.entry) ∷ left = search rules in
    let goes = subst (λ es. GoesOn blobs all folders files (path_values es)) steps c.loop-path.invariant.goes in
    rw (p.1, p.2) (gathering_stops c.take_entry.ensures.called.asked.blobs all (path_values left) folders files c.in-Some.path (entry_value c.in-Some.entry) goes c.in_err-take_entry.field-0.0 c.in_err-take_entry.ensures.refused)

pub returns-in_err-take_entry-clause-called : goal.returns-in_err-take_entry-clause-called
returns-in_err-take_entry-clause-called g c = called_on c.loop-path.invariant.called (called_exit c.from_residual.ensures.1 c.in_err-take_entry.ensures.called)

pub returns-clause-gathered : goal.returns-clause-gathered
returns-clause-gathered g c =
    let blobs = (g.S.BlobSource.tells c.loop-path.source).blobs in
    let all = path_values c.args.entries.items in
    let none : c.loop-path.path-iterator.rest.items ≡ [] = none_left c.loop-path.path-iterator.rest.items (let len = c.in-None.ensures.steps.0 in let ok = c.loop-path.path-iterator.rest.ok in omega (arith, len, ok)) in
    gathers_end blobs all c.loop-path.folders.items (contents_of c.loop-path.files.items)
    (subst (λ es. GoesOn blobs all c.loop-path.folders.items (contents_of c.loop-path.files.items) (path_values es)) none c.loop-path.invariant.goes)

pub returns-clause-called : goal.returns-clause-called
returns-clause-called g c = called_no (λ n. n) ok_no_error c.loop-path.invariant.called

pub returns-clause-few : goal.returns-clause-few
returns-clause-few g c = let was = c.loop-path.invariant.few in let count = contents_count c.loop-path.files.items in omega (arith, was, count)
