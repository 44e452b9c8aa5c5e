-- The result is kept, or the source is asked for it once.
use Rattle.std.proofs.Common.{◌≡◌, ap, sym, ◌∙◌, subst, refl}
use Rattle.std.specs.Prelude.{Some, option_map}
use Rattle.blob_source.specs.Source.{bytes_of}
use Rattle.blob_source.proofs.Calling.{calls_result}
use Rattle.tree.proofs.Learning.{without_exit}
use Rattle.tree.proofs.Memos.{knows_result, same_results, learns_result, learns_no_result}
use Rattle.tree.proofs.memo.Memo.result.Goals as goal

pub returns-in-Some-clause-told : goal.returns-in-Some-clause-told
returns-in-Some-clause-told g c =
    let held = c.requires.results c.args.digest.now c.in-Some.bytes.now.items (ap (option_map (λ v. v.items)) (sym c.in-Some.ensures.value)) in
    ap Some (c.in_ok-from_slice.ensures.items ∙ c.deref.ensures.value) ∙ sym held

pub returns-in_err-bytes-clause-learned : goal.returns-in_err-bytes-clause-learned
returns-in_err-bytes-clause-learned g c =
    let none = ap (option_map (λ v. v.items)) (sym c.in_default.ensures.value) in
    learns_no_result {after = g.S.BlobSource.tells c.result.new.self} c.requires (calls_result c.result.ensures.called).asked (λ a. refl) c.result.ensures.called.asked none (without_exit _ _ c.from_residual-in_err-bytes.ensures.1)

pub returns-in_default-2-clause-learned : goal.returns-in_default-2-clause-learned
returns-in_default-2-clause-learned g c =
    let none = ap (option_map (λ v. v.items)) (sym c.in_default.ensures.value) in
    learns_no_result {after = g.S.BlobSource.tells c.result.new.self} c.requires (calls_result c.result.ensures.called).asked (λ a. refl) c.result.ensures.called.asked none tt

pub returns-in_err-copy-clause-learned : goal.returns-in_err-copy-clause-learned
returns-in_err-copy-clause-learned g c =
    let none = ap (option_map (λ v. v.items)) (sym c.in_default.ensures.value) in
    learns_no_result {after = g.S.BlobSource.tells c.result.new.self} c.requires (calls_result c.result.ensures.called).asked (λ a. refl) c.result.ensures.called.asked none (without_exit _ _ c.from_residual-in_err-copy.ensures.1)

pub returns-in_err-insert-clause-learned : goal.returns-in_err-insert-clause-learned
returns-in_err-insert-clause-learned g c =
    let none = ap (option_map (λ v. v.items)) (sym c.in_default.ensures.value) in
    learns_no_result {after = g.S.BlobSource.tells c.result.new.self} c.requires (calls_result c.result.ensures.called).asked (same_results c.args.self.now (record { blobs = c.args.self.now.blobs; results = c.insert.new.self }) refl c.in_err-insert.ensures.err) c.result.ensures.called.asked none
    (without_exit _ _ c.from_residual-in_err-insert.ensures.1)

pub returns-clause-learned : goal.returns-clause-learned
returns-clause-learned g c =
    let none = ap (option_map (λ v. v.items)) (sym c.in_default.ensures.value) in
    let updates = c.in_ok-insert.ensures.updates in
    let results = (g.S.BlobSource.tells c.result.new.self).results in
    let held = subst (λ o. bytes_of o ≡ results c.args.digest.now) c.in-Some-2.is c.in_ok-bytes.ensures.told in
    learns_result {after = g.S.BlobSource.tells c.result.new.self} c.requires (calls_result c.result.ensures.called).asked c.result.ensures.called.asked none (sym held)
    (knows_result c.args.self.now (record { blobs = c.args.self.now.blobs; results = c.insert.new.self }) c.args.digest.now c.in-Some-2.bytes updates.1 updates.2 refl)
