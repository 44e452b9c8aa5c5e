-- The table has the blob under its digest, and under the others what it had.
use Rattle.std.proofs.Common.{◌≡◌, refl, rules, subst, inr}
use Rattle.std.specs.Prelude.{◌⊎◌, Some}
use Rattle.blob_source.specs.Memory.{told_by}
use Rattle.blob_source.specs.Sink.{HasRight, PutsAt}
use Rattle.blob_source.proofs.Asking.{ok_no_error}
use Rattle.blob_source.proofs.Puts.{told_put, puts_inserted, right_put}
use Rattle.blob_source.proofs.memory.MemorySourceBlobSink.put_blob.Goals as goal

pub returns-clause-held : goal.returns-clause-held
returns-clause-held g c =
    let old = c.args.self.now.blobs in
    let new = c.insert.new.self in
    let bytes = c.args.bytes.now in
    let updates = c.in_ok-insert.ensures.updates in
    subst (λ d. (HasRight (told_by old) d × (told_by new d ≡ told_by old d)) ⊎ ((HasRight (told_by old) d → ⊥) × (told_by new d ≡ Some bytes))) c.of-digest.ensures
    (inr (λ right. (let is = c.if-has_blob.ensures.1 right in cc), told_put old new c.of-digest.result c.in_ok-from_slice.ensures.items updates.1))

pub returns-clause-called : goal.returns-clause-called
returns-clause-called g c =
    let old = c.args.self.now.blobs in
    let new = c.insert.new.self in
    let updates = c.in_ok-insert.ensures.updates in
    let puts : PutsAt c.of-digest.result c.args.bytes.now (told_by old) (told_by new) = puts_inserted old new c.of-digest.result c.in_ok-from_slice.ensures.items updates.1 updates.2 in
    let none : HasRight (told_by old) c.of-digest.result → ⊥ = λ right. (let is = c.if-has_blob.ensures.1 right in cc) in
    record {
      asked = record {
        blobs = subst (λ d. PutsAt d c.args.bytes.now (told_by old) (told_by new)) c.of-digest.ensures puts;
        right = right_put none puts;
        results = refl;
        puts = refl;
        counts = search rules;
      };
      failed = λ f. absurd (ok_no_error f);
      unfailed = λ _. refl;
    }
