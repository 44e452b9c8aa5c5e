-- The text of a digest begins with its hash and ends with its size, and no text does so in two ways.
use Rattle.std.proofs.Common.{◌≡◌, ap, sym, ◌∙◌, is_some, refl}
use Rattle.std.specs.Result.{result_ok}
use Rattle.std.specs.Prelude.{decimal}
use Rattle.blob_digest.specs.Text.{BeginsWithHash}
use Rattle.blob_digest.proofs.HexTexts.{begins-encode, split_once}
use Rattle.blob_digest.proofs.digest.Digest.read_text.Goals as goal

pub returns-in_err-hash-clause-only : goal.returns-in_err-hash-clause-only
returns-in_err-hash-clause-only c = λ digest h e.
    let begins : BeginsWithHash c.args.text.now = rw e (begins-encode digest.hash (decimal digest.size) h.hash) in
    let ok = c.ok_or.ensures.variant ∙ c.split_hash.ensures.some.1 begins in
    let none = rw (c.in_err-hash.was {u = tt}) at ok in
    cc none

pub returns-in_err-size-clause-only : goal.returns-in_err-size-clause-only
returns-in_err-size-clause-only c = λ digest h e.
    let split = c.ok_or.ensures.ok_part ∙ ap result_ok (c.in_ok-hash.was {u = tt}) in
    let found = rw split at c.split_hash.ensures.found in
    let same = split_once c.in_ok-hash.hash digest.hash c.in_ok-hash.rest.now (decimal digest.size) found.0 h.hash (sym found.1 ∙ e) in
    let some = c.read_size.ensures.only digest.size h.size same.1 in
    let ok = c.ok_or-2.ensures.variant ∙ ap is_some some in
    let none = rw (c.in_err-size.was {u = tt}) at ok in
    cc none

pub returns-clause-only : goal.returns-clause-only
returns-clause-only c = λ digest h e.
    let split = c.ok_or.ensures.ok_part ∙ ap result_ok (c.in_ok-hash.was {u = tt}) in
    let found = rw split at c.split_hash.ensures.found in
    let same = split_once c.in_ok-hash.hash digest.hash c.in_ok-hash.rest.now (decimal digest.size) found.0 h.hash (sym found.1 ∙ e) in
    let some = c.read_size.ensures.only digest.size h.size same.1 in
    let read = sym (c.ok_or-2.ensures.ok_part ∙ ap result_ok (c.in_ok-size.was {u = tt})) ∙ some in
    let size : c.in_ok-size.size ≡ digest.size = cc read in
    rw (c.new.ensures, same.0, size) refl
