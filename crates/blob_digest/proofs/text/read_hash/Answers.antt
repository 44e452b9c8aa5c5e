use Rattle.std.proofs.Common.{arith, ◌≡◌, ◌+◌, ◌*◌, Some, refl, sym, ap, ◌∙◌}
use Rattle.hex.specs.Hex.{encode_lower}
use Rattle.blob_digest.specs.DigestValue.{IsHash}
use Rattle.blob_digest.proofs.HexTexts.{none_spelled, spelled_on, spelled_all, one_hash, hash_text-encode, digit_at}
use Rattle.blob_digest.proofs.text.read_hash.Goals as goal

pub returns-then-text-ne64-clause-only : goal.returns-then-text-ne64-clause-only
returns-then-text-ne64-clause-only c hash is e =
    let text = hash_text-encode hash is in
    let len = text.len in
    grind (arith, e, len)

pub loop-place-init : goal.loop-place-init
loop-place-init c = none_spelled c.args.text.now

pub returns-in_err-hash-clause-only : goal.returns-in_err-hash-clause-only
returns-in_err-hash-clause-only c hash is e =
    let t = rw (← e) at (hash_text-encode hash is) in
    let room = c.loop-place-test.true in
    let n = c.loop-place.place in
    let high = digit_at c.args.text.now (2 * n) (omega (arith, room)) t in
    let low = digit_at c.args.text.now (2 * n + 1) (omega (arith, room)) t in
    let some = c.in_err-hash.ensures.some in
    cc (some.1 (high, low))

pub loop-place-preserved : goal.loop-place-preserved
loop-place-preserved c =
    let room = c.loop-place-test.true in
    let len = c.if-text-ne64.false in
    let found = c.in_ok-hash.ensures.found in
    spelled_on c.loop-place.place c.in_ok-hash.field-0 c.loop-place.hash c.args.text.now (omega (arith, room)) len found.0 found.1 c.loop-place.invariant

all_read : (c : goal.After-loop-place) → IsHash c.loop-place.hash × (c.args.text.now ≡ encode_lower c.loop-place.hash)
all_read c =
    let most = c.loop-place.auto.place-end in
    let least = c.loop-place-test.false in
    spelled_all c.loop-place.place c.loop-place.hash c.args.text.now (omega (arith, most, least)) c.if-text-ne64.false c.loop-place.invariant

pub returns-clause-some : goal.returns-clause-some
returns-clause-some c =
    let read = all_read c in
    (λ _. rw (← read.1) at (hash_text-encode c.loop-place.hash read.0), λ _. refl)

pub returns-clause-found : goal.returns-clause-found
returns-clause-found c = all_read c

pub returns-clause-only : goal.returns-clause-only
returns-clause-only c hash is e =
    let read = all_read c in
    ap Some (one_hash c.loop-place.hash hash read.0 is (sym read.1 ∙ e))
