use Rattle.std.proofs.Common.{◌≡◌, ◌+◌, ◌<◌, ◌^◌, arith, ap, ◌∙◌, bytes_eq}
use Rattle.eviction.specs.Pinning.{pins_of}
use Rattle.blob_store.proofs.OneDigest.{one_hash, one_can_pin}
use Rattle.test_messages.proofs.blobs.pin.Goals as goal

pub pin_all-requires-clause-distinct : goal.pin_all-requires-clause-distinct
pin_all-requires-clause-distinct g c = one_hash c.args.digest

pub pin_all-requires-clause-counts : goal.pin_all-requires-clause-counts
pin_all-requires-clause-counts g c =
    let es = c.args.store.now.entries in
    let count : c.pins.result ≡ pins_of bytes_eq es c.args.digest.hash = c.pins.ensures ∙ ap (pins_of bytes_eq es) c.hash.ensures.value in
    let few : pins_of bytes_eq es c.args.digest.hash + 1 < 2 ^ 64 = omega arith in
    one_can_pin es c.args.digest few
