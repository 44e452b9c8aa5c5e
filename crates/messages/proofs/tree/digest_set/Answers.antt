use Rattle.std.proofs.Common.{◌≡◌, ◌+◌, ◌∷◌, ◌||◌, drop, sym, ap, ◌∙◌}
use Rattle.std.proofs.lemmas.List.{drop_more}
use Rattle.std.specs.BTreeSet.{contains}
use Rattle.blob_digest.specs.Digest.{digest_cmp}
use Rattle.messages.specs.Tree.{is_among}
use Rattle.messages.proofs.DigestSets.{set_step}
use Rattle.messages.proofs.tree.digest_set.Goals as goal

pub loop-digest-preserved : goal.loop-digest-preserved
loop-digest-preserved g c =
    let ds = c.args.digests.now in
    let i = c.loop-digest.digest-index in
    let key = c.digest-item.result in
    let split : drop i ds ≡ key ∷ drop (i + 1) ds = drop_more ds i key c.loop-digest-test.true ∙ ap (λ x. x ∷ drop (i + 1) ds) (sym c.digest-item.is) in
    λ d.
    set_step key d (drop (i + 1) ds) (contains digest_cmp c.loop-digest.set d) (contains digest_cmp c.insert.new.self d) (is_among ds d) (c.in_ok-insert.ensures.updates.0 d)
    (ap (λ l. contains digest_cmp c.loop-digest.set d || is_among l d) (sym split) ∙ c.loop-digest.invariant d)
