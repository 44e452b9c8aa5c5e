use Rattle.std.proofs.Common.{◌≡◌, ◌<◌, length, get_or, List, ℕ, ap, subst, ◌∙◌}
use Rattle.blob_digest.specs.Digest.{DigestValue}
use Rattle.plan.specs.Record.{RecordValue}
use Rattle.plan.proofs.Entries.{next_entry}
use Rattle.plan.proofs.record.Record.write.Goals as goal

pub loop-number-preserved : goal.loop-number-preserved
loop-number-preserved g c =
    let names : c.deref-name-items.result.now ≡ c.args.self.now.names = c.deref-name-items.ensures.value ∙ ap (λ (r : RecordValue). r.names) c.self.view_is in
    let lt : c.loop-number.number < length c.args.self.now.names = subst (λ (l : List (List ℕ)). c.loop-number.number < length l) names c.loop-number-test.true in
    let at : c.name-item.result ≡ get_or c.args.self.now.names c.loop-number.number c.name-item.result = c.name-item.is ∙ ap (λ (l : List (List ℕ)). get_or l c.loop-number.number c.name-item.result) names in
    let same : length c.args.self.now.digests ≡ length c.args.self.now.names = subst (λ (r : RecordValue). length r.digests ≡ length r.names) c.self.view_is c.self.invariant in
    let digests = ap (λ (r : RecordValue). r.digests) c.self.view_is in
    let digest : c.index.result.now ≡ get_or c.args.self.now.digests c.loop-number.number c.index.result.now = c.index.ensures ∙ ap (λ (l : List DigestValue). get_or l c.loop-number.number c.index.result.now) digests in
    next_entry c.args.self.now.names c.args.self.now.digests c.loop-number.number c.name-item.result c.index.result.now c.loop-number.text.items c.write_step_line.new.text.items lt same at digest c.loop-number.invariant (c.in_ok-write_step_line.ensures {u = tt})
