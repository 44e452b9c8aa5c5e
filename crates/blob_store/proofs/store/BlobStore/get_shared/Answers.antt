use Rattle.std.proofs.Common.{List, ℕ, IsSome, Result, Ok, Err, OnErr, sym, ap, ◌∙◌, subst, bytes_eq}
use Rattle.eviction.specs.Kept.{Kept, bytes_under}
use Rattle.blob_store.specs.Blobs.{HasHash}
use Rattle.blob_store.proofs.BlobLemmas.{held_has_hash, held_found, touched_blobs}
use Rattle.blob_store.proofs.store.BlobStore.get_shared.Goals as goal

pub returns-clause-value : goal.returns-clause-value
returns-clause-value g c =
    let off = ap (λ n. bytes_eq n c.args.hash.now) (sym c.self.invariant.2) ∙ sym c.eq.ensures ∙ c.if-eq.false in
    c.in_ok-found.ensures.value ∙ ap (λ (t : Kept (List ℕ)). bytes_under bytes_eq t.entries c.args.hash.now) c.self.view_is ∙ held_found c.args.self.now.entries c.args.hash.now off

pub returns-clause-hash : goal.returns-clause-hash
returns-clause-hash g c =
    let off = ap (λ n. bytes_eq n c.args.hash.now) (sym c.self.invariant.2) ∙ sym c.eq.ensures ∙ c.if-eq.false in
    subst (λ o. HasHash o c.args.hash.now) (sym (c.in_ok-found.ensures.value ∙ held_found c.self.inside.blobs.entries c.args.hash.now off)) (held_has_hash c.self.inside.blobs.entries c.args.hash.now c.self.invariant.0)

on_err : {X E : Type 0} {P : Type 0} (r : Result X E) → P → OnErr r P
on_err (Ok x) p = tt
on_err (Err e) p = p

pub returns-in_err-found-clause-memory : goal.returns-in_err-found-clause-memory
returns-in_err-found-clause-memory g c =
    let off = ap (λ n. bytes_eq n c.args.hash.now) (sym c.self.invariant.2) ∙ sym c.eq.ensures ∙ c.if-eq.false in
    on_err c.from_residual-in_err-found.result (subst IsSome (ap (λ (t : Kept (List ℕ)). bytes_under bytes_eq t.entries c.args.hash.now) c.self.view_is ∙ held_found c.args.self.now.entries c.args.hash.now off) c.in_err-found.ensures.err)

pub invariant_of-self : goal.invariant_of-self
invariant_of-self g c = rw c.touch-held.ensures.moves (touched_blobs c.args.hash.now c.self.inside.blobs.entries c.self.invariant.0, c.self.invariant.1, c.self.invariant.2)
