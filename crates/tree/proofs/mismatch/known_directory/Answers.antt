-- The Directory is decoded where its digest first stands.
use Rattle.std.proofs.Common.{ap, sym, ◌∙◌, subst}
use Rattle.messages.specs.Directory.{directory_bytes}
use Rattle.tree.specs.Comparing.{encodings_in}
use Rattle.tree.specs.Difference.{IsFirstOf}
use Rattle.tree.proofs.DifferenceOnce.{first_once, first_or_none}
use Rattle.tree.proofs.OwnDirectories.{none_of, first_of, no_refusal}
use Rattle.tree.proofs.mismatch.known_directory.Goals as goal

pub returns-in_default : goal.returns-in_default
returns-in_default g c m h =
    first_or_none (encodings_in c.args.known.now) c.args.digest.now (directory_bytes m) h.1 (none_of (encodings_in c.args.known.now) c.args.known.now.digests.now c.args.digest.now c.requires c.in_default.ensures)

pub returns-in-Ok : goal.returns-in-Ok
returns-in-Ok g c =
    let own = c.args.known.now in
    let found = (c.in-Ok.ensures {u = tt}).found in
    let bytes = ap (λ v. v.items) c.index-known-place.is ∙ sym c.deref.ensures.value ∙ found.1 in
    let first = first_of own.encodings.now own.digests.now c.args.digest.now c.in-Some.place c.index-known-place.result c.requires c.in-Some.ensures c.index-known-place.is in
    (found.0, subst (IsFirstOf (encodings_in own) c.args.digest.now) bytes first)

pub returns-in_default-error : goal.returns-in_default-error
returns-in_default-error g c m h =
    let own = c.args.known.now in
    let first = first_of own.encodings.now own.digests.now c.args.digest.now c.in-Some.place c.index-known-place.result c.requires c.in-Some.ensures c.index-known-place.is in
    let bytes = c.deref.ensures.value ∙ ap (λ v. v.items) (sym c.index-known-place.is) ∙ first_once (encodings_in own) c.args.digest.now _ _ first h.1 in
    no_refusal c.in-Err.error m c.in_default-error.not-Memory ((c.in-Err.ensures {u = tt}).only m h.0 bytes)
