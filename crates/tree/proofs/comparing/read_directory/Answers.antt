-- The Directory is read where its digest first stands, and else fetched.
use Rattle.std.proofs.Common.{ap, sym, ◌∙◌, subst, inl, inr}
use Rattle.blob_source.specs.Told.{TellsDirectory, FailsDirectory}
use Rattle.tree.specs.Comparing.{encodings_in}
use Rattle.tree.specs.Difference.{IsFirstOf, ReadsDirectory, FailsToRead}
use Rattle.tree.specs.TreeError.{Explains}
use Rattle.tree.proofs.OwnDirectories.{none_of, first_of, encoding_at, ok_more, err_more, explains_more, no_refusal}
use Rattle.tree.proofs.Learning.{learns_more, learns_none}
use Rattle.tree.proofs.Leaving.{leaves_none, leaves_at}
use Rattle.tree.proofs.comparing.read_directory.Goals as goal

pub returns-in_default-clause-told : goal.returns-in_default-clause-told
returns-in_default-clause-told g c =
    let none = none_of (encodings_in c.args.own.now) c.args.own.now.digests.now c.args.digest.now c.requires.own.digests c.in_default.ensures in
    ok_more (TellsDirectory _ c.args.digest.now) (ReadsDirectory (encodings_in c.args.own.now) _ c.args.digest.now) c.message.result (λ m h. inr (none, h)) c.message.ensures.told

pub returns-in_default-clause-faulty : goal.returns-in_default-clause-faulty
returns-in_default-clause-faulty g c =
    let none = none_of (encodings_in c.args.own.now) c.args.own.now.digests.now c.args.digest.now c.requires.own.digests c.in_default.ensures in
    let B = (g.S.BlobSource.tells c.message.new.source).blobs in
    let fails = FailsDirectory B c.args.digest.now in
    let own_fails = FailsToRead (encodings_in c.args.own.now) B c.args.digest.now in
    err_more (λ e. Explains fails e) (λ e. Explains own_fails e) c.message.result (λ e h. explains_more fails own_fails e (λ f k. (none, k)) h) c.message.ensures.faulty

pub unreachable-requires : goal.unreachable-requires
unreachable-requires g c =
    let own = c.args.own.now in
    let valid = encoding_at own.encodings.now own.digests.now c.in-Some.place c.index-own-place.result c.requires.own.digests c.in-Some.ensures.0 c.requires.own.valid c.index-own-place.is in
    let bytes = c.deref.ensures.value ∙ ap (λ v. v.items) (sym c.index-own-place.is) ∙ valid.2 in
    no_refusal c.in-Err.error valid.0 c.in_default-error.not-Memory ((c.in-Err.ensures {u = tt}).only valid.0 valid.1 bytes)

pub returns-in-Ok-clause-told : goal.returns-in-Ok-clause-told
returns-in-Ok-clause-told g c =
    let own = c.args.own.now in
    let found = (c.in-Ok.ensures {u = tt}).found in
    let bytes = ap (λ v. v.items) c.index-own-place.is ∙ sym c.deref.ensures.value ∙ found.1 in
    let first = first_of own.encodings.now own.digests.now c.args.digest.now c.in-Some.place c.index-own-place.result c.requires.own.digests c.in-Some.ensures c.index-own-place.is in
    inl (found.0, subst (IsFirstOf (encodings_in own) c.args.digest.now) bytes first)

pub returns-in_default-clause-unasked : goal.returns-in_default-clause-unasked
returns-in_default-clause-unasked g c =
    let none = none_of (encodings_in c.args.own.now) c.args.own.now.digests.now c.args.digest.now c.requires.own.digests c.in_default.ensures in
    leaves_at none c.message.ensures.learned.only

pub returns-in-Ok-clause-unasked : goal.returns-in-Ok-clause-unasked
returns-in-Ok-clause-unasked g c = leaves_none

pub returns-in-Memory-clause-unasked : goal.returns-in-Memory-clause-unasked
returns-in-Memory-clause-unasked g c = leaves_none

pub returns-in_default-clause-learned : goal.returns-in_default-clause-learned
returns-in_default-clause-learned g c =
    let none = none_of (encodings_in c.args.own.now) c.args.own.now.digests.now c.args.digest.now c.requires.own.digests c.in_default.ensures in
    learns_more (λ a h. (none, h)) (λ n. n) c.message.ensures.learned

pub returns-in-Ok-clause-learned : goal.returns-in-Ok-clause-learned
returns-in-Ok-clause-learned g c = learns_none c.requires.known

pub returns-in-Memory-clause-learned : goal.returns-in-Memory-clause-learned
returns-in-Memory-clause-learned g c = learns_none c.requires.known
