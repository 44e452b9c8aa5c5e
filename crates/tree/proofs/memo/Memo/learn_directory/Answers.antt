-- The Directory is kept as such, or it is kept then.
use Rattle.std.proofs.Common.{ap, refl}
use Rattle.std.specs.Prelude.{option_map}
use Rattle.messages.specs.Directory.{directory_bytes}
use Rattle.tree.specs.Memo.{kept_bytes}
use Rattle.tree.proofs.Learning.{refused_exit}
use Rattle.tree.proofs.Memos.{learns_blob, learns_no_blob}
use Rattle.tree.proofs.memo.Memo.learn_directory.Goals as goal

pub returns-then-has_directory-clause-told : goal.returns-then-has_directory-clause-told
returns-then-has_directory-clause-told g c =
    let there = c.has_directory.ensures c.if-has_directory.true in
    (there.0, record { valid = there.1; blob = c.requires.blobs c.args.digest.now (directory_bytes there.0) (ap (option_map kept_bytes) there.2) }, there.2)

pub returns-in_err-directory-clause-learned : goal.returns-in_err-directory-clause-learned
returns-in_err-directory-clause-learned g c =
    learns_no_blob c.requires c.directory.ensures.called.asked (λ a. refl) c.directory.ensures.only c.directory.ensures.unasked c.directory.ensures.asked (refused_exit _ _ c.from_residual.ensures.1)

pub returns-in_err-keep-clause-learned : goal.returns-in_err-keep-clause-learned
returns-in_err-keep-clause-learned g c =
    learns_no_blob c.requires c.directory.ensures.called.asked c.in_err-keep.ensures.err c.directory.ensures.only c.directory.ensures.unasked c.directory.ensures.asked (refused_exit _ _ c.from_residual-in_err-keep.ensures.1)

pub returns-clause-learned : goal.returns-clause-learned
returns-clause-learned g c =
    learns_blob c.requires c.directory.ensures.called.asked c.directory.ensures.only c.directory.ensures.unasked c.directory.ensures.asked c.in_ok-directory.ensures.told.blob c.in_ok-keep.ensures.ok
