use Rattle.std.proofs.Common.{subst}
use Rattle.wire.specs.Record.{records_of}
use Rattle.canonical.specs.Checking.{ChecksUnlessMemory}
use Rattle.canonical.specs.View.{slices}
use Rattle.canonical.proofs.KnownFields.{is_found, known_only}
use Rattle.canonical.proofs.KnownFronts.{unread_known, broken_known}
use Rattle.canonical.proofs.known.check_any.Goals as goal

pub returns-clause-found : goal.returns-clause-found
returns-clause-found g c = λ fits. is_found c.args.shape.now c.args.skipped.now (slices c.args.texts.now) c.any_checked.result fits c.any_checked.ensures.exact

pub returns-clause-only : goal.returns-clause-only
returns-clause-only g c = λ rs fits read. subst (λ f. ChecksUnlessMemory (λ v. records_of v.items) c.any_checked.result f)
    (known_only c.args.shape.now c.args.skipped.now (slices c.args.texts.now) rs fits read.0 read.1) c.any_checked.ensures.exact

pub returns-clause-unread : goal.returns-clause-unread
returns-clause-unread g c = λ rest e fits goes_on some fault. subst (λ f. ChecksUnlessMemory (λ v. records_of v.items) c.any_checked.result f)
    (unread_known c.args.shape.now c.args.skipped.now (slices c.args.texts.now) rest e fits goes_on some fault) c.any_checked.ensures.exact

pub returns-clause-broken : goal.returns-clause-broken
returns-clause-broken g c = λ rest others r e fits goes_on here broken. subst (λ f. ChecksUnlessMemory (λ v. records_of v.items) c.any_checked.result f)
    (broken_known c.args.shape.now c.args.skipped.now (slices c.args.texts.now) rest others r e fits goes_on here broken) c.any_checked.ensures.exact
