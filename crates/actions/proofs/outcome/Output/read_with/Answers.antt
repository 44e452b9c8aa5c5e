use Rattle.std.proofs.Common.{subst, Bor}
use Rattle.action_messages.specs.OutputDirectory.{OutputDirectoryValue}
use Rattle.tree.specs.Memo.{LooksAtBlob}
use Rattle.blob_source.proofs.Asking.{ok_no_error}
use Rattle.blob_source.proofs.Calling.{called_no}
use Rattle.tree.proofs.Learning.{learns_more, learns_refused, refused_exit}
use Rattle.tree.proofs.Leaving.{others_more}
use Rattle.actions.proofs.outcome.Output.read_with.Goals as goal

pub returns-in_ok-message-in-Directory-clause-called : goal.returns-in_ok-message-in-Directory-clause-called
returns-in_ok-message-in-Directory-clause-called g c = called_no ok_no_error ok_no_error c.in_ok-message-in-Directory.ensures.called

pub returns-in_err-message-in-Directory-clause-learned : goal.returns-in_err-message-in-Directory-clause-learned
returns-in_err-message-in-Directory-clause-learned g c =
    learns_refused (λ a h. rw c.in-Directory.is (subst (λ (d : Bor OutputDirectoryValue). LooksAtBlob d.now.tree a) c.directory.view_is h)) (refused_exit _ _ c.from_residual.ensures.1) c.in_err-message-in-Directory.ensures.learned

pub returns-in_ok-message-in-Directory-clause-learned : goal.returns-in_ok-message-in-Directory-clause-learned
returns-in_ok-message-in-Directory-clause-learned g c =
    learns_more (λ a h. rw c.in-Directory.is (subst (λ (d : Bor OutputDirectoryValue). LooksAtBlob d.now.tree a) c.directory.view_is h)) (λ n. n) c.in_ok-message-in-Directory.ensures.learned

pub returns-in_ok-message-in-Directory-clause-only : goal.returns-in_ok-message-in-Directory-clause-only
returns-in_ok-message-in-Directory-clause-only g c =
    others_more (λ a h. rw c.in-Directory.is (subst (λ (d : Bor OutputDirectoryValue). LooksAtBlob d.now.tree a) c.directory.view_is h)) c.message.ensures.learned.only

pub returns-in_err-message-in-Directory-clause-only : goal.returns-in_err-message-in-Directory-clause-only
returns-in_err-message-in-Directory-clause-only g c =
    others_more (λ a h. rw c.in-Directory.is (subst (λ (d : Bor OutputDirectoryValue). LooksAtBlob d.now.tree a) c.directory.view_is h)) c.message.ensures.learned.only
