use Rattle.std.proofs.Common.{◌∙◌, IfOk, subst, string_bytes, sym}
use Rattle.commands.specs.ErrorText.{IsCauseText, IsWordsOf}
use Rattle.commands.specs.declared.process_fault.ProcessCause.{ProcessCause}
use Rattle.commands.proofs.error_text.cause_text.Goals as goal

pub returns-in_ok-head-in-Unwaited : goal.returns-in_ok-head-in-Unwaited
returns-in_ok-head-in-Unwaited c =
    subst (λ (cause : ProcessCause). IfOk c.fault_of-in-Unwaited.result (λ text. IsCauseText c.args.quoted.now cause (string_bytes text))) (sym c.in-Unwaited.is)
    (subst (λ head. IfOk c.fault_of-in-Unwaited.result (λ text. IsWordsOf head (string_bytes text)))
    (c.as_str-in-Unwaited.ensures.value ∙ c.in_ok-head-in-Unwaited.ensures.ok) c.fault_of-in-Unwaited.ensures)

pub returns-in_ok-head-in-Unread : goal.returns-in_ok-head-in-Unread
returns-in_ok-head-in-Unread c =
    subst (λ (cause : ProcessCause). IfOk c.fault_of-in-Unread.result (λ text. IsCauseText c.args.quoted.now cause (string_bytes text))) (sym c.in-Unread.is)
    (subst (λ head. IfOk c.fault_of-in-Unread.result (λ text. IsWordsOf head (string_bytes text)))
    (c.as_str-in-Unread.ensures.value ∙ c.in_ok-head-in-Unread.ensures.ok) c.fault_of-in-Unread.ensures)
