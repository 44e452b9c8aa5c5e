use Rattle.std.proofs.Common.{inr, subst}
use Rattle.commands.specs.Evidence.{HasLine}
use Rattle.commands.proofs.evidence_options.digest_in_file.Goals as goal

pub returns-clause-fault : goal.returns-clause-fault
returns-clause-fault g c =
    inr (inr (c.in_ok-text.text.items, c.line_of-line.result.now, c.in_ok-text.ensures.read, subst (λ t. HasLine t c.line_of-line.result.now) c.deref.ensures.value c.line_of-line.ensures, c.in_ok-line_error-in-Err.ensures))
