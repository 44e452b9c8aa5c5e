use Rattle.std.proofs.Common.{subst, sym}
use Rattle.std.specs.Prelude.{OnOk}
use Rattle.report.specs.Line.{HasNoNewline, cause_text}
use Rattle.report.proofs.cause.cause_text.Goals as goal

pub returns-in-OriginMissing-clause-unbroken : goal.returns-in-OriginMissing-clause-unbroken
returns-in-OriginMissing-clause-unbroken g c =
    subst (λ cause. OnOk c.path_named.result (HasNoNewline (cause_text cause)))
    (sym c.in-OriginMissing.is) c.path_named.ensures.unbroken

pub returns-in-InputConflict-clause-unbroken : goal.returns-in-InputConflict-clause-unbroken
returns-in-InputConflict-clause-unbroken g c =
    subst (λ cause. OnOk c.path_named-in-InputConflict.result (HasNoNewline (cause_text cause)))
    (sym c.in-InputConflict.is) c.path_named-in-InputConflict.ensures.unbroken

pub returns-in-InputUnexplained-clause-unbroken : goal.returns-in-InputUnexplained-clause-unbroken
returns-in-InputUnexplained-clause-unbroken g c =
    subst (λ cause. OnOk c.path_named-in-InputUnexplained.result (HasNoNewline (cause_text cause)))
    (sym c.in-InputUnexplained.is) c.path_named-in-InputUnexplained.ensures.unbroken

pub returns-in-InputAbsent-clause-unbroken : goal.returns-in-InputAbsent-clause-unbroken
returns-in-InputAbsent-clause-unbroken g c =
    subst (λ cause. OnOk c.path_named-in-InputAbsent.result (HasNoNewline (cause_text cause)))
    (sym c.in-InputAbsent.is) c.path_named-in-InputAbsent.ensures.unbroken

pub returns-in-InputDiffers-clause-unbroken : goal.returns-in-InputDiffers-clause-unbroken
returns-in-InputDiffers-clause-unbroken g c =
    subst (λ cause. OnOk c.path_named-in-InputDiffers.result (HasNoNewline (cause_text cause)))
    (sym c.in-InputDiffers.is) c.path_named-in-InputDiffers.ensures.unbroken

pub returns-in-OutputUnlisted-clause-unbroken : goal.returns-in-OutputUnlisted-clause-unbroken
returns-in-OutputUnlisted-clause-unbroken g c =
    subst (λ cause. OnOk c.path_named-in-OutputUnlisted.result (HasNoNewline (cause_text cause)))
    (sym c.in-OutputUnlisted.is) c.path_named-in-OutputUnlisted.ensures.unbroken
