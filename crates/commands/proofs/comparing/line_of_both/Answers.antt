use Rattle.std.proofs.Common.{◌≡◌, ◌∙◌, true, false, refl, sym}
use Rattle.commands.specs.Compared.IsToldOf.{differ, same}
use Rattle.commands.proofs.comparing.line_of_both.Goals as goal

pub returns-then-is_same-clause-told : goal.returns-then-is_same-clause-told
returns-then-is_same-clause-told c =
    same (c.is_yes.ensures.0 c.if-not-is_yes.false) (c.is_yes-2.ensures.0 c.if-not-is_yes-2.false) c.in_ok-compared.compared (c.in_ok-compared.ensures {u = tt}) (c.is_same.ensures.0 c.if-is_same.true) c.in_ok-line.ensures.value refl

pub returns-clause-told : goal.returns-clause-told
returns-clause-told c =
    differ (c.is_yes.ensures.0 c.if-not-is_yes.false) (c.is_yes-2.ensures.0 c.if-not-is_yes-2.false) c.in_ok-compared.compared (c.in_ok-compared.ensures {u = tt})
    (λ says. let yes = c.is_same.ensures.1 says in let no = c.if-is_same.false in let both : true ≡ false = sym yes ∙ no in cc) c.in_ok-line.ensures.value refl
