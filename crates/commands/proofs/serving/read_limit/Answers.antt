use Rattle.std.proofs.Common.{ℕ, List, inl, inr, subst, sym}
use Rattle.std.specs.Prelude.{codes}
use Rattle.commands.specs.ByteCounts.{SpellsBytes, SpellsBytesUpTo}
use Rattle.commands.specs.Faults.{IsInvalidValue}
use Rattle.commands.proofs.serving.read_limit.Goals as goal

pub returns-in-Some-clause-limit : goal.returns-in-Some-clause-limit
returns-in-Some-clause-limit c = subst (λ (t : List ℕ). SpellsBytes t c.in-Some.limit) c.text_of-text.ensures c.in-Some.ensures.some.0

pub returns-in-Some-clause-checked : goal.returns-in-Some-clause-checked
returns-in-Some-clause-checked c =
    ((c.in-Some.limit, subst (λ (t : List ℕ). SpellsBytes t c.in-Some.limit) c.text_of-text.ensures c.in-Some.ensures.some.0, c.in-Some.ensures.some.1), tt)

pub returns-in_ok-invalid_value-in-None-clause-checked : goal.returns-in_ok-invalid_value-in-None-clause-checked
returns-in_ok-invalid_value-in-None-clause-checked c =
    let expected = codes "a number of bytes up to 9223372036854775807, such as 1048576, 512M or 8G" in
    inr (inl (
      (λ valid. c.in-None.ensures.none (subst (SpellsBytesUpTo 9223372036854775807) (sym c.text_of-text.ensures) valid)),
      subst (λ (t : List ℕ). IsInvalidValue c.args.option.now expected t c.in_ok-invalid_value-in-None.field-0) c.text_of-text.ensures c.in_ok-invalid_value-in-None.ensures,
    ))
