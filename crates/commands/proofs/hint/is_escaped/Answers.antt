use Rattle.std.proofs.Common.{◌≡◌, ◌==◌, ◌∙◌, ◌+◌, arith, drop, false, get_or, rules, subst, sym, tests, true}
use Rattle.plan.specs.Escape.{is_plain}
use Rattle.commands.specs.Hints.{is_digit, is_escaped}
use Rattle.commands.proofs.Hints.{after_digit, after_percent, after_plain}
use Rattle.commands.proofs.hint.is_escaped.Goals.{then-digits-gt0+else-not-is_digit, else-digits-gt0+then-byte-eq37, else-digits-gt0+else-byte-eq37+else-not-is_plain}
use Rattle.commands.proofs.hint.is_escaped.Goals as goal

pub loop-byte-preserved : goal.loop-byte-preserved
loop-byte-preserved c =
    let word = c.args.word.now in
    let i = c.loop-byte.byte-index in
    let digits = c.loop-byte.digits in
    let so_far = c.loop-byte.invariant in
    let less = c.loop-byte-test.true in
    elim c.if-digits-gt0.branch [
      | then-digits-gt0+else-not-is_digit w ↦
          let some = w.if-digits-gt0.true in
          let next = w.digits-is in
          let digit : is_digit (get_or word i 0) ≡ true = search rules in
          after_digit word i digits so_far less c.if-digits-gt0.digits (omega (arith, some, next)) digit
      | else-digits-gt0+then-byte-eq37 w ↦
          let none = w.if-digits-gt0.false in
          let percent : (get_or word i 0 == 37) ≡ true = search (rules, tests) in
          subst (λ n. is_escaped 0 word ≡ is_escaped n (drop (i + 1) word)) (sym w.digits-is) (after_percent word i digits so_far less (omega (arith, none)) percent)
      | else-digits-gt0+else-byte-eq37+else-not-is_plain w ↦
          let none = w.if-digits-gt0.false in
          let zero : digits ≡ 0 = omega (arith, none) in
          let other : (get_or word i 0 == 37) ≡ false = search (rules, tests) in
          let plain : is_plain (get_or word i 0) ≡ true = search rules in
          subst (λ n. is_escaped 0 word ≡ is_escaped n (drop (i + 1) word)) (sym zero ∙ sym w.digits-is) (after_plain word i digits so_far less zero other plain)
    ]
