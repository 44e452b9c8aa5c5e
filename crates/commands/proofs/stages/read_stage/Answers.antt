-- A text is that of the one number that is written so.
use Rattle.std.proofs.Common.{◌≡◌, ◌<◌, ◌^◌, ℕ, Ok, subst, sym, ◌∙◌, arith}
use Rattle.std.specs.Prelude.{decimal}
use Rattle.std.proofs.lemmas.Fmt.{IsAscii-decimal, parse-decimal}
use Rattle.std.proofs.lemmas.Result.{IfOk-at_ok}
use Rattle.std.proofs.lemmas.Str.{IsUtf8-from_ascii}
use Rattle.blob_digest.specs.Text.{IsDecimal}
use Rattle.blob_digest.proofs.Decimals.{decimal-IsDecimal, parsed-decimal}
use Rattle.commands.specs.Stages.{IsStage}
use Rattle.commands.proofs.stages.read_stage.Goals as goal

in_range : (stage : ℕ) → IsStage stage → stage < 2 ^ 64
in_range stage h = let less : stage < 1000000000 = h.1 in omega arith

pub returns-then-not-is_decimal-clause-only : goal.returns-then-not-is_decimal-clause-only
returns-then-not-is_decimal-clause-only c = λ stage h e.
    let whole : IsDecimal c.args.text.now = rw e (decimal-IsDecimal stage (in_range stage h)) in
    cc (sym c.if-not-is_decimal.true ∙ c.is_decimal.ensures.1 whole)

pub returns-in_default-clause-only : goal.returns-in_default-clause-only
returns-in_default-clause-only c = λ stage h e.
    absurd ((c.in_default.ensures {u = tt}).cases.0 (rw e (IsUtf8-from_ascii (decimal stage) (IsAscii-decimal stage (in_range stage h)))))

pub returns-in_default-parse-clause-only : goal.returns-in_default-parse-clause-only
returns-in_default-parse-clause-only c = λ stage h e.
    let digits = c.in-Ok.ensures.cases.0 ∙ e in
    absurd (c.in_default-parse.not-Ok stage (parse-decimal 64 stage _ _ (in_range stage h) (in_range stage h) digits c.parse.ensures.value.0))

pub returns-then-is_stage-clause-found : goal.returns-then-is_stage-clause-found
returns-then-is_stage-clause-found c =
    let same = c.in-Ok.ensures.cases.0 in
    let whole : IsDecimal c.in-Ok.digits.now = rw same (c.is_decimal.ensures.0 c.if-not-is_decimal.false) in
    (c.is_stage.ensures.0 c.if-is_stage.true, sym same ∙ IfOk-at_ok (λ n. c.in-Ok.digits.now ≡ decimal n) c.in-Ok-parse.is (parsed-decimal c.in-Ok.digits.now _ whole c.parse.ensures.value.0))

pub returns-then-is_stage-clause-only : goal.returns-then-is_stage-clause-only
returns-then-is_stage-clause-only c = λ stage h e.
    let digits = c.in-Ok.ensures.cases.0 ∙ e in
    let ok = parse-decimal 64 stage _ _ (in_range stage h) (in_range stage h) digits c.parse.ensures.value.0 in
    cc

pub returns-else-is_stage-clause-only : goal.returns-else-is_stage-clause-only
returns-else-is_stage-clause-only c = λ stage h e.
    let digits = c.in-Ok.ensures.cases.0 ∙ e in
    let ok = parse-decimal 64 stage _ _ (in_range stage h) (in_range stage h) digits c.parse.ensures.value.0 in
    let same : Ok c.in-Ok-parse.number ≡ Ok stage = sym c.in-Ok-parse.is ∙ ok in
    let read : stage ≡ c.in-Ok-parse.number = cc in
    cc (sym c.if-is_stage.false ∙ c.is_stage.ensures.1 (subst IsStage read h))
