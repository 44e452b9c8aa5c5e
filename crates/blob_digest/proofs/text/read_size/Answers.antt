-- A decimal without a leading zero parses as the one number that is written so.
use Rattle.std.proofs.Common.{◌≡◌, ◌≤◌, ◌<◌, ◌^◌, ℕ, Ok, sym, ◌∙◌, arith}
use Rattle.std.specs.Prelude.{decimal}
use Rattle.std.proofs.lemmas.Fmt.{IsAscii-decimal, parse-decimal}
use Rattle.std.proofs.lemmas.Result.{IfOk-at_ok}
use Rattle.std.proofs.lemmas.Str.{IsUtf8-from_ascii}
use Rattle.blob_digest.specs.DigestValue.{greatest_size}
use Rattle.blob_digest.specs.Text.{IsDecimal}
use Rattle.blob_digest.proofs.Decimals.{decimal-IsDecimal, parsed-decimal}
use Rattle.blob_digest.proofs.text.read_size.Goals as goal

in_range : (size : ℕ) → size ≤ greatest_size → size < 2 ^ 64
in_range size h = omega arith

pub returns-then-not-is_decimal-clause-only : goal.returns-then-not-is_decimal-clause-only
returns-then-not-is_decimal-clause-only c = λ size h e.
    let whole : IsDecimal c.args.text.now = rw e (decimal-IsDecimal size (in_range size h)) in
    cc (sym c.if-not-is_decimal.true ∙ c.is_decimal.ensures.1 whole)

pub returns-in_default-clause-only : goal.returns-in_default-clause-only
returns-in_default-clause-only c = λ size h e.
    absurd ((c.in_default.ensures {u = tt}).cases.0 (rw e (IsUtf8-from_ascii (decimal size) (IsAscii-decimal size (in_range size h)))))

pub returns-in_default-parse-clause-only : goal.returns-in_default-parse-clause-only
returns-in_default-parse-clause-only c = λ size h e.
    let digits = c.in-Ok.ensures.cases.0 ∙ e in
    absurd (c.in_default-parse.not-Ok size (parse-decimal 64 size _ _ (in_range size h) (in_range size h) digits c.parse.ensures.value.0))

pub returns-then-size-le-GREATEST_SIZE-clause-found : goal.returns-then-size-le-GREATEST_SIZE-clause-found
returns-then-size-le-GREATEST_SIZE-clause-found c =
    let same = c.in-Ok.ensures.cases.0 in
    let whole : IsDecimal c.in-Ok.digits.now = rw same (c.is_decimal.ensures.0 c.if-not-is_decimal.false) in
    (c.if-size-le-GREATEST_SIZE.true, sym same ∙ IfOk-at_ok (λ n. c.in-Ok.digits.now ≡ decimal n) c.in-Ok-parse.is (parsed-decimal c.in-Ok.digits.now _ whole c.parse.ensures.value.0))

pub returns-then-size-le-GREATEST_SIZE-clause-only : goal.returns-then-size-le-GREATEST_SIZE-clause-only
returns-then-size-le-GREATEST_SIZE-clause-only c = λ size h e.
    let digits = c.in-Ok.ensures.cases.0 ∙ e in
    let ok = parse-decimal 64 size _ _ (in_range size h) (in_range size h) digits c.parse.ensures.value.0 in
    cc

pub returns-else-size-le-GREATEST_SIZE-clause-only : goal.returns-else-size-le-GREATEST_SIZE-clause-only
returns-else-size-le-GREATEST_SIZE-clause-only c = λ size h e.
    let digits = c.in-Ok.ensures.cases.0 ∙ e in
    let ok = parse-decimal 64 size _ _ (in_range size h) (in_range size h) digits c.parse.ensures.value.0 in
    let same : Ok c.in-Ok-parse.size ≡ Ok size = sym c.in-Ok-parse.is ∙ ok in
    let read : c.in-Ok-parse.size ≡ size = cc in
    absurd (omega arith)
