use Rattle.std.proofs.Common.{◌≡◌, ◌∙◌, arith}
use Rattle.std.specs.Cow.{cow_str_bytes}
use Rattle.std.proofs.lemmas.Result.{IfOk-weaker}
use Rattle.percent_encoding.specs.Iter.{encoded_text}
use Rattle.plan.specs.Escape.{escaped}
use Rattle.plan.proofs.Escapes.{percent_encode-escaped}
use Rattle.plan.proofs.escaped.escape.Goals as goal

pub returns : goal.returns
returns g c =
    IfOk-weaker c.into_cow.result (λ s. cow_str_bytes s ≡ encoded_text c.percent_encode.result) (λ s. cow_str_bytes s ≡ escaped c.args.bytes.now)
    (λ s e. e ∙ c.percent_encode.ensures.text ∙ percent_encode-escaped c.args.bytes.now (λ i. omega (arith, c.type_inv.bytes i))) c.into_cow.ensures.value
