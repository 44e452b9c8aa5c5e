use Rattle.std.proofs.Common.{◌≡◌, ◌∙◌, ap, sym}
use Rattle.std.specs.Cow.{cow_slice_items}
use Rattle.messages.specs.Path.{path_text}
use Rattle.plan.specs.Escape.{escaped}
use Rattle.plan.proofs.Escapes.{percent_decode-escaped_path, told_apart}
use Rattle.plan.proofs.escaped.read_path.Goals as goal

pub returns-then-ne-clause-only : goal.returns-then-ne-clause-only
returns-then-ne-clause-only g c = λ path is e.
    let whole : cow_slice_items c.in_ok-decoded.decoded ≡ path_text path = c.in_ok-decoded.ensures.value ∙ rw (c.percent_decode.ensures.bytes, e) (percent_decode-escaped_path path is) in
    let same : c.as_bytes.result.now ≡ c.args.text.now = c.as_bytes.ensures.value ∙ c.deref-2.ensures.value ∙ c.in_ok-escape.ensures ∙ ap escaped (c.deref.ensures.value ∙ whole) ∙ sym e in
    absurd (told_apart c.as_bytes.result.now c.args.text.now (sym c.ne.ensures ∙ c.if-ne.true) same)

pub returns-clause-only : goal.returns-clause-only
returns-clause-only g c = λ path is e.
    let whole : cow_slice_items c.in_ok-decoded.decoded ≡ path_text path = c.in_ok-decoded.ensures.value ∙ rw (c.percent_decode.ensures.bytes, e) (percent_decode-escaped_path path is) in
    c.plain_path.ensures.only path is (c.deref-3.ensures.value ∙ whole)
