use Rattle.plan.proofs.Escapes.{percent_encode-escaped_path}
use Rattle.plan.proofs.escaped.write_path.Goals as goal

pub returns-clause-value : goal.returns-clause-value
returns-clause-value g c =
    rw (c.in_ok-append_to.ensures.ok, c.new-text.ensures.bytes, c.percent_encode.ensures.text, c.as_bytes.ensures.value) (percent_encode-escaped_path c.args.path.now c.as_bytes.ensures.valid)
