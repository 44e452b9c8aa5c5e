use Rattle.std.proofs.Common.{◌∙◌}
use Rattle.blob_digest.specs.Text.{digest_text}
use Rattle.report.proofs.ComparedLines.{none_as}
use Rattle.report.proofs.Unbroken.{none_in_digest}
use Rattle.report.proofs.comparing.digests_line.Goals as goal

pub differ_line-requires-clause-one : goal.differ_line-requires-clause-one
differ_line-requires-clause-one g c = none_as c.as_str.result.now (digest_text c.args.one.now) (c.as_str.ensures.value ∙ c.in_ok-one.ensures {u = tt}) (none_in_digest c.args.one.now c.hash.ensures.valid)

pub differ_line-requires-clause-other : goal.differ_line-requires-clause-other
differ_line-requires-clause-other g c = none_as c.as_str-2.result.now (digest_text c.args.other.now) (c.as_str-2.ensures.value ∙ c.in_ok-other.ensures {u = tt}) (none_in_digest c.args.other.now c.hash-2.ensures.valid)
