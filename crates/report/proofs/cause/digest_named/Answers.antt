use Rattle.report.proofs.Unbroken.{none_in_digest, none_named, where_ok}
use Rattle.report.proofs.cause.digest_named.Goals as goal

pub returns-clause-unbroken : goal.returns-clause-unbroken
returns-clause-unbroken g c =
    where_ok c.format.result
    (none_named c.args.word.now _ c.requires (none_in_digest c.args.digest.now c.hash.ensures.valid))
