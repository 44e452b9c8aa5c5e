use Rattle.std.proofs.Common.{Some, ap, ◌∙◌}
use Rattle.std.specs.Prelude.{option_map}
use Rattle.blob_source.specs.Source.{bytes_of}
use Rattle.blob_source.proofs.Digests.{other_digests}
use Rattle.keeping.proofs.answers.Answers.keep.Goals as goal

pub returns-clause-ok : goal.returns-clause-ok
returns-clause-ok g c =
    let updates = c.in_ok-insert.ensures.updates in
    record {
      here = ap (option_map bytes_of) updates.1 ∙ ap Some c.in_ok-copy.ensures;
      others = λ e n. ap (option_map bytes_of) (updates.2 e (other_digests c.args.digest.now e n));
    }
