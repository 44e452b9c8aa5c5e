-- The bytes are those of the blob.
use Rattle.std.proofs.Common.{ap, sym, ◌∙◌, subst}
use Rattle.blob_source.specs.Source.{IsBlobUnder}
use Rattle.tree.specs.Memo.{kept_bytes}
use Rattle.tree.proofs.memo.Kept.read.Goals as goal

pub returns-in-Bytes-clause-faulty : goal.returns-in-Bytes-clause-faulty
returns-in-Bytes-clause-faulty g c B held =
    c.read_message.ensures.faulty B (subst (IsBlobUnder B c.args.digest.now) (ap kept_bytes c.in-Bytes.is ∙ sym c.deref.ensures.value) held)

pub returns-in_ok-encode-in-Directory-clause-faulty : goal.returns-in_ok-encode-in-Directory-clause-faulty
returns-in_ok-encode-in-Directory-clause-faulty g c B held =
    c.read_message-in-Directory.ensures.faulty B
    (subst (IsBlobUnder B c.args.digest.now) (ap kept_bytes c.in-Directory.is ∙ sym (c.in_ok-encode-in-Directory.ensures {u = tt}).bytes ∙ sym c.deref-in-Directory.ensures.value) held)
