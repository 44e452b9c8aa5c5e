use Rattle.checkout.proofs.writing.read_content.Goals as goal

pub returns-in-Err-clause-refused : goal.returns-in-Err-clause-refused
returns-in-Err-clause-refused g c =
    c.error_of.ensures.lacks (g.S.BlobSource.tells c.fetch_content.new.source).blobs c.args.digest.now c.in-Err.ensures.faulty
