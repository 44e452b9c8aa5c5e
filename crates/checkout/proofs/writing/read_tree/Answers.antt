use Rattle.checkout.proofs.writing.read_tree.Goals as goal

pub returns-in-Err-clause-refused : goal.returns-in-Err-clause-refused
returns-in-Err-clause-refused g c = c.error_of.ensures.fails (g.S.BlobSource.tells c.unfold.new.source).blobs c.args.root.now c.in-Err.ensures.refused
