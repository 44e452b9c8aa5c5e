use Rattle.tree.specs.Difference.{made_by}
use Rattle.tree.proofs.Learning.{learns_refused}
use Rattle.verifier.proofs.Explained.{difference_explained}
use Rattle.verifier.proofs.steps.explain_difference.Goals as goal

pub returns-in-Err-clause-explained : goal.returns-in-Err-clause-explained
returns-in-Err-clause-explained g c = difference_explained (made_by c.args.made.now) (g.S.BlobSource.tells c.first_difference.new.source).blobs c.args.made.now.root c.args.input.now c.in-Err.error c.fault_of.result (c.in-Err.ensures {u = tt}).refused c.fault_of.ensures

pub returns-in-Ok-Some-clause-learned : goal.returns-in-Ok-Some-clause-learned
returns-in-Ok-Some-clause-learned g c = learns_refused (λ a h. h) tt c.first_difference.ensures.learned

pub returns-in-Err-clause-learned : goal.returns-in-Err-clause-learned
returns-in-Err-clause-learned g c = learns_refused (λ a h. h) tt c.first_difference.ensures.learned
