use Rattle.std.proofs.Common.{arith, inl, inr}
use Rattle.worker.proofs.Keeping.{kept_put}
use Rattle.worker.proofs.putting.put_encoded.Goals as goal

pub returns-in_err-put_result-clause-kept : goal.returns-in_err-put_result-clause-kept
returns-in_err-put_result-clause-kept g c = kept_put (inl c.in_err-put_result.ensures.unlisted) c.put_result.ensures.called

pub returns-in_err-put_result-clause-bytes : goal.returns-in_err-put_result-clause-bytes
returns-in_err-put_result-clause-bytes g c = λ i. let fits = c.type_inv.bytes i in omega (arith, fits)

pub returns-clause-kept : goal.returns-clause-kept
returns-clause-kept g c = kept_put (inr (c.in_ok-put_result.ensures.listed, c.in_ok-put_result.ensures.held)) c.put_result.ensures.called

pub returns-clause-bytes : goal.returns-clause-bytes
returns-clause-bytes g c = λ i. let fits = c.type_inv.bytes i in omega (arith, fits)
