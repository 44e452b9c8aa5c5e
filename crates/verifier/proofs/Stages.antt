-- Answers of checks one after another.
use Rattle.std.proofs.Common.{◌≡◌, sym, subst, inl, inr}
use Rattle.std.specs.Prelude.{Result, Ok, Err}
use Rattle.std.specs.Result.{IsErrAnd}
use Rattle.std.proofs.lemmas.Result.{err_from_is_err_and}
use Rattle.verifier.specs.declared.fault.Fault.{Fault}
use Rattle.verifier.specs.declared.verdict.Cause.{Cause}
use Rattle.tree.specs.Stage.{Stage, ◌and_then◌}
use Rattle.verifier.specs.Stage.{ExplainsFault, Answers}
use Rattle.verifier.proofs.Explained.{explains_map}

module _ {A V W : Type 0} where
  -- the first check fails, and its answer is handed out by a `?`
  pub fails_here : (first : Stage (Cause A) V) (next : V → Stage (Cause A) W) (f : Fault A) (r : Result W (Fault A)) → IsErrAnd r (λ e. e ≡ f) → ExplainsFault first.fails f → Answers (first and_then next) r
  unfolding ◌and_then◌
  fails_here first next f r exit h =
      let p = err_from_is_err_and r exit in
      subst (Answers (first and_then next)) (sym p.1) (subst (ExplainsFault (first and_then next).fails) (sym p.2) (explains_map first.fails (first and_then next).fails f (λ cause k. inl k) h))

  -- the first check passes, and those after it come to an answer
  pub then_answers : (first : Stage (Cause A) V) (next : V → Stage (Cause A) W) (v : V) (r : Result W (Fault A)) → first.passes v → Answers (next v) r → Answers (first and_then next) r
  unfolding ◌and_then◌
  then_answers first next v (Ok w) p h = (v, p, h)
  then_answers first next v (Err f) p h = explains_map (next v).fails (first and_then next).fails f (λ cause k. inr (v, p, k)) h
