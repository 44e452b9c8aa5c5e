-- The exit of a `?`, and of a call whose result is returned.
use Rattle.std.proofs.Common.{◌≡◌, ◌⊎◌, inl, inr, sym, subst}
use Rattle.std.specs.Prelude.{Result, Ok, Err, IfErr, OnErr}
use Rattle.std.specs.Result.{IsErrAnd}
use Rattle.std.proofs.lemmas.Result.{err_from_is_err_and}

pub exit_by : {T E : Type 0} (Q : E → Type 0) {x : E} (r : Result T E) → IsErrAnd r (λ y. y ≡ x) → Q x → IfErr r Q
exit_by Q r exit h =
    let p = err_from_is_err_and r exit in
    subst (λ q. IfErr q Q) (sym p.1) (subst Q (sym p.2) h)

pub err_weaker : {T E : Type 0} (r : Result T E) (P Q : E → Type 0) → ((e : E) → P e → Q e) → IfErr r P → IfErr r Q
err_weaker (Ok x) P Q f h = tt
err_weaker (Err e) P Q f h = f e h

pub or_else : {P Q R : Type 0} → P ⊎ Q → (Q → R) → P ⊎ R
or_else (inl p) by = inl p
or_else (inr q) by = inr (by q)

pub begun_weaker : {P Q T E : Type 0} (r : Result T E) → (P → Q) → OnErr r P → OnErr r Q
begun_weaker (Ok x) f h = tt
begun_weaker (Err e) f h = f h
