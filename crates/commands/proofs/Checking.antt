-- The first of some words that is at fault.
use Rattle.std.proofs.Common.{◌≡◌, List, [], ◌∷◌, ◌++◌, inl, inr, subst, sym}
use Rattle.std.specs.Prelude.{Result, Ok, Err}
use Rattle.std.specs.Result.{IsErrAnd}
use Rattle.std.proofs.lemmas.Result.{err_from_is_err_and}
use Rattle.commands.specs.Faults.{OrMemory}
use Rattle.commands.specs.Words.{AllValid, Check, FailsFirst, IsCheckedBy}
use Rattle.commands.specs.declared.error.CommandError.{CommandError}

fails_later : (before after : List Check) (e : CommandError) → AllValid before → FailsFirst after e → FailsFirst (before ++ after) e
fails_later [] after e valid fails = fails
fails_later (check ∷ before) after e valid fails = inr (valid.0, fails_later before after e valid.1 fails)

fails_within : (checks after : List Check) (e : CommandError) → FailsFirst checks e → FailsFirst (checks ++ after) e
fails_within [] after e fails = absurd fails
fails_within (check ∷ checks) after e (inl fails) = inl fails
fails_within (check ∷ checks) after e (inr fails) = inr (fails.0, fails_within checks after e fails.1)

pub fails_in : (before checks after : List Check) (e : CommandError) → AllValid before → OrMemory (FailsFirst checks) e → OrMemory (FailsFirst (before ++ (checks ++ after))) e
fails_in before checks after e valid (inl memory) = inl memory
fails_in before checks after e valid (inr fails) = inr (fails_later before (checks ++ after) e valid (fails_within checks after e fails))

-- words at fault, behind others that aren't
pub checks_exit : {T : Type 0} (before checks after : List Check) (r : Result T CommandError) (x : CommandError)
    → AllValid before → OrMemory (FailsFirst checks) x → IsErrAnd r (λ y. y ≡ x) → IsCheckedBy (before ++ (checks ++ after)) r
checks_exit {T} before checks after r x valid fails exit =
    let p = err_from_is_err_and r exit in
    subst (λ (q : Result T CommandError). IsCheckedBy (before ++ (checks ++ after)) q) (sym p.1)
    (subst (OrMemory (FailsFirst (before ++ (checks ++ after)))) (sym p.2) (fails_in before checks after x valid fails))

-- words that were checked behind others that aren't at fault
pub checks_behind : {T : Type 0} (before checks : List Check) (r : Result T CommandError) → AllValid before → IsCheckedBy checks r → IsCheckedBy (before ++ checks) r
checks_behind before checks (Ok x) valid is = all_valid before checks valid is
  where
    all_valid : (before checks : List Check) → AllValid before → AllValid checks → AllValid (before ++ checks)
    all_valid [] checks valid also = also
    all_valid (check ∷ before) checks valid also = (valid.0, all_valid before checks valid.1 also)
checks_behind before checks (Err e) valid (inl memory) = inl memory
checks_behind before checks (Err e) valid (inr fails) = inr (fails_later before checks e valid fails)
