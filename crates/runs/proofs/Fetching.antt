-- What calls did to a source, where the answer names the failure of a fetch.
use Rattle.std.proofs.Common.{◌≡◌, ◌∙◌, refl, ap, sym, subst, ℕ}
use Rattle.std.specs.Prelude.{Result, Ok, Err, IsErrOf}
use Rattle.std.specs.Result.{IsErrAnd}
use Rattle.std.proofs.lemmas.Result.{err_from_is_err_and}
use Rattle.tree.specs.declared.error.TreeError.{TreeError}
use Rattle.tree.specs.declared.error.TreeError.TheVariants as tree
use Rattle.blob_source.specs.Called.{Called}
use Rattle.blob_source.specs.Source.{Telling}
use Rattle.blob_source.proofs.Asking.{ok_no_error}
use Rattle.blob_source.proofs.Calling.{called_as, called_no, called_then, err_injective}
use Rattle.runs.specs.declared.error.OpenError.{OpenError}
use Rattle.runs.specs.declared.error.OpenError.TheVariants as opening
use Rattle.runs.specs.declared.error.RunsError.{RunsError}
use Rattle.runs.specs.declared.error.RunsError.TheVariants as errors
use Rattle.runs.specs.Looking.{of_tree_error}

-- ---- opening, where the answer names a step

abbrev pub FailsToOpen : {T A : Type 0} → Result T (OpenError A) → Type 0
FailsToOpen r = (i : ℕ) × IsErrOf r (opening.Source i tree.Fetch)

-- the form after a `?`
pub opening_ok : {T A : Type 0} {x : T} {fails : Type 0} {old mid new : Telling} → Called old mid (FailsToOpen {A = A} (Ok x)) → Called mid new fails → Called old new fails
opening_ok h k = called_then (λ f. ok_no_error f.1) h k

-- the same in a loop
pub opening_on : {T A : Type 0} {x : T} {old mid new : Telling} → Called old mid ⊥ → Called mid new (FailsToOpen {A = A} (Ok x)) → Called old new ⊥
opening_on h k = called_then (λ n. n) h (called_no (λ f. ok_no_error f.1) (λ n. n) k)

-- the exit of a `?`
pub opening_exit : {T U A : Type 0} {x : OpenError A} {r : Result U (OpenError A)} {old new : Telling} → IsErrAnd r (λ y. y ≡ x) → Called old new (FailsToOpen {T = T} (Err x)) → Called old new (FailsToOpen r)
opening_exit {T} {U} {A} {x} {r} {old} {new} exit h =
    let p = err_from_is_err_and r exit in
    subst (λ q. Called old new (FailsToOpen q)) (sym p.1) (called_as
    (λ is. (is.0, ap Err (sym p.2 ∙ err_injective {T = U} p.0 (opening.Source is.0 tree.Fetch) is.1)))
    (λ is. (is.0, ap Err (p.2 ∙ err_injective {T = T} x (opening.Source is.0 tree.Fetch) is.1))) h)

-- lack of memory is none of them
pub opening_memory : {T A : Type 0} {r : Result T (OpenError A)} {fails : Type 0} {old new : Telling} → IsErrAnd r (λ y. y ≡ opening.Memory) → (fails → ⊥) → Called old new fails → Called old new (FailsToOpen r)
opening_memory {T} {A} {r} {fails} {old} {new} exit none h =
    let p = err_from_is_err_and r exit in
    called_no none (λ is. let same : ◌≡◌ {A = Result T (OpenError A)} (Err opening.Memory) (Err (opening.Source is.0 tree.Fetch)) = ap Err (sym p.2) ∙ sym p.1 ∙ is.1 in cc) h

-- ---- the other calls

abbrev pub FailsToFetch : {T A : Type 0} → Result T (RunsError A) → Type 0
FailsToFetch r = IsErrOf r (errors.Source tree.Fetch)

pub fetching_memory : {T A : Type 0} {r : Result T (RunsError A)} {fails : Type 0} {old new : Telling} → IsErrAnd r (λ y. y ≡ errors.Memory) → (fails → ⊥) → Called old new fails → Called old new (FailsToFetch r)
fetching_memory {T} {A} {r} {fails} {old} {new} exit none h =
    let p = err_from_is_err_and r exit in
    called_no none (λ is. let same : ◌≡◌ {A = Result T (RunsError A)} (Err errors.Memory) (Err (errors.Source tree.Fetch)) = ap Err (sym p.2) ∙ sym p.1 ∙ is in cc) h

-- the refusal that an error is is a failure exactly where the error is
refused_fetch : {A : Type 0} (e : TreeError A) → of_tree_error e ≡ errors.Source tree.Fetch → e ≡ tree.Fetch
refused_fetch (tree.Absent path) is = absurd cc
refused_fetch (tree.BlobMissing d) is = absurd cc
refused_fetch (tree.BlobWrong d) is = absurd cc
refused_fetch (tree.BlobMalformed d) is = absurd cc
refused_fetch (tree.TooDeep path) is = absurd cc
refused_fetch (tree.Conflict path) is = absurd cc
refused_fetch tree.Fetch is = refl
refused_fetch tree.Memory is = absurd cc

pub fetching_refused : {T U A : Type 0} {e : TreeError A} {r : Result U (RunsError A)} {old new : Telling} → IsErrAnd r (λ y. y ≡ of_tree_error e) → Called old new (IsErrOf {T = T} (Err e) tree.Fetch) → Called old new (FailsToFetch r)
fetching_refused {T} {U} {A} {e} {r} {old} {new} exit h =
    let p = err_from_is_err_and r exit in
    subst (λ q. Called old new (FailsToFetch q)) (sym p.1) (called_as
    (λ is. ap Err (refused_fetch e (sym p.2 ∙ err_injective {T = U} p.0 (errors.Source tree.Fetch) is)))
    (λ is. ap Err (p.2 ∙ ap of_tree_error (err_injective {T = T} e tree.Fetch is))) h)
