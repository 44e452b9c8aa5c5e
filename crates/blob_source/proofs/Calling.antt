-- What some calls of a source did, put together.
use Rattle.std.proofs.Common.{◌≡◌, ℕ, ◌∙◌, ap, sym, subst, arith}
use Rattle.std.specs.Prelude.{Result, Ok, Err, IsErrOf}
use Rattle.std.specs.Result.{IsErrAnd}
use Rattle.std.proofs.lemmas.Result.{err_from_is_err_and}
use Rattle.blob_digest.specs.Digest.{DigestValue}
use Rattle.blob_source.specs.Source.{Telling, Asks, AsksBlob, AsksResult}
use Rattle.blob_source.specs.Called.{Calls, Called}
use Rattle.blob_source.proofs.Asking.{asks_none, asks_blob, asks_result, some_then, ok_no_error}

-- errors that make one answer are one
pub err_injective : {T E : Type 0} (x y : E) → ◌≡◌ {A = Result T E} (Err x) (Err y) → x ≡ y
err_injective x y e = cc

-- ---- any calls

module _ {does : Telling → Telling → Type 0} {old new : Telling} where
  -- the same answer, said otherwise
  pub called_as : {fails fails' : Type 0} → (fails' → fails) → (fails → fails')
      → Calls does old new fails → Calls does old new fails'
  called_as from to h = record {
    asked = h.asked;
    failed = λ f. h.failed (from f);
    unfailed = λ other. h.unfailed (λ f. other (to f));
  }

  -- neither answer says a failure
  pub called_no : {fails fails' : Type 0} → (fails → ⊥) → (fails' → ⊥)
      → Calls does old new fails → Calls does old new fails'
  called_no none none' h = called_as (λ f. absurd (none' f)) (λ f. absurd (none f)) h

  -- the exit of a `?`
  pub called_exit : {T U E : Type 0} {x e : E} {r : Result U E} → IsErrAnd r (λ y. y ≡ x)
      → Calls does old new (IsErrOf {T = T} (Err x) e) → Calls does old new (IsErrOf r e)
  called_exit {T} {U} {E} {x} {e} {r} exit h =
      let p = err_from_is_err_and r exit in
      subst (λ q. Calls does old new (IsErrOf q e)) (sym p.1) (called_as
      (λ is. ap Err (sym p.2 ∙ err_injective {T = U} p.0 e is))
      (λ is. ap Err (p.2 ∙ err_injective {T = T} x e is)) h)

  -- what the calls did, said otherwise
  pub calls_more : {more : Telling → Telling → Type 0} {fails : Type 0}
      → (does old new → more old new) → Calls does old new fails → Calls more old new fails
  calls_more by h = record { asked = by h.asked; failed = h.failed; unfailed = h.unfailed }

-- Calls that didn't fail, and those after them. The first argument says what they did together.
module _ {first next both : Telling → Telling → Type 0} {old mid new : Telling} where
  pub calls_then : {fails fails' : Type 0} → (first old mid → next mid new → both old new)
      → (fails → ⊥) → Calls first old mid fails → Calls next mid new fails'
      → Calls both old new fails'
  calls_then {fails} {fails'} joins none h k = record {
    asked = joins h.asked k.asked;
    failed = λ f. let one = k.failed f in let same = h.unfailed none in omega (arith, one, same);
    unfailed = λ other. k.unfailed other ∙ h.unfailed none;
  }

  -- the form after a `?`: the calls so far came to a value
  pub calls_ok : {T E : Type 0} {x : T} {e : E} {fails : Type 0}
      → (first old mid → next mid new → both old new)
      → Calls first old mid (IsErrOf (Ok x) e) → Calls next mid new fails
      → Calls both old new fails
  calls_ok joins h k = calls_then joins ok_no_error h k

  -- the same after calls of which it is known that none failed, as in a loop
  pub calls_on : {fails : Type 0} → (first old mid → next mid new → both old new)
      → Calls first old mid ⊥ → Calls next mid new fails → Calls both old new fails
  calls_on joins h k = calls_then joins (λ n. n) h k

-- ---- at most so many calls

-- no call
pub calls_none : {most : ℕ} {fails : Type 0} {t : Telling} → (fails → ⊥) → Calls (Asks most) t t fails
calls_none {most} {fails} {t} none = record {
  asked = asks_none t;
  failed = λ f. absurd (none f);
  unfailed = λ other. unchanged t;
}
  where
    unchanged : (t : Telling) → t.failures ≡ t.failures
    unchanged t = omega arith

-- one call, by its contract
pub calls_blob : {fails : Type 0} {old new : Telling} {d : DigestValue}
    → Calls (AsksBlob d) old new fails → Calls (Asks 1) old new fails
calls_blob h = calls_more asks_blob h

pub calls_result : {fails : Type 0} {old new : Telling} {d : DigestValue}
    → Calls (AsksResult d) old new fails → Calls (Asks 1) old new fails
calls_result h = calls_more asks_result h

-- ---- some calls

pub calls_some : {most : ℕ} {fails : Type 0} {old new : Telling}
    → Calls (Asks most) old new fails → Called old new fails
calls_some {most} h = calls_more (λ asks. asks.some) h

pub called_none : {fails : Type 0} {t : Telling} → (fails → ⊥) → Called t t fails
called_none none = calls_some {most = 0} (calls_none none)

pub called_then : {fails fails' : Type 0} {old mid new : Telling} → (fails → ⊥)
    → Called old mid fails → Called mid new fails' → Called old new fails'
called_then none h k = calls_then some_then none h k

pub called_ok : {T E : Type 0} {x : T} {e : E} {fails : Type 0} {old mid new : Telling}
    → Called old mid (IsErrOf (Ok x) e) → Called mid new fails → Called old new fails
called_ok h k = calls_ok some_then h k

pub called_on : {fails : Type 0} {old mid new : Telling} → Called old mid ⊥
    → Called mid new fails → Called old new fails
called_on h k = calls_on some_then h k
