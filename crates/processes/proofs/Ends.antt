-- What came of a child, and what is told of it.
use Rattle.std.proofs.Common.{◌≡◌, ℕ, List, subst, inl, inr}
use Rattle.std.specs.Prelude.{◌⊎◌, Result, Ok, Err, IfErr, IfOk, string_bytes}
use Rattle.std.specs.declared.io.Error.{Error}
use Rattle.std.specs.declared.string.String.{String}
use Rattle.worker.specs.Counted.{IsFailure, TellsRunFailure}
use Rattle.worker.specs.Values.{ProducedValue, EndValue, bad_at, failed}
use Rattle.worker.specs.declared.failure.FailureCause.TheVariants.{Unread}
use Rattle.worker.specs.declared.runner.RunError.{RunError}
use Rattle.worker.specs.declared.runner.RunError.TheVariants as children
use Rattle.processes.specs.declared.trouble.Trouble.{Trouble}
use Rattle.processes.specs.declared.trouble.Trouble.TheVariants as troubles
use Rattle.processes.specs.declared.workshop.Exit.{Exit}
use Rattle.processes.specs.Workshop.{Works}
use Rattle.processes.specs.Running.{CameOf, TellsCame, IsEnded}
use Rattle.processes.specs.Walking.{TellsTrouble}

module _ {A : Type 0} (Came : EndValue → Type 0) where
  -- a refusal that is told as it is, or as lack of memory
  pub ends_told : (e t : RunError A) → TellsCame Came (Err e) → (t ≡ e) ⊎ (t ≡ children.Memory) → TellsCame Came (Err t)
  ends_told e t h (inl is) = rw is h
  ends_told e t h (inr is) = rw is tt

  pub ends_tells : (t : RunError A) → TellsCame Came (Err t) → TellsRunFailure Came t
  ends_tells children.NotAbsolute h = tt
  ends_tells (children.Device program cause) h = h
  ends_tells (children.BadOutput path) h = tt
  ends_tells children.Memory h = tt

  pub ends_bad : (t : RunError A) → TellsCame Came (Err t) → (path : List (List ℕ)) → t ≡ children.BadOutput path → Came (bad_at path)
  ends_bad t h path is = subst (λ e. TellsCame Came (Err e)) is h

  pub ends_absolute : (t : RunError A) → TellsCame Came (Err t) → t ≡ children.NotAbsolute → ⊥
  ends_absolute t h is = subst (λ e. TellsCame Came (Err e)) is h

pub trouble_so : (Fails So : Error → Type 0) (t : Trouble) → ((error : Error) → Fails error → So error) → TellsTrouble Fails t → TellsTrouble So t
trouble_so Fails So (troubles.Unread error) to h = to error h
trouble_so Fails So troubles.NoOutput to h = tt
trouble_so Fails So troubles.Memory to h = tt

-- what is told of a trouble at an output path
pub trouble_tells : {A : Type 0} (Fails : Error → Type 0) (t : Trouble) (program : String A) (r : RunError A) → TellsTrouble Fails t → (IsFailure r → (error : Error) × (t ≡ troubles.Unread error) × (r ≡ children.Device program (Unread error)))
    → TellsRunFailure (λ e. (error : Error) × (e ≡ failed (string_bytes program) (Unread error)) × Fails error) r
trouble_tells Fails t program children.NotAbsolute tells is = tt
trouble_tells Fails t program (children.BadOutput path) tells is = tt
trouble_tells Fails t program children.Memory tells is = tt
trouble_tells Fails t program (children.Device p cause) tells is =
    let own = is tt in
    let same = own.2 in (own.0, cc, subst (TellsTrouble Fails) own.1 tells)

module _ {R C E : Type 0} (works : Works R C E) where
  ended_as : (child : C) (r : Result (E × Exit) Error) → IfOk r (λ e. works.ended child e.0 e.1) → IfErr r (works.unwaited child) → IsEnded works child r
  ended_as child (Ok told) ended unwaited = ended
  ended_as child (Err error) ended unwaited = unwaited

  -- what a wait and what is collected after it come to
  pub finish_ends : {A : Type 0} (child : C) (program : String A) (start at : List ℕ) (paths listed : List (List (List ℕ))) (ended : Result (E × Exit) Error) (r : Result ProducedValue (RunError A)) → IfOk ended (λ e. works.ended child e.0 e.1)
      → IfErr ended (works.unwaited child) → ((k : C) → IsEnded works k ended → TellsCame (CameOf works k (string_bytes program) start paths) r) → start ≡ at → paths ≡ listed → TellsCame (CameOf works child (string_bytes program) at listed) r
  finish_ends child program start at paths listed ended r is_ended unwaited ends same all =
      subst (λ s. TellsCame (CameOf works child (string_bytes program) s listed) r) same (subst (λ ps. TellsCame (CameOf works child (string_bytes program) start ps) r) all (ends child (ended_as child ended is_ended unwaited)))
