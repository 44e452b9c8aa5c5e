-- A text that can't be read, or is at fault.
use Rattle.std.proofs.Common.{List, ℕ, ◌≡◌, ◌⊎◌, inl, inr, refl, subst}
use Rattle.std.specs.declared.alloc.Global.{Global}
use Rattle.plan.specs.declared.error.PlanError.{PlanError}
use Rattle.remote.specs.declared.files.FileError.{FileError}
use Rattle.commands.specs.Faults.{OrMemory, error_of_file}
use Rattle.commands.specs.Refusal.{FailsText, HasTextFault, IsTextFault}
use Rattle.commands.specs.World.{Sight}
use Rattle.commands.specs.declared.error.CommandError.{CommandError}
use Rattle.commands.proofs.Refused.{or_weaker}

module _ (sees : Sight) (read path : List ℕ) (faulty : List ℕ → PlanError → Type 0) where
  -- a file that can't be read has no text
  pub unread_fails : read ≡ path → (f : FileError Global) → sees.fails read f → FailsText sees path faulty (error_of_file f)
  unread_fails same f fails = inr (inr (f, subst (λ p. sees.fails p f) same fails, refl))

  -- a text that was read is at fault
  pub text_fails : read ≡ path → (text : List ℕ) (fault : PlanError) (e : CommandError) → sees.reads read text → faulty text fault
      → OrMemory (IsTextFault read text fault) e → FailsText sees path faulty e
  text_fails same text fault e reads is = or_weaker (IsTextFault read text fault)
      (λ x. HasTextFault sees path faulty x ⊎ ((f : FileError Global) × sees.fails path f × (x ≡ error_of_file f))) e
      (λ told. inl (text, fault, subst (λ p. sees.reads p text) same reads, is, subst (λ p. IsTextFault p text fault e) same told))
