-- Errors beside which nothing is printed.
use Rattle.std.proofs.Common.{◌≡◌, ℕ, arith}
use Rattle.std.specs.Prelude.{Result, Ok, Err, IfErr}
use Rattle.commands.specs.Refusal.{IsPrintFault}
use Rattle.commands.specs.ServeRefused.{IsAcceptFault}
use Rattle.commands.specs.Status.{exit_status}
use Rattle.commands.specs.declared.error.CommandError.{CommandError}
use Rattle.commands.specs.declared.error.CommandError.TheVariants.{Accept, Output}

-- what is at fault with nothing but the output
pub only_prints : {T : Type 0} (Q : Type 0) (r : Result T CommandError) → IfErr r IsPrintFault → IfErr r (λ e. ¬ IsPrintFault e → Q)
only_prints Q (Ok x) h = tt
only_prints Q (Err e) h = λ not. absurd (not h)

-- the words, or the texts that they name, are
pub words_print_nothing : {Q : Type 0} (e : CommandError) → (¬ IsPrintFault e → Q) → exit_status e ≡ 2 → Q
words_print_nothing (Output f) by status = let same : ◌≡◌ {A = ℕ} 3 2 = status in absurd (omega (arith, same))
words_print_nothing _ by status = by (λ print. print)

pub words_serve_nothing : {Q : Type 0} (e : CommandError) → (¬ IsPrintFault e → ¬ IsAcceptFault e → Q) → exit_status e ≡ 2 → Q
words_serve_nothing (Output f) by status = let same : ◌≡◌ {A = ℕ} 3 2 = status in absurd (omega (arith, same))
words_serve_nothing (Accept f) by status = let same : ◌≡◌ {A = ℕ} 3 2 = status in absurd (omega (arith, same))
words_serve_nothing _ by status = by (λ print. print) (λ accept. accept)
