-- The text of a list of stages, line by line.
use Rattle.std.proofs.Common.{◌≡◌, ◌∙◌, ◌+◌, ◌<◌, ℕ, List, [], ◌∷◌, ◌++◌, Bool, true, false, true≢false, ap, append_assoc, arith, length, refl, subst, sym}
use Rattle.std.specs.List.{Contains}
use Rattle.std.specs.Char.{is_ascii_digit}
use Rattle.std.specs.Prelude.{◌==◌, decimal}
use Rattle.std.proofs.lemmas.Bool.Decides.{nat_tests}
use Rattle.std.proofs.lemmas.List.Elements.{Contains-append_right}
use Rattle.blob_digest.proofs.Decimals.{decimal-IsDecimal}
use Rattle.blob_digest.proofs.DigestTexts.{all_pass-without}
use Rattle.commands.proofs.OneQuestion.{once}
use Rattle.commands.specs.Stages.{IsStage, stages_text}

-- a number has no newline
pub number-without : (stage : ℕ) → IsStage stage → ¬ Contains (decimal stage) 10
number-without stage h = let less : stage < 1000000000 = h.1 in
    all_pass-without is_ascii_digit (decimal stage) 10 (decimal-IsDecimal stage (omega arith)).digits refl

-- a line ends in a newline
pub ends_in_newline : (line behind text : List ℕ) → text ≡ line ++ 10 ∷ behind → Contains text 10
ends_in_newline line behind text e = subst (λ t. Contains t 10) (sym e) (Contains-append_right line (10 ∷ behind) 10 (0, omega arith, refl))

-- the first line is the one that ends at the first newline
pub first_line : (stage : ℕ) (line rest behind text : List ℕ) → IsStage stage → ¬ Contains line 10 → text ≡ line ++ 10 ∷ rest → text ≡ decimal stage ++ 10 ∷ behind → line ≡ decimal stage
first_line stage line rest behind text valid none cut other = (once 10 line (decimal stage) rest behind none (number-without stage valid) (sym cut ∙ other)).0

-- one line more
pub stages_text-push : (stages : List ℕ) (stage : ℕ) (rest : List ℕ) → stages_text (stages ++ stage ∷ []) ++ rest ≡ stages_text stages ++ (decimal stage ++ 10 ∷ rest)
stages_text-push [] stage rest = append_assoc (decimal stage) (10 ∷ []) rest
stages_text-push (first ∷ stages) stage rest =
    append_assoc (decimal first) (10 ∷ stages_text (stages ++ stage ∷ [])) rest
    ∙ ap (λ t. decimal first ++ 10 ∷ t) (stages_text-push stages stage rest)
    ∙ sym (append_assoc (decimal first) (10 ∷ stages_text stages) (decimal stage ++ 10 ∷ rest))

-- a list of which a test says that it has nothing, and one of which it says that it has something
pub has_none : (items : List ℕ) (count : ℕ) (test : Bool) → test ≡ true → test ≡ (count == 0) → count ≡ length items → items ≡ []
has_none [] count test holds is long = refl
has_none (first ∷ items) count test holds is long = absurd (let none : count ≡ 0 = grind (arith, nat_tests) in omega (arith, none, long))

pub has_some : (items : List ℕ) (test : Bool) → test ≡ false → test ≡ (length items == 0) → items ≡ [] → ⊥
has_some items test fails is none = true≢false (sym (is ∙ ap (λ (l : List ℕ). length l == 0) none) ∙ fails)
