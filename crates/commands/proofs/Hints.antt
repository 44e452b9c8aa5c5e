-- Hints of the lines of a text.
use Rattle.std.proofs.Common.{◌≡◌, ◌<◌, ◌∙◌, ◌⊎◌, ◌+◌, ◌-◌, ℕ, List, [], ◌∷◌, ◌++◌, Bool, true, false, Option, None, Some, HoldsAt, IsTrue, MatchBool, ◌↔◌, arith, get_or, length, refl, subst, sym, option_map, Bor, inl, inr, is_none, is_some, not, ◌&&◌, ◌==◌, add-one, ap, drop, drop-cons, if◌then◌else◌, suc}
use Rattle.std.specs.List.{AllWithin}
use Rattle.std.specs.Prelude.{codes, slice_get}
use Rattle.std.proofs.lemmas.List.Elements.{Contains-get_or}
use Rattle.plan.specs.Escape.{is_plain}
use Rattle.plan.specs.declared.error.Fault.{Fault}
use Rattle.plan.specs.declared.error.Fault.TheVariants.{BadHeader, BadLine}
use Rattle.plan.specs.declared.error.PlanError.{PlanError}
use Rattle.commands.specs.declared.hint.Hint.{Hint}
use Rattle.commands.specs.Hints.{HasFirst, HaveStep, IsHint, TellsOfFault, TellsOfForm, TellsOfLine, is_digit, is_escaped, lines_of}

pub any_of_step : (name : List ℕ) (r : Bool) (lines : List (List ℕ))
    → MatchBool r ((k : ℕ) × (k < length lines) × HoldsAt (HasFirst (codes "step " ++ name)) lines k) (AllWithin (λ l. HasFirst (codes "step " ++ name) l → ⊥) lines 0 (length lines))
    → IsTrue r ↔ HaveStep name lines
any_of_step name true lines h = ((λ _. (get_or lines h.0 [], Contains-get_or lines h.0 [] h.1, h.2 [])), λ _. refl)
any_of_step name false lines h =
    ((λ never. absurd cc), λ have. absurd (h have.1.0 have.0 (omega arith) have.1.1 (subst (HasFirst (codes "step " ++ name)) (sym have.1.2) have.2)))

-- nothing stands there
pub none_by : (o : Option (Bor (List ℕ))) (found : Option (List ℕ)) (b : Bool) → option_map (λ l. l.now) o ≡ found → is_some o ≡ not b → b ≡ is_none found
none_by None found true is not_none = subst (λ f. true ≡ is_none f) is refl
none_by None found false is not_none = absurd cc
none_by (Some l) found true is not_none = absurd cc
none_by (Some l) found false is not_none = subst (λ f. false ≡ is_none f) is refl

-- a fault of a line's form
pub of_form : (fault : Fault) (lines : List (List ℕ)) (before : ℕ) (line : List ℕ) (result : Option Hint) → (fault ≡ BadHeader) ⊎ (fault ≡ BadLine)
    → IsHint (TellsOfForm line (is_none (slice_get lines (before + 1)))) result → IsHint (TellsOfLine fault lines before line) result
of_form fault lines before line result (inl is) tells = subst (λ f. IsHint (TellsOfLine f lines before line) result) (sym is) tells
of_form fault lines before line result (inr is) tells = subst (λ f. IsHint (TellsOfLine f lines before line) result) (sym is) tells

module _ (text : List ℕ) (error : PlanError) where
  -- there is
  pub at_line : (before : ℕ) (line : List ℕ) (result : Option Hint) → before ≡ error.line - 1 → slice_get (lines_of text) before ≡ Some line
      → IsHint (TellsOfLine error.fault (lines_of text) before line) result → IsHint (TellsOfFault text error) result
  at_line before line (Some hint) number there tells = record {
    line = line;
    is = subst (λ n. slice_get (lines_of text) n ≡ Some line) number there;
    tells = subst (λ n. TellsOfLine error.fault (lines_of text) n line hint) number tells;
  }
  at_line before line None number there none = λ hint told.
      let same : told.line ≡ line = some_same (sym told.is ∙ subst (λ n. slice_get (lines_of text) n ≡ Some line) number there) in
      none hint (subst (λ n. TellsOfLine error.fault (lines_of text) n line hint) (sym number)
      (subst (λ l. TellsOfLine error.fault (lines_of text) (error.line - 1) l hint) same told.tells))
    where
      some_same : {x y : List ℕ} → ◌≡◌ {A = Option (List ℕ)} (Some x) (Some y) → x ≡ y
      some_same e = cc

-- ---- the bytes of an escaped path

module _ (word : List ℕ) (i digits : ℕ) (so_far : is_escaped 0 word ≡ is_escaped digits (drop i word)) (less : i < length word) where
  at_byte : (d : ℕ) → digits ≡ d → is_escaped 0 word ≡ is_escaped d (get_or word i 0 ∷ drop (suc i) word)
  at_byte d is = so_far ∙ ap (λ n. is_escaped n (drop i word)) is ∙ ap (is_escaped d) (drop-cons word i 0 less)

  behind : (d : ℕ) → is_escaped d (drop (suc i) word) ≡ is_escaped d (drop (i + 1) word)
  behind d = ap (λ k. is_escaped d (drop k word)) (sym (add-one i))

  pub after_digit : (next : ℕ) → digits ≡ suc next → is_digit (get_or word i 0) ≡ true → is_escaped 0 word ≡ is_escaped next (drop (i + 1) word)
  after_digit next is digit = at_byte (suc next) is ∙ ap (λ b. b && is_escaped next (drop (suc i) word)) digit ∙ behind next

  pub after_percent : digits ≡ 0 → (get_or word i 0 == 37) ≡ true → is_escaped 0 word ≡ is_escaped 2 (drop (i + 1) word)
  after_percent is percent =
      at_byte 0 is ∙ ap (λ b. if b then is_escaped 2 (drop (suc i) word) else (is_plain (get_or word i 0) && is_escaped 0 (drop (suc i) word))) percent ∙ behind 2

  pub after_plain : digits ≡ 0 → (get_or word i 0 == 37) ≡ false → is_plain (get_or word i 0) ≡ true → is_escaped 0 word ≡ is_escaped 0 (drop (i + 1) word)
  after_plain is other plain =
      at_byte 0 is ∙ ap (λ b. if b then is_escaped 2 (drop (suc i) word) else (is_plain (get_or word i 0) && is_escaped 0 (drop (suc i) word))) other
      ∙ ap (λ b. b && is_escaped 0 (drop (suc i) word)) plain ∙ behind 0
