-- No two hints tell of a fault, and which words are escaped.
use Rattle.std.proofs.Common.{◌≡◌, ◌≢◌, ◌∙◌, ◌+◌, ◌-◌, ◌<◌, ◌/◌, ◌%◌, ◌==◌, ◌&&◌, ◌||◌, ℕ, zero, suc, List, [], ◌∷◌, ◌++◌, Bool, true, false, Option, None, Some, All, ap, arith, drop, if◌then◌else◌, inl, inr, is_none, refl, subst, sym, take, take-append-drop}
use Rattle.std.specs.Prelude.{slice_get}
use Rattle.std.proofs.lemmas.Bool.{agree_below_at, and_parts, eq-eqb, eqb-true, false_from_ne_true}
use Rattle.std.proofs.lemmas.List.Elements.{All-head, All-tail, Contains-append_right}
use Rattle.std.specs.List.{Contains}
use Rattle.plan.specs.Escape.{escaped, escaped_byte, hex_digit, is_plain}
use Rattle.plan.specs.declared.error.Fault.{Fault}
use Rattle.plan.specs.declared.error.Fault.TheVariants as faults
use Rattle.plan.specs.declared.error.PlanError.{PlanError}
use Rattle.commands.specs.Hints.{HasPlainEnd, HaveStep, IsEscapedText, TellsOfFault, TellsOfForm, TellsOfLine, TellsOfStep, is_digit, is_escaped, last_byte, lines_of}
use Rattle.commands.specs.Hints.IsEscapedText.{at_end, escape, plain}
use Rattle.commands.specs.declared.hint.Hint.{Hint}
use Rattle.commands.specs.declared.hint.Hint.TheVariants.{BlankAtEnd, CarriageReturn, LaterStep, NoLine, NoNewline, NoStep, NotEscaped, OwnStep}

-- ---- the form of a line

-- whether a line's last byte is this one
abbrev is_at : ℕ → Option ℕ → Bool
is_at n None = false
is_at n (Some b) = b == n

abbrev is_empty : List ℕ → Bool
is_empty [] = true
is_empty (b ∷ rest) = false

at : (n : ℕ) (last : Option ℕ) → last ≡ Some n → is_at n last ≡ true
at n last is = ap (is_at n) is ∙ eq-eqb n n refl

not_at : (n : ℕ) (last : Option ℕ) → last ≢ Some n → is_at n last ≡ false
not_at n None other = refl
not_at n (Some b) other = false_from_ne_true (b == n) (λ same. other (ap (λ (x : ℕ). Some x) (eqb-true b n same)))

filled : (line : List ℕ) → line ≢ [] → is_empty line ≡ false
filled [] some = absurd (some refl)
filled (b ∷ rest) some = refl

-- the hint of a line without a form, by its last byte, whether it is the last and whether it is empty
abbrev by_end : Bool → Bool → Bool → Bool → Hint
by_end true blank is_last empty = CarriageReturn
by_end false true is_last empty = BlankAtEnd
by_end false false true true = NoLine
by_end false false true false = NoNewline
by_end false false false empty = NotEscaped

abbrev form_hint : List ℕ → Bool → Hint
form_hint line is_last = by_end (is_at 13 (last_byte line)) (is_at 32 (last_byte line) || is_at 9 (last_byte line)) is_last (is_empty line)

no_blank : (line : List ℕ) → HasPlainEnd line → (is_at 32 (last_byte line) || is_at 9 (last_byte line)) ≡ false
no_blank line ends = ap (λ x. x || is_at 9 (last_byte line)) (not_at 32 (last_byte line) ends.no_space) ∙ not_at 9 (last_byte line) ends.no_tab

different : (m n : ℕ) (last : Option ℕ) → last ≡ Some m → (m == n) ≡ false → is_at n last ≡ false
different m n last is other = ap (is_at n) is ∙ other

module _ (line : List ℕ) (is_last : Bool) where
  by_blank : is_at 13 (last_byte line) ≡ false → (is_at 32 (last_byte line) || is_at 9 (last_byte line)) ≡ true → BlankAtEnd ≡ form_hint line is_last
  by_blank other blank = sym (ap (λ r. by_end r (is_at 32 (last_byte line) || is_at 9 (last_byte line)) is_last (is_empty line)) other ∙ ap (λ b. by_end false b is_last (is_empty line)) blank)

  by_plain : HasPlainEnd line → by_end false false is_last (is_empty line) ≡ form_hint line is_last
  by_plain ends = sym (ap (λ r. by_end r (is_at 32 (last_byte line) || is_at 9 (last_byte line)) is_last (is_empty line)) (not_at 13 (last_byte line) ends.no_return)
      ∙ ap (λ b. by_end false b is_last (is_empty line)) (no_blank line ends))

-- each hint is that one
form_is : (line : List ℕ) (is_last : Bool) (h : Hint) → TellsOfForm line is_last h → h ≡ form_hint line is_last
form_is line is_last CarriageReturn is = sym (ap (λ r. by_end r (is_at 32 (last_byte line) || is_at 9 (last_byte line)) is_last (is_empty line)) (at 13 (last_byte line) is))
form_is line is_last BlankAtEnd (inl is) = by_blank line is_last (different 32 13 (last_byte line) is refl) (ap (λ x. x || is_at 9 (last_byte line)) (at 32 (last_byte line) is))
form_is line is_last BlankAtEnd (inr is) = by_blank line is_last (different 9 13 (last_byte line) is refl) (ap (λ x. x || is_at 9 (last_byte line)) (different 9 32 (last_byte line) is refl) ∙ at 9 (last_byte line) is)
form_is line is_last NoNewline is =
    sym (ap (λ l. by_end false false l (is_empty line)) is.2 ∙ ap (by_end false false true) (filled line is.1)) ∙ by_plain line is_last is.0
form_is line is_last NoLine is = subst (λ l. NoLine ≡ form_hint line l) (sym is.1) (subst (λ x. NoLine ≡ form_hint x true) (sym is.0) refl)
form_is line is_last NotEscaped is = sym (ap (λ l. by_end false false l (is_empty line)) is.2) ∙ by_plain line is_last is.0
form_is line is_last _ is = absurd is

one_form : (line : List ℕ) (is_last : Bool) (h i : Hint) → TellsOfForm line is_last h → TellsOfForm line is_last i → h ≡ i
one_form line is_last h i a b = form_is line is_last h a ∙ sym (form_is line is_last i b)

-- ---- a step

one_step : (name : List ℕ) (all later : List (List ℕ)) → (HaveStep name later → HaveStep name all) → (h i : Hint)
    → TellsOfStep name all later h → TellsOfStep name all later i → h ≡ i
one_step name all later among LaterStep LaterStep a b = refl
one_step name all later among LaterStep OwnStep a b = absurd (b.0 a)
one_step name all later among LaterStep NoStep a b = absurd (b (among a))
one_step name all later among LaterStep _ a b = absurd b
one_step name all later among OwnStep LaterStep a b = absurd (a.0 b)
one_step name all later among OwnStep OwnStep a b = refl
one_step name all later among OwnStep NoStep a b = absurd (b a.1)
one_step name all later among OwnStep _ a b = absurd b
one_step name all later among NoStep LaterStep a b = absurd (a (among b))
one_step name all later among NoStep OwnStep a b = absurd (a b.1)
one_step name all later among NoStep NoStep a b = refl
one_step name all later among NoStep _ a b = absurd b
one_step name all later among _ i a b = absurd a

some_same : {X : Type 0} {x y : X} → ◌≡◌ {A = Option X} (Some x) (Some y) → x ≡ y
some_same e = cc

among_all : (name : List ℕ) (before : ℕ) (lines : List (List ℕ)) → HaveStep name (drop before lines) → HaveStep name lines
among_all name before lines have =
    (have.0, subst (λ l. Contains l have.0) (take-append-drop before lines) (Contains-append_right (take before lines) (drop before lines) have.0 have.1), have.2)

-- ---- the hint

one_at : (fault : Fault) (lines : List (List ℕ)) (before : ℕ) (line : List ℕ) (h i : Hint) → TellsOfLine fault lines before line h → TellsOfLine fault lines before line i → h ≡ i
one_at faults.LaterStep lines before line h i a b =
    let same : a.0 ≡ b.0 = some_same (sym a.1 ∙ b.1) in
    one_step a.0 lines (drop before lines) (among_all a.0 before lines) h i a.2 (subst (λ n. TellsOfStep n lines (drop before lines) i) (sym same) b.2)
one_at faults.BadHeader lines before line h i a b = one_form line (is_none (slice_get lines (before + 1))) h i a b
one_at faults.BadLine lines before line h i a b = one_form line (is_none (slice_get lines (before + 1))) h i a b
one_at _ lines before line h i a b = absurd a

pub one_hint : (text : List ℕ) (error : PlanError) (h i : Hint) → TellsOfFault text error h → TellsOfFault text error i → h ≡ i
one_hint text error h i a b =
    let same : a.line ≡ b.line = some_same (sym a.is ∙ b.is) in
    one_at error.fault (lines_of text) (error.line - 1) a.line h i a.tells (subst (λ l. TellsOfLine error.fault (lines_of text) (error.line - 1) l i) (sym same) b.tells)

-- ---- escapes

-- so many digits, and behind them an escaped text
abbrev EscapedBehind : ℕ → List ℕ → Type 0
EscapedBehind zero word = IsEscapedText word
EscapedBehind (suc n) [] = ⊥
EscapedBehind (suc n) (b ∷ rest) = (is_digit b ≡ true) × EscapedBehind n rest

two_digits : (rest : List ℕ) → EscapedBehind 2 rest → IsEscapedText (37 ∷ rest)
two_digits [] has = absurd has
two_digits (high ∷ []) has = absurd has.1
two_digits (high ∷ low ∷ rest) has = escape high low rest has.0 has.1.0 has.1.1

escaped_behind : (n : ℕ) (word : List ℕ) → is_escaped n word ≡ true → EscapedBehind n word
escaped_behind zero [] is = at_end
escaped_behind (suc n) [] is = absurd cc
escaped_behind (suc n) (b ∷ rest) is = let both = and_parts (is_digit b) (is_escaped n rest) is in (both.0, escaped_behind n rest both.1)
escaped_behind zero (b ∷ rest) is = by (λ n. escaped_behind n rest) (b == 37) refl
  where
    by : ((n : ℕ) → is_escaped n rest ≡ true → EscapedBehind n rest) → (t : Bool) → (b == 37) ≡ t → IsEscapedText (b ∷ rest)
    by behind true percent = subst (λ x. IsEscapedText (x ∷ rest)) (sym (eqb-true b 37 percent))
        (two_digits rest (behind 2 (sym (ap (λ t. if t then is_escaped 2 rest else (is_plain b && is_escaped 0 rest)) percent) ∙ is)))
    by behind false other =
        let both = and_parts (is_plain b) (is_escaped 0 rest) (sym (ap (λ t. if t then is_escaped 2 rest else (is_plain b && is_escaped 0 rest)) other) ∙ is) in
        plain b rest both.0 (behind 0 both.1)

pub escaped_word : (word : List ℕ) → is_escaped 0 word ≡ true → IsEscapedText word
escaped_word = escaped_behind 0

-- `%` isn't plain
plain_other : (b : ℕ) → is_plain b ≡ true → (b == 37) ≡ false
plain_other b is = false_from_ne_true (b == 37) (λ percent. let never : false ≡ true = sym (ap is_plain (eqb-true b 37 percent)) ∙ is in cc)

plain_byte : (b : ℕ) (rest : List ℕ) → is_plain b ≡ true → is_escaped 0 (b ∷ rest) ≡ is_escaped 0 rest
plain_byte b rest is =
    ap (λ t. if t then is_escaped 2 rest else (is_plain b && is_escaped 0 rest)) (plain_other b is) ∙ ap (λ t. t && is_escaped 0 rest) is

two_escaped : (high low : ℕ) (rest : List ℕ) → is_digit high ≡ true → is_digit low ≡ true → is_escaped 0 (37 ∷ high ∷ low ∷ rest) ≡ is_escaped 0 rest
two_escaped high low rest a b = ap (λ t. t && (is_digit low && is_escaped 0 rest)) a ∙ ap (λ t. t && is_escaped 0 rest) b

pub word_escaped : (word : List ℕ) → IsEscapedText word → is_escaped 0 word ≡ true
word_escaped word at_end = refl
word_escaped word (plain b rest is behind) = plain_byte b rest is ∙ word_escaped rest behind
word_escaped word (escape high low rest a b behind) = two_escaped high low rest a b ∙ word_escaped rest behind

-- ---- what is spelled

hex_is_digit : (n : ℕ) → n < 16 → is_digit (hex_digit n) ≡ true
hex_is_digit n less = agree_below_at (λ k. is_digit (hex_digit k)) (λ k. true) 16 n refl less

byte_spelled : (b : ℕ) (rest : List ℕ) → b < 256 → is_escaped 0 (escaped_byte b ++ rest) ≡ is_escaped 0 rest
byte_spelled b rest few = by (is_plain b) refl
  where
    by : (t : Bool) → is_plain b ≡ t → is_escaped 0 (escaped_byte b ++ rest) ≡ is_escaped 0 rest
    by true is = ap (λ t. is_escaped 0 ((if t then b ∷ [] else (37 ∷ hex_digit (b / 16) ∷ hex_digit (b % 16) ∷ [])) ++ rest)) is ∙ plain_byte b rest is
    by false is = ap (λ t. is_escaped 0 ((if t then b ∷ [] else (37 ∷ hex_digit (b / 16) ∷ hex_digit (b % 16) ∷ [])) ++ rest)) is
        ∙ two_escaped (hex_digit (b / 16)) (hex_digit (b % 16)) rest (hex_is_digit (b / 16) (omega (arith, few))) (hex_is_digit (b % 16) (omega arith))

pub spelled_word : (text : List ℕ) → All (λ b. b < 256) text → is_escaped 0 (escaped text) ≡ true
spelled_word [] all = refl
spelled_word (b ∷ rest) all = byte_spelled b (escaped rest) (All-head (λ n. n < 256) b rest all) ∙ spelled_word rest (All-tail (λ n. n < 256) b rest all)
