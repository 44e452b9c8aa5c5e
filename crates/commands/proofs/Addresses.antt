-- Where HOST:PORT is cut: at the last colon, since a number has none.
use Rattle.std.proofs.Common.{◌≡◌, ◌≢◌, ◌∙◌, ℕ, ◌<◌, List, [], ◌∷◌, ◌++◌, ◌==◌, ap, arith, drop, get_or, length, length-append, refl, suc, zero, subst, sym, take, take-append-drop}
use Rattle.std.specs.Prelude.{None}
use Rattle.std.specs.Char.{digit_value}
use Rattle.std.specs.Str.{NoCharPasses}
use Rattle.std.specs.Str.Parse.{AllDigits}
use Rattle.std.specs.Str.Pattern.{RFindsChar, SplitsAroundMatch}
use Rattle.std.proofs.lemmas.Str.Pattern.{NoCharPasses-char, drop_at_char}
use Rattle.std.proofs.Math.Seq.{get_or-append_seam}
use Rattle.commands.specs.Options.{IsAddress, IsNumber, decimal_number}

-- no byte is a colon
abbrev Lacks : List ℕ → Type 0
Lacks text = (k : ℕ) → k < length text → get_or text k 0 ≢ 58

digits_lack : (text : List ℕ) → AllDigits 10 text → Lacks text
digits_lack [] all k l e = absurd (omega (arith, l))
digits_lack (b ∷ text) all zero l e = absurd (omega (arith, subst (λ c. digit_value c < 10) e all.0))
digits_lack (b ∷ text) all (suc k) l e = digits_lack text all.1 k (omega (arith, l)) e

in_middle : (us vs : List ℕ) → Lacks (us ++ 58 ∷ vs) → ⊥
in_middle us vs lacks = lacks (length us) (omega (arith, length-append us (58 ∷ vs))) (get_or-append_seam us 58 vs 0)

-- a text is cut at its last colon in one way
one_cut : (xs ys us vs : List ℕ) → xs ++ 58 ∷ ys ≡ us ++ 58 ∷ vs → Lacks ys → Lacks vs → (xs ≡ us) × (ys ≡ vs)
one_cut [] ys [] vs e free bare = (refl, ap (drop 1) e)
one_cut [] ys (u ∷ us) vs e free bare = absurd (in_middle us vs (subst Lacks (ap (drop 1) e) free))
one_cut (x ∷ xs) ys [] vs e free bare = absurd (in_middle xs ys (subst Lacks (sym (ap (drop 1) e)) bare))
one_cut (x ∷ xs) ys (u ∷ us) vs e free bare =
    let below = one_cut xs ys us vs (ap (drop 1) e) free bare in
    (ap (λ b. b ∷ xs) (ap (λ l. get_or l 0 0) e) ∙ ap (λ l. u ∷ l) below.0, below.1)

-- what the two parts have to be
abbrev pub AreAddress : List ℕ → List ℕ → Type 0
AreAddress host port = (0 < length host) × IsNumber port × (decimal_number port < 65536)

module _ (text host port : List ℕ) (h : SplitsAroundMatch (RFindsChar 58) text host port) where
  cut : text ≡ host ++ 58 ∷ port
  cut =
      let at = drop_at_char 58 text h.0 h.1 h.2.1 (omega arith) in
      sym (take-append-drop h.0 text) ∙ ap (λ l. take h.0 text ++ l) at
      ∙ ap (λ l. l ++ 58 ∷ drop h.1 text) (sym h.3) ∙ ap (λ l. host ++ 58 ∷ l) (sym h.4)

  lacks : Lacks port
  lacks k l = NoCharPasses-char 58 port k (subst (λ l. NoCharPasses (λ d. d == 58) l) (sym h.4) h.2.0) (omega arith) l

  pub address_of_parts : AreAddress host port → IsAddress text
  address_of_parts are = record { host = host; port = port; cut = cut; some = are.0; number = are.1; few = are.2 }

  pub parts_of_address : IsAddress text → AreAddress host port
  parts_of_address is =
      let same = one_cut is.host is.port host port (sym is.cut ∙ cut) (digits_lack is.port is.number.0.1) lacks in
      (subst (λ l. 0 < length l) same.0 is.some, subst IsNumber same.1 is.number, subst (λ l. decimal_number l < 65536) same.1 is.few)

pub no_address : (text : List ℕ) → RFindsChar 58 text None → IsAddress text → ⊥
no_address text none is =
    in_middle is.host is.port (subst Lacks is.cut (λ k l. NoCharPasses-char 58 text k none (omega arith) l))
