-- Choices between a value and a refusal, and what their tests say.
use Rattle.std.proofs.Common.{◌≡◌, ◌≢◌, ℕ, Bool, true, false, cond, eqb, not, ◌&&◌, ◌||◌, List, [], ◌∷◌, Result, Ok, Err, refl, sym, ap, ◌∙◌}
use Rattle.std.proofs.lemmas.Bool.{eqb-true, eq-eqb}
use Rattle.std.specs.List.{AllByRecursion, list_any}
use Rattle.wire.proofs.Steps.{ok_is}
use Rattle.messages.specs.declared.error.MessageError.{MessageError}
use Rattle.messages.specs.Gives.{RefusesBeforeMemory}

pub chosen_ok : {A E : Type 0} (b : Bool) (x : A) (e : E) (y : A) → cond b (Ok x) (Err e) ≡ Ok y → (b ≡ true) × (x ≡ y)
chosen_ok {A} {E} true x e y h = (refl, ok_is {E = E} x y h)
chosen_ok {A} {E} false x e y h = absurd cc

pub and_first : (a b : Bool) → (a && b) ≡ true → a ≡ true
and_first true b h = refl
and_first false b h = absurd cc

pub and_second : (a b : Bool) → (a && b) ≡ true → b ≡ true
and_second true b h = h
and_second false b h = absurd cc

pub and_both : (a b : Bool) → a ≡ true → b ≡ true → (a && b) ≡ true
and_both true b h k = k
and_both false b h k = absurd cc

pub or_false : (a b : Bool) → (a || b) ≡ false → (a ≡ false) × (b ≡ false)
or_false true b e = absurd cc
or_false false b e = (refl, e)

pub or_neither : (a b : Bool) → a ≡ false → b ≡ false → (a || b) ≡ false
or_neither true b h k = absurd cc
or_neither false b h k = k

pub not_true : (b : Bool) → not b ≡ true → b ≡ false
not_true true h = absurd cc
not_true false h = refl

pub false_not : (b : Bool) → b ≡ false → not b ≡ true
false_not true h = absurd cc
false_not false h = refl

pub differ : (a b : ℕ) (t : Bool) → eqb a b ≡ t → a ≢ b → t ≡ false
differ a b true e h = absurd (h (eqb-true a b e))
differ a b false e h = refl

apart : (a b : ℕ) → eqb a b ≡ false → a ≢ b
apart a b h = λ e. let t = eq-eqb a b e in cc

-- no byte is c
pub none_is : (c : ℕ) (text : List ℕ) → list_any (λ b. eqb b c) text ≡ false → AllByRecursion (λ b. b ≢ c) text
none_is c [] h = tt
none_is c (b ∷ text) h = let o = or_false (eqb b c) (list_any (λ x. eqb x c) text) h in (apart b c o.0, none_is c text o.1)

pub none_found : (c : ℕ) (text : List ℕ) → AllByRecursion (λ b. b ≢ c) text → list_any (λ b. eqb b c) text ≡ false
none_found c [] h = refl
none_found c (b ∷ text) h = or_neither (eqb b c) (list_any (λ x. eqb x c) text) (differ b c (eqb b c) refl h.0) (none_found c text h.1)

-- ---- refusals, which come before lack of memory

pub given_unrefused : {X Y : Type 0} (r : Result X MessageError) (read : Result Y MessageError) (y : Y) → read ≡ Ok y → RefusesBeforeMemory r read
given_unrefused r read y given = λ e h. let k : Ok y ≡ Err e = sym given ∙ h in absurd cc

pub refusal_told : {X Y : Type 0} (read : Result Y MessageError) (e : MessageError) → read ≡ Err e → RefusesBeforeMemory {X = X} (Err e) read
refusal_told read e refused = λ f h. let k : Err e ≡ Err f = sym refused ∙ h in let i : e ≡ f = cc in ap Err i
