-- Names, by their test and by their rules.
use Rattle.std.proofs.Common.{◌≡◌, ◌≢◌, ℕ, ◌<◌, ◌≤◌, Bool, true, false, ltb, eqb, not, ◌&&◌, List, [], ◌∷◌, length, ◌+◌, Result, Ok, Err, refl, ap, subst, arith}
use Rattle.std.specs.Prelude.{IfOk}
use Rattle.std.proofs.lemmas.Bool.{eqb-true}
use Rattle.std.proofs.lemmas.Bool.Decides.{nat_tests}
use Rattle.std.specs.List.{list_any}
use Rattle.std.specs.Str.{IsUtf8, is_utf8}
use Rattle.std.proofs.lemmas.Str.{is_utf8-from_IsUtf8, IsUtf8-from_is_utf8}
use Rattle.messages.specs.declared.error.MessageError.{MessageError}
use Rattle.messages.specs.declared.error.MessageError.TheVariants.{BadName}
use Rattle.messages.specs.Gives.{GivesUnlessMemory}
use Rattle.messages.specs.Name.{IsName, IsSegment, is_dots, is_segment, name_of}
use Rattle.messages.proofs.Choices.{chosen_ok, and_first, and_second, and_both, not_true, false_not, none_is, none_found}

no_dot : (text : List ℕ) → is_dots text ≡ false → text ≢ 46 ∷ []
no_dot text h = λ e. let d = ap is_dots e in cc

no_dots : (text : List ℕ) → is_dots text ≡ false → text ≢ 46 ∷ 46 ∷ []
no_dots text h = λ e. let d = ap is_dots e in cc

one_dot : (a : ℕ) (t : Bool) → eqb a 46 ≡ t → a ∷ [] ≢ 46 ∷ [] → t ≡ false
one_dot a true e h = absurd (h (ap (λ x. x ∷ []) (eqb-true a 46 e)))
one_dot a false e h = refl

two_dots : (a b : ℕ) (t u : Bool) → eqb a 46 ≡ t → eqb b 46 ≡ u → a ∷ b ∷ [] ≢ 46 ∷ 46 ∷ [] → (t && u) ≡ false
two_dots a b true true e f h = let x = eqb-true a 46 e in let y = eqb-true b 46 f in absurd (h cc)
two_dots a b true false e f h = refl
two_dots a b false u e f h = refl

not_dots : (text : List ℕ) → text ≢ 46 ∷ [] → text ≢ 46 ∷ 46 ∷ [] → is_dots text ≡ false
not_dots [] h k = refl
not_dots (a ∷ []) h k = one_dot a (eqb a 46) refl h
not_dots (a ∷ b ∷ []) h k = two_dots a b (eqb a 46) (eqb b 46) refl refl k
not_dots (a ∷ b ∷ c ∷ rest) h k = refl

pub some_byte : (n : ℕ) → not (eqb n 0) ≡ true → 0 < n
some_byte n h = grind (arith, nat_tests)

pub byte_some : (n : ℕ) → 0 < n → not (eqb n 0) ≡ true
byte_some n h = grind (arith, nat_tests)

pub few : (n m : ℕ) → ltb n (m + 1) ≡ true → n ≤ m
few n m h = grind (arith, nat_tests)

pub few_test : (n m : ℕ) → n ≤ m → ltb n (m + 1) ≡ true
few_test n m h = grind (arith, nat_tests)

pub IsSegment-from : (text : List ℕ) → is_segment text ≡ true → IsSegment text
IsSegment-from text h =
    let s1 = and_first (not (eqb (length text) 0) && ltb (length text) 256 && not (list_any (λ b. eqb b 47) text) && not (list_any (λ b. eqb b 0) text)) (not (is_dots text)) h in
    let s2 = and_first (not (eqb (length text) 0) && ltb (length text) 256 && not (list_any (λ b. eqb b 47) text)) (not (list_any (λ b. eqb b 0) text)) s1 in
    let s3 = and_first (not (eqb (length text) 0) && ltb (length text) 256) (not (list_any (λ b. eqb b 47) text)) s2 in
    let dots = not_true (is_dots text) (and_second _ _ h) in
    record {
      some = some_byte (length text) (and_first (not (eqb (length text) 0)) (ltb (length text) 256) s3);
      short = few (length text) 255 (and_second _ _ s3);
      no_slash = none_is 47 text (not_true (list_any (λ b. eqb b 47) text) (and_second _ _ s2));
      no_nul = none_is 0 text (not_true (list_any (λ b. eqb b 0) text) (and_second _ _ s1));
      no_dot = no_dot text dots;
      no_dots = no_dots text dots;
    }

pub is_segment-from : (text : List ℕ) → IsSegment text → is_segment text ≡ true
is_segment-from text h =
    and_both _ _ (and_both _ _ (and_both _ _ (and_both _ _ (byte_some (length text) h.some) (few_test (length text) 255 h.short))
    (false_not _ (none_found 47 text h.no_slash))) (false_not _ (none_found 0 text h.no_nul)))
    (false_not _ (not_dots text h.no_dot h.no_dots))

pub name_test : (text : List ℕ) → IsName text → (is_utf8 text && is_segment text) ≡ true
name_test text h = and_both _ _ h.utf8 (is_segment-from text h.segment)

pub IsName-from : (text : List ℕ) → (is_utf8 text && is_segment text) ≡ true → IsName text
IsName-from text h = record { utf8 = and_first (is_utf8 text) (is_segment text) h; segment = IsSegment-from text (and_second (is_utf8 text) (is_segment text) h) }

-- ---- a name that is read

pub name_given : (name : List ℕ) → IsName name → name_of name ≡ Ok name
name_given name is = let t = name_test name is in rw t refl

pub name_found : (text name : List ℕ) → name_of text ≡ Ok name → (text ≡ name) × IsName name
name_found text name e =
    let c = chosen_ok (is_utf8 text && is_segment text) text BadName name e in
    (c.1, subst IsName c.1 (IsName-from text c.0))

not_utf8 : (text : List ℕ) (b : Bool) → is_utf8 text ≡ b → (IsUtf8 text → ⊥) → b ≡ false
not_utf8 text true e isnt = absurd (isnt (IsUtf8-from_is_utf8 text e))
not_utf8 text false e isnt = refl

pub utf8_test : (text : List ℕ) → (IsUtf8 text → ⊥) → is_utf8 text ≡ false
utf8_test text isnt = not_utf8 text (is_utf8 text) refl isnt

pub name_valid : (text : List ℕ) → IsUtf8 text → is_segment text ≡ true → IsName text
name_valid text utf8 segment = record { utf8 = is_utf8-from_IsUtf8 text utf8; segment = IsSegment-from text segment }

pub no_text : (text : List ℕ) → (IsUtf8 text → ⊥) → name_of text ≡ Err BadName
no_text text isnt = let u = utf8_test text isnt in rw u refl

pub no_name : (text : List ℕ) → IsUtf8 text → is_segment text ≡ false → name_of text ≡ Err BadName
no_name text utf8 isnt = let u = is_utf8-from_IsUtf8 text utf8 in rw (u, isnt) refl

pub name_read_found : (text : List ℕ) (r : Result (List ℕ) MessageError) → GivesUnlessMemory (λ x. x) r (name_of text) → IfOk r (λ x. IsName x × (text ≡ x))
name_read_found text (Ok x) given = let f = name_found text x given in (f.1, f.0)
name_read_found text (Err e) given = tt
