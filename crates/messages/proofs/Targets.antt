-- Targets, by their test and by their rules.
use Rattle.std.proofs.Common.{◌≡◌, ℕ, true, false, ltb, eqb, not, ◌&&◌, List, length, Result, Ok, Err, refl, subst}
use Rattle.std.specs.Prelude.{IfOk}
use Rattle.std.specs.List.{list_any}
use Rattle.std.specs.Str.{IsUtf8, is_utf8}
use Rattle.std.proofs.lemmas.Str.{is_utf8-from_IsUtf8}
use Rattle.messages.specs.declared.error.MessageError.{MessageError}
use Rattle.messages.specs.declared.error.MessageError.TheVariants.{BadPath}
use Rattle.messages.specs.Gives.{GivesUnlessMemory}
use Rattle.messages.specs.Target.{IsTarget, IsLink, is_link, target_of}
use Rattle.messages.proofs.Choices.{chosen_ok, and_first, and_second, and_both, not_true, false_not, none_is, none_found}
use Rattle.messages.proofs.Names.{utf8_test, some_byte, byte_some, few, few_test}

pub IsLink-from : (text : List ℕ) → is_link text ≡ true → IsLink text
IsLink-from text h =
    let s1 = and_first (not (eqb (length text) 0) && ltb (length text) 4097) (not (list_any (λ b. eqb b 0) text)) h in
    record {
      some = some_byte (length text) (and_first (not (eqb (length text) 0)) (ltb (length text) 4097) s1);
      short = few (length text) 4096 (and_second _ _ s1);
      no_nul = none_is 0 text (not_true (list_any (λ b. eqb b 0) text) (and_second _ _ h));
    }

pub is_link-from : (text : List ℕ) → IsLink text → is_link text ≡ true
is_link-from text h =
    and_both _ _ (and_both _ _ (byte_some (length text) h.some) (few_test (length text) 4096 h.short))
    (false_not _ (none_found 0 text h.no_nul))

target_test : (text : List ℕ) → IsTarget text → (is_utf8 text && is_link text) ≡ true
target_test text h = and_both _ _ h.utf8 (is_link-from text h.link)

IsTarget-from : (text : List ℕ) → (is_utf8 text && is_link text) ≡ true → IsTarget text
IsTarget-from text h = record { utf8 = and_first (is_utf8 text) (is_link text) h; link = IsLink-from text (and_second (is_utf8 text) (is_link text) h) }

-- ---- a target that is read

pub target_given : (target : List ℕ) → IsTarget target → target_of target ≡ Ok target
target_given target is = let t = target_test target is in rw t refl

pub target_found : (text target : List ℕ) → target_of text ≡ Ok target → (text ≡ target) × IsTarget target
target_found text target e =
    let c = chosen_ok (is_utf8 text && is_link text) text BadPath target e in
    (c.1, subst IsTarget c.1 (IsTarget-from text c.0))

pub target_valid : (text : List ℕ) → IsUtf8 text → is_link text ≡ true → IsTarget text
target_valid text utf8 link = record { utf8 = is_utf8-from_IsUtf8 text utf8; link = IsLink-from text link }

pub no_text : (text : List ℕ) → (IsUtf8 text → ⊥) → target_of text ≡ Err BadPath
no_text text isnt = let u = utf8_test text isnt in rw u refl

pub no_target : (text : List ℕ) → IsUtf8 text → is_link text ≡ false → target_of text ≡ Err BadPath
no_target text utf8 isnt = let u = is_utf8-from_IsUtf8 text utf8 in rw (u, isnt) refl

pub target_read_found : (text : List ℕ) (r : Result (List ℕ) MessageError) → GivesUnlessMemory (λ x. x) r (target_of text) → IfOk r (λ x. IsTarget x × (text ≡ x))
target_read_found text (Ok x) given = let f = target_found text x given in (f.1, f.0)
target_read_found text (Err e) given = tt
