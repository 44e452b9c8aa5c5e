-- What stands in the spelling of a path.
use Rattle.std.proofs.Common.{◌≡◌, ◌≢◌, nat_eq, ℕ, ◌<◌, Bool, true, false, ◌==◌, ◌||◌, All, List, [], ◌∷◌, refl, ap, sym, ◌∙◌, subst, arith}
use Rattle.std.specs.Cmp.Lexicographic.{pointwise, bytes_decides}
use Rattle.std.specs.List.{list_all, Contains}
use Rattle.std.proofs.lemmas.Bool.{agree_below_at}
use Rattle.std.proofs.lemmas.List.Elements.{All-head, All-tail}
use Rattle.std.proofs.lemmas.List.Folds.{list_all-append}
use Rattle.std.proofs.lemmas.List.Sums.{AllPass-from_list_all}
use Rattle.percent_encoding.specs.Percent.{percent_decode}
use Rattle.percent_encoding.proofs.PercentLemmas.{IsByte, percent_decode-nil, percent_decode_not_percent}
use Rattle.blob_digest.proofs.DigestTexts.{all_pass-without}
use Rattle.messages.specs.Path.{IsPath, path_text, parts_of}
use Rattle.messages.proofs.Paths.{text_utf8, parts_of_path}
use Rattle.plan.specs.Escape.{is_plain, escaped_byte, escaped, escaped_path}
use Rattle.plan.proofs.TextBytes.{All-from_IsUtf8}
use Rattle.plan.proofs.Escapes.{percent_decode-escaped_path}

-- a plain byte or `%`
abbrev is_written : ℕ → Bool
is_written c = is_plain c || (c == 37)

byte_written : (b : ℕ) → b < 256 → list_all is_written (escaped_byte b) ≡ true
byte_written b h = agree_below_at (λ b. list_all is_written (escaped_byte b)) (λ _. true) 256 b refl h

all_written : (bs : List ℕ) → All IsByte bs → list_all is_written (escaped bs) ≡ true
all_written [] h = refl
all_written (b ∷ bs) h =
    list_all-append is_written (escaped_byte b) (escaped bs)
    ∙ rw (byte_written b (All-head IsByte b bs h), all_written bs (All-tail IsByte b bs h)) refl

-- no other byte stands in the spelling of a path
pub escaped_path-without : (path : List (List ℕ)) (c : ℕ) → IsPath path → is_written c ≡ false → ¬ Contains (escaped_path path) c
escaped_path-without path c is out =
    all_pass-without is_written (escaped_path path) c (AllPass-from_list_all is_written (escaped_path path) (all_written (path_text path) (All-from_IsUtf8 (path_text path) (text_utf8 path is.each)))) out

-- two paths have two spellings
pub escaped_path-one : (p q : List (List ℕ)) → IsPath p → IsPath q → escaped_path p ≡ escaped_path q → p ≡ q
escaped_path-one p q is was e =
    let texts : path_text p ≡ path_text q = sym (percent_decode-escaped_path p is) ∙ ap percent_decode e ∙ percent_decode-escaped_path q was in
    sym (parts_of_path p is) ∙ ap parts_of texts ∙ parts_of_path q was

-- `.` is the spelling of no path
pub escaped_path-dot : (path : List (List ℕ)) → IsPath path → escaped_path path ≢ 46 ∷ []
escaped_path-dot path is e =
    let dot : percent_decode (46 ∷ []) ≡ 46 ∷ [] = percent_decode_not_percent 46 [] (λ h. omega (arith, h)) ∙ ap (λ l. 46 ∷ l) percent_decode-nil in
    let text : path_text path ≡ 46 ∷ [] = sym (percent_decode-escaped_path path is) ∙ ap percent_decode e ∙ dot in
    let names : path ≡ (46 ∷ []) ∷ [] = sym (parts_of_path path is) ∙ ap parts_of text in
    let is_dot : IsPath ((46 ∷ []) ∷ []) = subst IsPath names is in
    is_dot.each.0.segment.no_dot refl

pub same_text : (xs ys : List ℕ) → pointwise nat_eq xs ys ≡ true → xs ≡ ys
same_text xs ys h = (bytes_decides xs ys).0 h
