-- A hash in hex, both ways.
use Rattle.std.proofs.Common.{◌≡◌, ℕ, ◌<◌, Bool, true, false, List, Result, Ok, Err, refl, sym, subst, ◌∙◌, arith}
use Rattle.std.specs.Prelude.{◌↔◌, IsSome, IfSome}
use Rattle.std.specs.List.{All, list_all, slice_index_or}
use Rattle.std.specs.Result.{result_ok}
use Rattle.std.specs.Str.{is_utf8}
use Rattle.std.proofs.lemmas.Str.{is_utf8-from_IsUtf8, IsUtf8-from_ascii}
use Rattle.std.proofs.lemmas.Str.Ascii.{IsAscii-from_all}
use Rattle.std.proofs.lemmas.List.Sums.{AllPass-from_list_all, list_all-from_AllPass}
use Rattle.hex.specs.Hex.{encode_lower, decode_sized}
use Rattle.hex.specs.declared.error.FromHexError.{FromHexError}
use Rattle.blob_digest.specs.DigestValue.{IsHash}
use Rattle.blob_digest.specs.Text.{is_lower_hex, IsHashText}
use Rattle.blob_digest.specs.declared.error.DigestError.TheVariants.{BadHex}
use Rattle.blob_digest.proofs.HexTexts.{found_in, some_in, hash_given, lower-encode, lower-below}
use Rattle.messages.specs.declared.error.MessageError.{MessageError}
use Rattle.messages.specs.declared.error.MessageError.TheVariants.{BadDigest}
use Rattle.messages.specs.DigestMessage.{hash_of}
use Rattle.wire.proofs.Steps.{ok_is}

decoded : (text hash : List ℕ) (t : Bool) (r : Result (List ℕ) FromHexError) → list_all is_lower_hex text ≡ t → decode_sized text 32 ≡ r → hash_of text ≡ Ok hash → IsHash hash × (text ≡ encode_lower hash)
unfolding hash_of
decoded text hash true (Ok h) lower e given =
    let same : h ≡ hash = ok_is {E = MessageError} h hash (sym (rw (lower, e) refl) ∙ given) in
    let found : IfSome (result_ok (decode_sized text 32)) (λ x. IsHash x × (text ≡ encode_lower x)) = found_in text (AllPass-from_list_all is_lower_hex text lower) (decode_sized text 32) refl in
    let at : IsHash h × (text ≡ encode_lower h) = rw e at found in
    subst (λ (x : List ℕ). IsHash x × (text ≡ encode_lower x)) same at
decoded text hash true (Err f) lower e given = let refused = rw (lower, e) at given in absurd cc
decoded text hash false r lower e given = let refused = rw lower at given in absurd cc

-- what is read as a hash is one, and is spelled so
pub hash_found : (text hash : List ℕ) → hash_of text ≡ Ok hash → IsHash hash × (text ≡ encode_lower hash)
hash_found text hash e = decoded text hash (list_all is_lower_hex text) (decode_sized text 32) refl refl e

-- what is spelled of a hash is read as it
pub hash_again : (hash : List ℕ) → IsHash hash → hash_of (encode_lower hash) ≡ Ok hash
unfolding hash_of
hash_again hash h =
    let lower = list_all-from_AllPass is_lower_hex (encode_lower hash) (lower-encode hash h.bytes) in
    let given = hash_given hash h in
    rw (lower, given) refl

none_read : (text : List ℕ) (t : Bool) (r : Result (List ℕ) FromHexError) → list_all is_lower_hex text ≡ t → decode_sized text 32 ≡ r → (IsHashText text → ⊥) → hash_of text ≡ Err (BadDigest BadHex)
unfolding hash_of
none_read text true (Ok h) lower e isnt =
    let some : IsSome (result_ok (decode_sized text 32)) ↔ IsHashText text = some_in text (AllPass-from_list_all is_lower_hex text lower) (decode_sized text 32) refl in
    absurd (isnt (some.0 (rw e refl)))
none_read text true (Err f) lower e isnt = rw (lower, e) refl
none_read text false r lower e isnt = rw lower refl

-- a text that is no hash is refused
pub hash_refused : (text : List ℕ) → (IsHashText text → ⊥) → hash_of text ≡ Err (BadDigest BadHex)
hash_refused text isnt = none_read text (list_all is_lower_hex text) (decode_sized text 32) refl refl isnt

-- what is written of a hash is UTF-8
pub hash_utf8 : (hash : List ℕ) → IsHash hash → is_utf8 (encode_lower hash) ≡ true
hash_utf8 hash h =
    let pass = lower-encode hash h.bytes in
    let small : All (λ b. b < 128) (encode_lower hash) = λ k d lt. let low : slice_index_or (encode_lower hash) k d < 103 = lower-below (slice_index_or (encode_lower hash) k d) (pass k d lt) in omega arith in
    is_utf8-from_IsUtf8 (encode_lower hash) (IsUtf8-from_ascii (encode_lower hash) (IsAscii-from_all (encode_lower hash) small))
