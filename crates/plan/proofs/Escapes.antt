-- Escapes of the crate `percent_encoding` are those of the definition.
use Rattle.std.proofs.Common.{◌≡◌, ◌≢◌, nat_eq, All, ℕ, ◌<◌, ◌/◌, ◌%◌, Bool, true, false, not, cond, List, [], ◌∷◌, ◌++◌, refl, ap, sym, ◌∙◌, arith, get_or, suc}
use Rattle.std.specs.Cmp.Lexicographic.{pointwise, bytes_decides}
use Rattle.std.proofs.Math.Nat.{mod-eq_of_lt}
use Rattle.std.proofs.lemmas.Bool.{agree_below_at}
use Rattle.std.proofs.lemmas.List.Elements.{All-head, All-tail}
use Rattle.messages.specs.Path.{IsPath, path_text}
use Rattle.messages.proofs.Paths.{text_utf8}
use Rattle.percent_encoding.specs.AsciiSet.{should_percent_encode}
use Rattle.percent_encoding.proofs.PercentLemmas.{IsByte, round_trip}
use Rattle.plan.proofs.TextBytes.{All-from_IsUtf8}
use Rattle.percent_encoding.specs.Percent.{percent_encode, percent_decode, percent_encode_byte, encode_byte}
use Rattle.plan.specs.declared.escaped.TheConstants.{ESCAPED}
use Rattle.plan.specs.Escape.{is_plain, escaped_byte, escaped, escaped_path}

should_percent_encode-plain : (b : ℕ) → b < 256 → should_percent_encode ESCAPED b ≡ not (is_plain b)
unfolding should_percent_encode
should_percent_encode-plain b h = agree_below_at (should_percent_encode ESCAPED) (λ b. not (is_plain b)) 256 b refl h

high : (b : ℕ) → b < 256 → b / 16 % 16 ≡ b / 16
high b h = mod-eq_of_lt (omega arith)

turned : (x : Bool) (p q : List ℕ) → cond (not x) p q ≡ cond x q p
turned true p q = refl
turned false p q = refl

encode_byte-escaped : (b : ℕ) → b < 256 → encode_byte ESCAPED b ≡ escaped_byte b
unfolding percent_encode_byte
encode_byte-escaped b h = rw (should_percent_encode-plain b h, high b h) (turned (is_plain b) _ _)

pub percent_encode-escaped : (bs : List ℕ) → ((i : ℕ) → get_or bs i 0 < 256) → percent_encode ESCAPED bs ≡ escaped bs
unfolding percent_encode
percent_encode-escaped [] h = refl
percent_encode-escaped (b ∷ bs) h = rw (encode_byte-escaped b (h 0)) (ap (λ l. escaped_byte b ++ l) (percent_encode-escaped bs (λ i. h (suc i))))

encoded_bytes : (bs : List ℕ) → All IsByte bs → percent_encode ESCAPED bs ≡ escaped bs
unfolding percent_encode
encoded_bytes [] h = refl
encoded_bytes (b ∷ bs) h = rw (encode_byte-escaped b (All-head IsByte b bs h)) (ap (λ l. escaped_byte b ++ l) (encoded_bytes bs (All-tail IsByte b bs h)))

path_bytes : (path : List (List ℕ)) → IsPath path → All IsByte (path_text path)
path_bytes path is = All-from_IsUtf8 (path_text path) (text_utf8 path is.each)

pub percent_encode-escaped_path : (path : List (List ℕ)) → IsPath path → percent_encode ESCAPED (path_text path) ≡ escaped_path path
percent_encode-escaped_path path is = encoded_bytes (path_text path) (path_bytes path is)

-- a text of bytes stands for what was escaped
pub percent_decode-escaped : (bs : List ℕ) → All IsByte bs → percent_decode (escaped bs) ≡ bs
percent_decode-escaped bs h = ap percent_decode (sym (encoded_bytes bs h)) ∙ round_trip ESCAPED bs refl h

pub percent_decode-escaped_path : (path : List (List ℕ)) → IsPath path → percent_decode (escaped_path path) ≡ path_text path
percent_decode-escaped_path path is = percent_decode-escaped (path_text path) (path_bytes path is)

-- texts that a test tells apart differ
pub told_apart : (xs ys : List ℕ) → not (pointwise nat_eq xs ys) ≡ true → xs ≢ ys
told_apart xs ys other e = let same = (bytes_decides xs ys).1 e in cc
