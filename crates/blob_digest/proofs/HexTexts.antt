-- Lower-case hex, both ways.
use Rattle.std.proofs.Common.{◌≡◌, ℕ, zero, suc, ◌+◌, ◌*◌, ◌/◌, ◌%◌, ◌<◌, ◌≤◌, ◌==◌, Bool, true, false, not, ◌||◌, List, [], ◌∷◌, ◌++◌, length, take, drop, set, replicate, inl, inr, slice_index, Some, None, Option, unwrap_or, Result, Ok, Err, refl, sym, ap, ◌∙◌, arith}
use Rattle.std.specs.List.{AllPass}
use Rattle.std.proofs.lemmas.Bool.{agree_below_at, eqb-true, cases_lt}
use Rattle.std.proofs.lemmas.List.Elements.{All-cons, All-head, All-nil, All-tail, All-get_or}
use Rattle.std.specs.Prelude.{IsOk, IsSome, IfSome, ◌↔◌}
use Rattle.std.specs.List.{slice_get}
use Rattle.std.specs.Result.{result_ok}
use Rattle.std.proofs.Math.Seq.{take-append_seam, drop-append_seam, get_or-append_seam}
use Rattle.std.proofs.lemmas.List.{length-append, append_assoc, length-set, take_all, take_more, take_more_set, get_or-set_other}
use Rattle.std.proofs.lemmas.Grind.{get_or-set_at}
use Rattle.std.proofs.lemmas.Option.{slice_get-get_or}
use Rattle.hex.specs.Hex.{IsBytes, decode_pairs, decode_of, decode_sized, digit_or_error, hex_digit_value, encode_lower, encode_with, is_hex_digit, lower_digits, pair_value, value_at, ◌>>=◌}
use Rattle.hex.specs.declared.error.FromHexError.{FromHexError}
use Rattle.hex.proofs.HexLemmas.{decode_sized-ok, decode_sized-twice, decode_of-even, decode_of-ok, IsOk-decode_sized, length-encode_with, decode_sized-encode_lower}
use Rattle.blob_digest.specs.DigestValue.{IsHash}
use Rattle.blob_digest.specs.Text.{is_lower_hex, IsHashText, BeginsWithHash}

-- the test that a lower-case digit is written again as itself
abbrev comes_back : ℕ → Bool
comes_back c = not (is_lower_hex c) || (slice_index lower_digits (unwrap_or (hex_digit_value c) 99) == c)

abbrev lower_reads : ℕ → Bool
lower_reads c = not (is_lower_hex c) || is_hex_digit c

abbrev holds : ℕ → Bool
holds c = true

above : (c : ℕ) → 103 ≤ c → is_lower_hex c ≡ false
above c h = grind arith

unless : (a b : Bool) → a ≡ true → (not a || b) ≡ true → b ≡ true
unless true b h e = e
unless false b h e = cc h

pub lower-below : (c : ℕ) → is_lower_hex c ≡ true → c < 103
lower-below c h = grind (arith, above)

digit_back : (c v : ℕ) → is_lower_hex c ≡ true → hex_digit_value c ≡ Some v → slice_index lower_digits v ≡ c
digit_back c v h e =
    let same = eqb-true (slice_index lower_digits (unwrap_or (hex_digit_value c) 99)) c
    (unless (is_lower_hex c) _ h (agree_below_at comes_back holds 103 c refl (lower-below c h))) in
    sym (ap (λ (o : Option ℕ). slice_index lower_digits (unwrap_or o 99)) e) ∙ same

pub lower-reads : (c : ℕ) → is_lower_hex c ≡ true → is_hex_digit c ≡ true
lower-reads c h = unless (is_lower_hex c) _ h (agree_below_at lower_reads holds 103 c refl (lower-below c h))

bind_ok : {A B : Type 0} (r : Result A FromHexError) (f : A → Result B FromHexError) (y : B)
    → (r >>= f) ≡ Ok y → (x : A) × (r ≡ Ok x) × (f x ≡ Ok y)
bind_ok (Ok x) f y h = (x, refl, h)
bind_ok (Err e) f y h = cc h

digit_read : (c i : ℕ) (o : Option ℕ) (v : ℕ) → digit_or_error c i o ≡ Ok v → o ≡ Some v
digit_read c i (Some w) v h = cc h
digit_read c i None v h = cc h

value_small : (c v : ℕ) → hex_digit_value c ≡ Some v → v < 16
value_small c v h = grind arith

abbrev is_lower : ℕ → Type 0
is_lower c = is_lower_hex c ≡ true

abbrev is_digit : ℕ → Type 0
is_digit c = is_hex_digit c ≡ true

-- what lower-case digits say is written again as these digits
pub pairs_back : (i : ℕ) (s bytes : List ℕ) → AllPass is_lower_hex s → decode_pairs i s ≡ Ok bytes → encode_lower bytes ≡ s
unfolding decode_pairs encode_with
pairs_back i [] bytes h e = let none : [] ≡ bytes = cc e in rw (← none) refl
pairs_back i (a ∷ []) bytes h e = cc e
pairs_back i (a ∷ b ∷ rest) bytes h e =
    let p0 = bind_ok (pair_value a b i) _ bytes e in
    let p1 = bind_ok (value_at a i) _ p0.0 p0.1 in
    let p2 = bind_ok (value_at b (i + 1)) _ p0.0 p1.2 in
    let p3 = bind_ok (decode_pairs (i + 2) rest) _ bytes p0.2 in
    let tail = All-tail is_lower a (b ∷ rest) h in
    let ih = pairs_back (i + 2) rest p3.0 (All-tail is_lower b rest tail) p3.1 in
    let ra = digit_read a i (hex_digit_value a) p1.0 p1.1 in
    let rb = digit_read b (i + 1) (hex_digit_value b) p2.0 p2.1 in
    let da = digit_back a p1.0 (All-head is_lower a (b ∷ rest) h) ra in
    let db = digit_back b p2.0 (All-head is_lower b rest tail) rb in
    let sa = value_small a p1.0 ra in
    let sb = value_small b p2.0 rb in
    let byte : p1.0 * 16 + p2.0 ≡ p0.0 = cc p2.2 in
    let all : p0.0 ∷ p3.0 ≡ bytes = cc p3.2 in
    let high : p0.0 / 16 ≡ p1.0 = omega arith in
    let low : p0.0 % 16 ≡ p2.0 = omega arith in
    rw (← all) (rw (high, low, da, db, ih) refl)

-- lower-case digits of 32 bytes are written again as themselves
pub hash_back : (s bytes : List ℕ) → AllPass is_lower_hex s → decode_sized s 32 ≡ Ok bytes → s ≡ encode_lower bytes
hash_back s bytes h e =
    let len = decode_sized-ok s 32 bytes e in
    let decoded : decode_of s ≡ Ok bytes = sym (decode_sized-twice s 32 len) ∙ e in
    sym (pairs_back 0 s bytes h (sym (decode_of-even s (omega arith)) ∙ decoded))

abbrev glyph_is_lower : ℕ → Bool
glyph_is_lower d = is_lower_hex (slice_index lower_digits d)

-- what is written in lower case are lower-case digits
pub lower-encode : (bytes : List ℕ) → IsBytes bytes → AllPass is_lower_hex (encode_lower bytes)
unfolding encode_with
lower-encode [] h = All-nil is_lower
lower-encode (b ∷ bytes) h =
    let fits : b < 256 = h 0 in
    let high : b / 16 < 16 = omega arith in
    let low : b % 16 < 16 = omega arith in
    let x = slice_index lower_digits (b / 16) in
    let y = slice_index lower_digits (b % 16) in
    All-cons is_lower x (y ∷ encode_lower bytes) (agree_below_at glyph_is_lower holds 16 (b / 16) refl high)
    (All-cons is_lower y (encode_lower bytes) (agree_below_at glyph_is_lower holds 16 (b % 16) refl low) (lower-encode bytes (λ i. h (suc i))))

-- lower-case digits are digits
pub digits-lower : (s : List ℕ) → AllPass is_lower_hex s → AllPass is_hex_digit s
digits-lower [] h = All-nil is_digit
digits-lower (c ∷ s) h = All-cons is_digit c s (lower-reads c (All-head is_lower c s h)) (digits-lower s (All-tail is_lower c s h))

-- 64 lower-case digits decode
pub hash_decodes : (s : List ℕ) → IsHashText s → IsOk (decode_sized s 32)
hash_decodes s h = (IsOk-decode_sized s 32).1 (h.len, digits-lower s h.digits)

-- what is written of 32 bytes is the text of a hash
pub hash_text-encode : (hash : List ℕ) → IsHash hash → IsHashText (encode_lower hash)
hash_text-encode hash h = record { len = let e = length-encode_with lower_digits hash in let n = h.len in omega arith; digits = lower-encode hash h.bytes }

-- what decoding the text of 32 lower-case bytes answers

pub found_in : (s : List ℕ) → AllPass is_lower_hex s → (r : Result (List ℕ) FromHexError) → decode_sized s 32 ≡ r
    → IfSome (result_ok r) (λ hash. IsHash hash × (s ≡ encode_lower hash))
found_in s h (Ok bytes) e =
    let len = decode_sized-ok s 32 bytes e in
    let ok = decode_of-ok s bytes (sym (decode_sized-twice s 32 len) ∙ e) in
    (record { len = let twice = ok.2 in omega arith; bytes = ok.3 }, hash_back s bytes h e)
found_in s h (Err f) e = tt

pub some_in : (s : List ℕ) → AllPass is_lower_hex s → (r : Result (List ℕ) FromHexError) → decode_sized s 32 ≡ r
    → IsSome (result_ok r) ↔ IsHashText s
some_in s h (Ok bytes) e = (λ _. record { len = decode_sized-ok s 32 bytes e; digits = h }, λ _. refl)
some_in s h (Err f) e = (λ x. cc x, λ t. let ok = rw e at (hash_decodes s t) in cc ok)

pub hash_given : (hash : List ℕ) → IsHash hash → decode_sized (encode_lower hash) 32 ≡ Ok hash
hash_given hash h = decode_sized-encode_lower hash 32 h.len h.bytes

take_of : (n : ℕ) (xs ys : List ℕ) → length xs ≡ n → take n (xs ++ ys) ≡ xs
take_of n xs ys e = rw (← e) (take-append_seam xs ys)

drop_of : (n : ℕ) (xs ys : List ℕ) → length xs ≡ n → drop n (xs ++ ys) ≡ ys
drop_of n xs ys e = rw (← e) (drop-append_seam xs ys)

slash_at : (n : ℕ) (xs ys : List ℕ) → length xs ≡ n → slice_get (xs ++ 47 ∷ ys) n ≡ Some 47
slash_at n xs ys e =
    rw (← e) (slice_get-get_or (xs ++ 47 ∷ ys) (length xs) 0 (omega (arith, length-append xs (47 ∷ ys))) ∙ ap Some (get_or-append_seam xs 47 ys 0))

-- the text of a hash before a slash begins with a hash
pub begins-encode : (hash rest : List ℕ) → IsHash hash → BeginsWithHash (encode_lower hash ++ 47 ∷ rest)
begins-encode hash rest h =
    let text = hash_text-encode hash h in
    record {
      hash = rw (take_of 64 (encode_lower hash) (47 ∷ rest) text.len) text;
      slash = slash_at 64 (encode_lower hash) rest text.len;
    }

-- one text has one hash before its slash, and one rest behind it
pub split_once : (g h r s : List ℕ) → IsHash g → IsHash h → encode_lower g ++ 47 ∷ r ≡ encode_lower h ++ 47 ∷ s → (g ≡ h) × (r ≡ s)
split_once g h r s ig ih e =
    let lg = (hash_text-encode g ig).len in
    let lh = (hash_text-encode h ih).len in
    let front : encode_lower g ≡ encode_lower h = sym (take_of 64 (encode_lower g) (47 ∷ r) lg) ∙ ap (take 64) e ∙ take_of 64 (encode_lower h) (47 ∷ s) lh in
    let back : 47 ∷ r ≡ 47 ∷ s = sym (drop_of 64 (encode_lower g) (47 ∷ r) lg) ∙ ap (drop 64) e ∙ drop_of 64 (encode_lower h) (47 ∷ s) lh in
    let decoded : decode_sized (encode_lower g) 32 ≡ decode_sized (encode_lower h) 32 = ap (λ t. decode_sized t 32) front in
    let same : ◌≡◌ {A = Result (List ℕ) FromHexError} (Ok g) (Ok h) = sym (hash_given g ig) ∙ decoded ∙ hash_given h ih in
    (cc, cc)

-- two digits are what their byte is written as
pub byte_back : (h l a b : ℕ) → h < 16 → l < 16 → slice_index lower_digits h ≡ a → slice_index lower_digits l ≡ b
    → encode_lower ((h * 16 + l) ∷ []) ≡ a ∷ b ∷ []
unfolding encode_with
byte_back h l a b hs ls ha lb =
    let high : (h * 16 + l) / 16 ≡ h = omega arith in
    let low : (h * 16 + l) % 16 ≡ l = omega arith in
    rw (high, low, ha, lb) refl

-- the first n bytes of a hash are written as the front of the text
pub record HasSpelled (n : ℕ) (hash text : List ℕ) : Type 0 where
  pub len : length hash ≡ 32
  pub bytes : IsBytes hash
  pub front : encode_lower (take n hash) ≡ take (2 * n) text

encode_append : (xs ys : List ℕ) → encode_lower (xs ++ ys) ≡ encode_lower xs ++ encode_lower ys
unfolding encode_with
encode_append [] ys = refl
encode_append (x ∷ xs) ys = rw (encode_append xs ys) refl

two_more : (n : ℕ) (xs : List ℕ) → 2 * n + 1 < length xs
    → take (2 * (n + 1)) xs ≡ take (2 * n) xs ++ (slice_index xs (2 * n) ∷ slice_index xs (2 * n + 1) ∷ [])
two_more n xs lt =
    let first = take_more xs (2 * n) 0 (omega arith) in
    let second = take_more xs (2 * n + 1) 0 lt in
    let even : 2 * n + 1 + 1 ≡ 2 * (n + 1) = omega arith in
    let joined = append_assoc (take (2 * n) xs) (slice_index xs (2 * n) ∷ []) (slice_index xs (2 * n + 1) ∷ []) in
    rw (← even) (second ∙ (rw first joined))

byte_set : (xs : List ℕ) (n b : ℕ) → n < length xs → b < 256 → IsBytes xs → IsBytes (set xs n b)
byte_set xs n b lt small are i =
    elim (cases_lt i n) [
      | inl less ↦ rw (get_or-set_other xs n i b 0 (λ e. omega (arith, e, less))) (are i)
      | inr most ↦ elim (cases_lt n i) [
        | inl more ↦ rw (get_or-set_other xs n i b 0 (λ e. omega (arith, e, more))) (are i)
        | inr least ↦ rw (get_or-set_at xs n i b 0 (omega (arith, most, least)) lt) small
      ]
    ]

pub spelled_on : (n b : ℕ) (hash text : List ℕ) → n < 32 → length text ≡ 64 → b < 256
    → encode_lower (b ∷ []) ≡ slice_index text (2 * n) ∷ slice_index text (2 * n + 1) ∷ []
    → HasSpelled n hash text → HasSpelled (n + 1) (set hash n b) text
spelled_on n b hash text lt len small digits so_far =
    let room : n < length hash = let l = so_far.len in omega arith in
    let grown = take_more_set hash n b room in
    record {
      len = length-set hash n b ∙ so_far.len;
      bytes = byte_set hash n b room small so_far.bytes;
      front = rw grown (encode_append (take n hash) (b ∷ []) ∙ (rw (so_far.front, digits) (sym (two_more n text (omega arith)))));
    }

-- what 32 bytes spell is a whole text of 64
pub spelled_all : (n : ℕ) (hash text : List ℕ) → n ≡ 32 → length text ≡ 64 → HasSpelled n hash text → IsHash hash × (text ≡ encode_lower hash)
spelled_all n hash text e len read_all =
    let all = rw e at read_all in
    let whole = take_all 32 hash (let l = all.len in omega arith) in
    let read = take_all 64 text (omega arith) in
    (record { len = all.len; bytes = all.bytes }, sym read ∙ (sym all.front ∙ rw whole refl))

-- one text is written of one hash
pub one_hash : (hash other : List ℕ) → IsHash hash → IsHash other → encode_lower hash ≡ encode_lower other → hash ≡ other
one_hash hash other h o e =
    let back : Ok hash ≡ Ok other = sym (hash_given hash h) ∙ (rw e (hash_given other o)) in
    cc back

-- each digit of the text of a hash is one
pub digit_at : (text : List ℕ) (i : ℕ) → i < 64 → IsHashText text → is_lower_hex (slice_index text i) ≡ true
digit_at text i lt t = All-get_or is_lower text i 0 (let l = t.len in omega arith) t.digits

zero_bytes : (n : ℕ) → IsBytes (replicate n 0)
zero_bytes zero i = omega arith
zero_bytes (suc n) zero = omega arith
zero_bytes (suc n) (suc i) = zero_bytes n i

-- nothing is read yet
pub none_spelled : (text : List ℕ) → HasSpelled 0 (replicate 32 0) text
unfolding encode_with
none_spelled text = record { len = refl; bytes = zero_bytes 32; front = refl }
