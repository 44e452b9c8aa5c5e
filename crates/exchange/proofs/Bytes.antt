-- What the bytes of targets, hosts and numbers are: visible ASCII.
use Rattle.std.proofs.Common.{◌≡◌, ℕ, ◌<◌, ◌≤◌, ◌==◌, ◌&&◌, ◌||◌, not, nat_lt, nat_le, Bool, true, false, cond, List, [], ◌∷◌, ◌++◌, length, inl, inr, refl, sym, ◌∙◌, ap, arith}
use Rattle.std.specs.Prelude.{All, IsAscii}
use Rattle.std.specs.List.{AllPass, list_all, onto_first, slice_split}
use Rattle.std.specs.Char.{is_ascii_alphanumeric, is_ascii_digit}
use Rattle.std.proofs.lemmas.Bool.{agree_below, agree_below_at, cases_lt}
use Rattle.std.proofs.lemmas.List.Elements.{All-cons, All-head, All-nil, All-tail}
use Rattle.std.proofs.lemmas.List.Folds.{list_all-append}
use Rattle.std.proofs.lemmas.List.Sums.{AllPass-from_list_all, list_all-from_AllPass}
use Rattle.std.proofs.lemmas.Str.Ascii.{IsAscii-from_all}
use Rattle.httparse.specs.Grammar.{is_uri_byte, is_value_byte}
use Rattle.hex.specs.Hex.{encode_lower}
use Rattle.blob_digest.specs.DigestValue.{IsHash}
use Rattle.blob_digest.specs.Text.{is_lower_hex}
use Rattle.blob_digest.proofs.HexTexts.{lower-encode}
use Rattle.http_core.specs.declared.event.Area.{Area}
use Rattle.http_core.specs.declared.event.Area.TheVariants.{Ac, Cas, Pin, Unpin}
use Rattle.http_core.specs.Host.{is_host, is_host_byte}
use Rattle.http_core.specs.Prefix.{are_segments, is_prefix, is_prefix_segment, is_unreserved}
use Rattle.http_core.specs.Rules.{area_text, target_text}
use Rattle.exchange.proofs.Lines.{both}

-- a printed byte of ASCII, and no space
abbrev pub is_visible : ℕ → Bool
is_visible b = nat_le 33 b && nat_le b 126

unless : (a b : Bool) → a ≡ true → (not a || b) ≡ true → b ≡ true
unless true b h e = e
unless false b h e = absurd cc

-- a test that no byte passes from 128 on is implied, where it is below
implied : (p q : ℕ → Bool) → agree_below (λ b. not (p b) || q b) (λ b. true) 128 ≡ true → ((b : ℕ) → 128 ≤ b → p b ≡ false)
    → (b : ℕ) → p b ≡ true → q b ≡ true
implied p q table above b h = elim (cases_lt b 128) [
  | inl small ↦ unless (p b) (q b) h (agree_below_at (λ c. not (p c) || q c) (λ c. true) 128 b table small)
  | inr large ↦ absurd (let no : true ≡ false = sym h ∙ above b large in cc)
]

pub all_implied : (p q : ℕ → Bool) → ((b : ℕ) → p b ≡ true → q b ≡ true) → (bytes : List ℕ) → list_all p bytes ≡ true → list_all q bytes ≡ true
all_implied p q f [] h = refl
all_implied p q f (b ∷ bytes) h =
    let k = both (p b) (list_all p bytes) h in
    ap (λ x. x && list_all q bytes) (f b k.0) ∙ all_implied p q f bytes k.1

pub all_joined : (p : ℕ → Bool) (xs ys : List ℕ) → list_all p xs ≡ true → list_all p ys ≡ true → list_all p (xs ++ ys) ≡ true
all_joined p xs ys h k = list_all-append p xs ys ∙ ap (λ a. a && list_all p ys) h ∙ k

high_visible : (b : ℕ) → 128 ≤ b → is_visible b ≡ false
high_visible b h = grind arith

far : (b n : ℕ) → 128 ≤ b → nat_lt n 128 ≡ true → (b == n) ≡ false
far b n h k = grind arith

high_alphanumeric : (b : ℕ) → 128 ≤ b → is_ascii_alphanumeric b ≡ false
high_alphanumeric b h = grind arith

high_host : (b : ℕ) → 128 ≤ b → is_host_byte b ≡ false
high_host b h =
    rw (
      high_alphanumeric b h,
      far b 45 h refl,
      far b 46 h refl,
      far b 95 h refl,
      far b 126 h refl,
      far b 33 h refl,
      far b 36 h refl,
      far b 38 h refl,
      far b 39 h refl,
      far b 40 h refl,
      far b 41 h refl,
      far b 42 h refl,
      far b 43 h refl,
      far b 44 h refl,
      far b 59 h refl,
      far b 61 h refl,
      far b 37 h refl,
      far b 58 h refl,
      far b 91 h refl,
      far b 93 h refl,
    )

high_hex : (b : ℕ) → 128 ≤ b → is_lower_hex b ≡ false
high_hex b h = grind arith

high_digit : (b : ℕ) → 128 ≤ b → is_ascii_digit b ≡ false
high_digit b h = grind arith

pub visible_value : (b : ℕ) → is_visible b ≡ true → is_value_byte b ≡ true
visible_value = implied is_visible is_value_byte refl high_visible

pub visible_uri : (b : ℕ) → is_visible b ≡ true → is_uri_byte b ≡ true
visible_uri = implied is_visible is_uri_byte refl high_visible

visible_host : (b : ℕ) → is_host_byte b ≡ true → is_visible b ≡ true
visible_host = implied is_host_byte is_visible refl high_host

visible_hex : (b : ℕ) → is_lower_hex b ≡ true → is_visible b ≡ true
visible_hex = implied is_lower_hex is_visible refl high_hex

pub visible_digit : (b : ℕ) → is_ascii_digit b ≡ true → is_visible b ≡ true
visible_digit = implied is_ascii_digit is_visible refl high_digit

or_left : (a b : Bool) → a ≡ true → (a || b) ≡ true
or_left true b e = refl
or_left false b e = absurd cc

visible_unreserved : (b : ℕ) → is_unreserved b ≡ true → is_visible b ≡ true
visible_unreserved b h = visible_host b (or_left _ _ (or_left _ _ h))

-- ---- hosts

pub host_visible : (host : List ℕ) → is_host host ≡ true → list_all is_visible host ≡ true
host_visible host h = all_implied is_host_byte is_visible visible_host host (both (nat_lt 0 (length host)) (list_all is_host_byte host) h).1

pub host_some : (host : List ℕ) → is_host host ≡ true → 0 < length host
host_some host h = let k = (both (nat_lt 0 (length host)) (list_all is_host_byte host) h).0 in grind arith

-- ---- prefixes

abbrev each_all : (ℕ → Bool) → List (List ℕ) → Bool
each_all p parts = list_all (λ part. list_all p part) parts

segments_plain : (parts : List (List ℕ)) → list_all is_prefix_segment parts ≡ true → each_all is_unreserved parts ≡ true
segments_plain [] h = refl
segments_plain (part ∷ parts) h =
    let k = both (is_prefix_segment part) (list_all is_prefix_segment parts) h in
    let m = both (nat_lt 0 (length part)) (list_all is_unreserved part) k.0 in
    ap (λ a. a && each_all is_unreserved parts) m.1 ∙ segments_plain parts k.1

-- the first part begins with the byte
put_first : (p : ℕ → Bool) (b : ℕ) (parts : List (List ℕ)) → each_all p (onto_first b parts) ≡ true → (p b ≡ true) × (each_all p parts ≡ true)
put_first p b [] h = ((both (p b) true (both (p b && true) true h).0).0, refl)
put_first p b (part ∷ parts) h =
    let k = both (p b && list_all p part) (each_all p parts) h in
    let m = both (p b) (list_all p part) k.0 in
    (m.0, ap (λ a. a && each_all p parts) m.1 ∙ k.1)

-- what is cut at slashes into unreserved bytes is visible
split_visible : (bytes : List ℕ) → each_all is_unreserved (slice_split (λ c. c == 47) bytes) ≡ true → list_all is_visible bytes ≡ true
split_visible [] h = refl
split_visible (b ∷ bytes) h = by (split_visible bytes) (b == 47) refl h
  where
    slash : (b == 47) ≡ true → is_visible b ≡ true
    slash e = let k : b ≡ 47 = grind arith in ap is_visible k

    by : (each_all is_unreserved (slice_split (λ c. c == 47) bytes) ≡ true → list_all is_visible bytes ≡ true) → (x : Bool) → (b == 47) ≡ x → each_all is_unreserved (cond x ([] ∷ slice_split (λ c. c == 47) bytes) (onto_first b (slice_split (λ c. c == 47) bytes))) ≡ true → list_all is_visible (b ∷ bytes) ≡ true
    by more true e k = ap (λ a. a && list_all is_visible bytes) (slash e) ∙ more (both true _ k).1
    by more false e k =
        let m = put_first is_unreserved b (slice_split (λ c. c == 47) bytes) k in
        ap (λ a. a && list_all is_visible bytes) (visible_unreserved b m.0) ∙ more m.1

segments_visible : (text : List ℕ) → are_segments text ≡ true → list_all is_visible text ≡ true
segments_visible [] h = refl
segments_visible (b ∷ text) h =
    let k = both (b == 47) (list_all is_prefix_segment (slice_split (λ c. c == 47) text)) h in
    let slash : b ≡ 47 = (let e = k.0 in grind arith) in
    ap (λ a. is_visible a && list_all is_visible text) slash ∙ split_visible text (segments_plain (slice_split (λ c. c == 47) text) k.1)

pub prefix_visible : (prefix : List ℕ) → is_prefix prefix ≡ true → list_all is_visible prefix ≡ true
prefix_visible prefix h = segments_visible prefix (both (nat_le (length prefix) 256) (are_segments prefix) h).1

pub prefix_short : (prefix : List ℕ) → is_prefix prefix ≡ true → length prefix ≤ 256
prefix_short prefix h = let k = (both (nat_le (length prefix) 256) (are_segments prefix) h).0 in grind arith

-- ---- targets

area_visible : (area : Area) → list_all is_visible (area_text area) ≡ true
area_visible Ac = refl
area_visible Cas = refl
area_visible Pin = refl
area_visible Unpin = refl

hash_visible : (hash : List ℕ) → IsHash hash → list_all is_visible (encode_lower hash) ≡ true
hash_visible hash h = all_implied is_lower_hex is_visible visible_hex (encode_lower hash) (list_all-from_AllPass is_lower_hex (encode_lower hash) (lower-encode hash h.bytes))

pub target_visible : (prefix : List ℕ) (area : Area) (hash : List ℕ) → is_prefix prefix ≡ true → IsHash hash → list_all is_visible (target_text prefix area hash) ≡ true
target_visible prefix area hash p h =
    all_joined is_visible prefix (area_text area ++ encode_lower hash) (prefix_visible prefix p)
    (all_joined is_visible (area_text area) (encode_lower hash) (area_visible area) (hash_visible hash h))

-- ---- as the grammar has it

low : (b : ℕ) → is_visible b ≡ true → b < 128
low b h = let k = both (nat_le 33 b) (nat_le b 126) h in let e = k.1 in grind arith

each_low : (bytes : List ℕ) → AllPass is_visible bytes → All (λ b. b < 128) bytes
each_low [] h = All-nil (λ b. b < 128)
each_low (b ∷ bytes) h = All-cons (λ c. c < 128) b bytes (low b (All-head (λ c. is_visible c ≡ true) b bytes h)) (each_low bytes (All-tail (λ c. is_visible c ≡ true) b bytes h))

pub visible_ascii : (bytes : List ℕ) → list_all is_visible bytes ≡ true → IsAscii bytes
visible_ascii bytes h = IsAscii-from_all bytes (each_low bytes (AllPass-from_list_all is_visible bytes h))
