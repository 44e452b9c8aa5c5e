-- Percent-encoded paths (RFC 3986, sections 2.1 to 2.3). Of its spellings this product has one: a
-- byte is escaped exactly where it is neither unreserved nor `/`, with upper-case digits.
use Rattle.std.specs.Prelude.{ℕ, ◌+◌, ◌/◌, ◌%◌, Bool, ◌&&◌, ◌||◌, ◌==◌, nat_le, nat_lt, List, []}
use Rattle.std.specs.Prelude.{◌∷◌, if◌then◌else◌}
use Rattle.std.specs.List.{flat_map}
use Rattle.messages.specs.Path.{path_text}

-- `A` to `Z`, `a` to `z`, `0` to `9`, `-`, `.`, `_`, `~` and `/`
abbrev pub is_plain : ℕ → Bool
is_plain b =
    (nat_le 65 b && nat_le b 90) || (nat_le 97 b && nat_le b 122) || (nat_le 48 b && nat_le b 57)
    || (b == 45) || (b == 46) || (b == 95) || (b == 126) || (b == 47)

-- an upper-case hexadecimal digit
abbrev pub hex_digit : ℕ → ℕ
hex_digit n = if nat_lt n 10 then 48 + n else 55 + n

-- a byte: itself, or `%` and two digits
abbrev pub escaped_byte : ℕ → List ℕ
escaped_byte b = if is_plain b then b ∷ [] else 37 ∷ hex_digit (b / 16) ∷ hex_digit (b % 16) ∷ []

-- each byte of a text in turn
abbrev pub escaped : List ℕ → List ℕ
escaped text = flat_map escaped_byte text

-- the one spelling of a path
abbrev pub escaped_path : List (List ℕ) → List ℕ
escaped_path path = escaped (path_text path)
