-- Numbers of bytes as options spell them.
use Rattle.std.specs.Prelude.{◌≡◌, ℕ, ◌<◌, ◌≤◌, ◌^◌, ◌*◌, ◌==◌, List, [], ◌∷◌, ◌++◌, Option, None}
use Rattle.std.specs.Prelude.{Some, if◌then◌else◌}
use Rattle.commands.specs.Options.{IsNumber, decimal_number}

-- how many bytes a letter stands for: K (75), M (77), G (71) and T (84) for powers of 1,024
abbrev pub unit_of : ℕ → Option ℕ
unit_of letter =
    if letter == 75 then Some 1024 else (if letter == 77 then Some 1048576
    else (if letter == 71 then Some 1073741824 else (if letter == 84 then Some 1099511627776
    else None)))

-- a text is these digits, and the letter of this unit behind them
pub record HasUnit (text digits : List ℕ) (unit : ℕ) : Type 0 where
  pub letter : ℕ
  pub is_unit : unit_of letter ≡ Some unit
  pub cut : text ≡ digits ++ letter ∷ []

-- a text spells a number of bytes, less than 2 ^ 64: in decimal digits, or in those and a unit
pub data SpellsBytes (text : List ℕ) (bytes : ℕ) : Type 0 where
  alone : IsNumber text → bytes ≡ decimal_number text → SpellsBytes text bytes
  in_units : (digits : List ℕ) (unit : ℕ) → HasUnit text digits unit → IsNumber digits
      → bytes ≡ decimal_number digits * unit → bytes < 2 ^ 64 → SpellsBytes text bytes

-- a text spells a number of bytes that is no greater
abbrev pub SpellsBytesUpTo : ℕ → List ℕ → Type 0
SpellsBytesUpTo greatest text = (bytes : ℕ) × SpellsBytes text bytes × (bytes ≤ greatest)
