-- Varints (Protocol Buffers encoding guide, "Base 128 Varints"): a number of at most 64 bits in
-- groups of seven bits, the low group first.
use Rattle.std.specs.Prelude.{◌≡◌, ℕ, zero, suc, ◌+◌, ◌-◌, ◌*◌, ◌/◌, ◌%◌, ◌<◌, ◌≤◌, Bool, true}
use Rattle.std.specs.Prelude.{false, nat_lt, ◌==◌, ◌&&◌, List, [], ◌∷◌, ◌++◌, length, Result, Ok}
use Rattle.std.specs.Prelude.{Err, if◌then◌else◌}
use Rattle.std.specs.List.{AllByRecursion}
use Rattle.wire.specs.declared.error.WireError.{WireError}
use Rattle.wire.specs.declared.error.WireError.TheVariants.{Truncated, VarintTooLong, NotMinimal}
use Rattle.wire.specs.Steps.{◌>>=◌}

-- ---- the spelling

-- The groups of n: the top bit of a byte says that another follows, and at most count follow.
unfoldable pub groups : ℕ → ℕ → List ℕ
groups zero n = n ∷ []
groups (suc count) n = if nat_lt n 128 then n ∷ [] else (n % 128 + 128) ∷ groups count (n / 128)

-- the shortest form of a number of 64 bits, of ten bytes at most
unfoldable pub varint : ℕ → List ℕ
varint n = groups 9 n

-- the number that groups of seven bits make
abbrev pub group_sum : List ℕ → ℕ
group_sum [] = 0
group_sum (b ∷ bytes) = b % 128 + 128 * group_sum bytes

-- the top bit is set in each byte but the last
abbrev pub AreGroups : List ℕ → Type 0
AreGroups [] = ⊥
AreGroups (b ∷ []) = b < 128
AreGroups (b ∷ c ∷ bytes) = (128 ≤ b) × AreGroups (c ∷ bytes)

-- the law of the shortest form: these are groups of n, and no groups of n are fewer
pub record IsShortest (n : ℕ) (bytes : List ℕ) : Type 0 where
  pub form : AreGroups bytes
  pub sum : group_sum bytes ≡ n
  pub least : (others : List ℕ) → AreGroups others → group_sum others ≡ n
      → length bytes ≤ length others

-- ---- reading

-- A number and the bytes after it, or the first fault: the groups after a first one, of which at
-- most count and one come. The last is not zero where the shortest form is asked for.
unfoldable pub groups_by : Bool → ℕ → List ℕ → Result (ℕ × List ℕ) WireError
groups_by shortest count [] = Err Truncated
groups_by shortest zero (b ∷ bytes) =
    if nat_lt 1 b then Err VarintTooLong
    else (if shortest && (b == 0) then Err NotMinimal else Ok (b, bytes))
groups_by shortest (suc count) (b ∷ bytes) =
    if nat_lt b 128 then (if shortest && (b == 0) then Err NotMinimal else Ok (b, bytes))
    else (groups_by shortest count bytes >>= λ high. Ok (b - 128 + 128 * high.0, high.1))

unfoldable pub varint_by : Bool → List ℕ → Result (ℕ × List ℕ) WireError
varint_by shortest [] = Err Truncated
varint_by shortest (b ∷ bytes) =
    if nat_lt b 128 then Ok (b, bytes)
    else (groups_by shortest 8 bytes >>= λ high. Ok (b - 128 + 128 * high.0, high.1))

-- a number at the front of the bytes, in its shortest form; `any_varint_at` takes any form
abbrev pub varint_at : List ℕ → Result (ℕ × List ℕ) WireError
varint_at bytes = varint_by true bytes

abbrev pub any_varint_at : List ℕ → Result (ℕ × List ℕ) WireError
any_varint_at bytes = varint_by false bytes

-- ---- the faults, of which no bytes have two

-- b stands after bytes that each say that another follows
pub record StandsBehind (front : List ℕ) (b : ℕ) (bytes : List ℕ) : Type 0 where
  pub follow : AllByRecursion (λ a. 128 ≤ a) front
  pub rest : List ℕ
  pub parts : bytes ≡ front ++ b ∷ rest

abbrev pub HasVarintFault : WireError → List ℕ → Type 0
HasVarintFault Truncated bytes = (length bytes ≤ 9) × AllByRecursion (λ a. 128 ≤ a) bytes
HasVarintFault VarintTooLong bytes =
    (front : List ℕ) × (b : ℕ) × (length front ≡ 9) × (1 < b) × StandsBehind front b bytes
HasVarintFault NotMinimal bytes =
    (front : List ℕ) × (1 ≤ length front) × (length front ≤ 9) × StandsBehind front 0 bytes
HasVarintFault e bytes = ⊥
