-- Signed numbers and their two's complement in 64 bits.
use Rattle.std.proofs.Common.{◌≡◌, ℕ, zero, suc, ◌+◌, ◌-◌, ◌*◌, ◌/◌, ◌%◌, ◌^◌, ◌<◌, ◌≤◌, Bool, true, false, ltb, not, ◌||◌, length, refl, arith}
use Rattle.std.specs.Prelude.{ℤ, pos, negsuc, FitsSigned, ◌<ℤ◌}
use Rattle.std.specs.Int.{w32, w64, cast_signed, cast_unsigned}
use Rattle.std.proofs.lemmas.Int.{ints, to_z-of_z, of_z-to_z, to_z_pos}
use Rattle.std.proofs.Math.Facts.{to_z-neg, sfits_to_z}
use Rattle.std.proofs.lemmas.Bool.{le-ltb, lt-ltb}
use Rattle.wire.specs.Varint.{groups, varint}

pub fits_wide : (z : ℤ) → FitsSigned w32 z → FitsSigned w64 z
fits_wide (pos n) f = let low : n < 2 ^ 31 = f.sfits in record { sfits = omega arith }
fits_wide (negsuc n) f = let low : n < 2 ^ 31 = f.sfits in record { sfits = omega arith }

pub unsigned_fits : (z : ℤ) → FitsSigned w64 z → cast_unsigned w64 z < 2 ^ 64
unsigned_fits (pos n) f = let low : n < 2 ^ 63 = f.sfits in omega arith
unsigned_fits (negsuc n) f = omega arith

-- ---- an int64

pub int64_back : (z : ℤ) → FitsSigned w64 z → cast_signed w64 (cast_unsigned w64 z) ≡ z
int64_back z f = to_z-of_z w64 z f

pub int64_again : (n : ℕ) → n < 2 ^ 64 → cast_unsigned w64 (cast_signed w64 n) ≡ n
int64_again n lt = of_z-to_z w64 n lt

-- ---- an int32

-- the low 32 bits of a number from 0 on, and of a negative one
low_bits : (n : ℕ) → n < 2 ^ 31 → cast_signed w32 (n % 2 ^ 32) ≡ pos n
low_bits n lt = let low : n % 4294967296 ≡ n = omega arith in rw low (to_z_pos w32 n lt)

high_bits : (k : ℕ) → k < 2 ^ 31 → cast_signed w32 ((18446744073709551616 - suc k) % 2 ^ 32) ≡ negsuc k
high_bits k lt = let low : (18446744073709551616 - suc k) % 4294967296 ≡ 4294967296 - suc k = omega arith in rw low (to_z-neg w32 k lt)

pub int32_back : (z : ℤ) → FitsSigned w32 z → cast_signed w32 (cast_unsigned w64 z % 2 ^ 32) ≡ z
int32_back (pos n) f = low_bits n f.sfits
int32_back (negsuc n) f = high_bits n f.sfits

abbrev pub fits_int32 : ℕ → Bool
fits_int32 n = ltb n 0x8000_0000 || not (ltb n 0xffff_ffff_8000_0000)

pub int32_in_range : (z : ℤ) → FitsSigned w32 z → fits_int32 (cast_unsigned w64 z) ≡ true
int32_in_range (pos n) f = let low = lt-ltb n 0x8000_0000 f.sfits in rw low refl
int32_in_range (negsuc n) f =
    let few : n < 2 ^ 31 = f.sfits in
    let above : ltb (18446744073709551616 - suc n) 0x8000_0000 ≡ false = le-ltb _ _ (omega arith) in
    let high : ltb (18446744073709551616 - suc n) 0xffff_ffff_8000_0000 ≡ false = le-ltb _ _ (omega arith) in
    rw (above, high) refl

-- ---- a negative number takes ten bytes

abbrev place : ℕ → ℕ
place zero = 1
place (suc count) = 128 * place count

place_some : (count : ℕ) → 1 ≤ place count
place_some zero = omega arith
place_some (suc count) = omega (arith, place_some count)

groups_many : (count n : ℕ) → place count ≤ n → length (groups count n) ≡ count + 1
unfolding groups
groups_many zero n le = refl
groups_many (suc count) n le =
    let some = place_some count in
    let large = le-ltb n 128 (omega arith) in
    let rest = groups_many count (n / 128) (omega arith) in
    rw large (omega (arith, rest))

pub negative_ten : (z : ℤ) → FitsSigned w64 z → z <ℤ pos 0 → length (varint (cast_unsigned w64 z)) ≡ 10
unfolding varint
negative_ten (pos n) f neg = absurd (omega (arith, ints))
negative_ten (negsuc n) f neg = let few : n < 2 ^ 63 = f.sfits in groups_many 9 (18446744073709551616 - suc n) (omega arith)

-- ---- what is read fits its type

pub int64_fits : (n : ℕ) → n < 2 ^ 64 → FitsSigned w64 (cast_signed w64 n)
int64_fits n lt = sfits_to_z (record { fits = lt })

pub int32_fits : (n : ℕ) → FitsSigned w32 (cast_signed w32 (n % 2 ^ 32))
int32_fits n = sfits_to_z (record { fits = omega arith })
