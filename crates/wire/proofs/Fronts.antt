-- What was read at the front of bytes, by its length.
use Rattle.std.proofs.Common.{◌≡◌, ℕ, ◌^◌, ◌<◌, ◌≤◌, List, ◌++◌, length, take, drop, Result, Ok, Err, sym, ap, ◌∙◌, arith}
use Rattle.std.specs.Prelude.{IfOk, IfErr}
use Rattle.std.proofs.lemmas.List.{take_at, length-append, length-drop}
use Rattle.wire.specs.declared.error.WireError.{WireError}
use Rattle.wire.specs.Bytes.{IsBytes}
use Rattle.wire.specs.Steps.{Gives}
use Rattle.wire.specs.Varint.{varint, varint_at, HasVarintFault}
use Rattle.wire.proofs.Faults.{varint_faulty}
use Rattle.wire.proofs.Records.{varint_takes, varint_again}
use Rattle.wire.proofs.Steps.{ok_is}

abbrev pub Front : Type 0
Front = ℕ × ℕ

abbrev pub answered : Front → Result Front WireError
answered found = Ok found

abbrev pub rest_of : List ℕ → Front → ℕ × List ℕ
rest_of bytes found = (found.0, drop found.1 bytes)

pub same_front : (a b m n : ℕ) → a ≡ b → m ≡ n → answered (a, m) ≡ answered (b, n)
same_front a b m n p q = ap (λ (k : ℕ). answered (k, m)) p ∙ ap (λ (k : ℕ). answered (b, k)) q

pub front_found : (bytes : List ℕ) (r : Result Front WireError) → IsBytes bytes → Gives (rest_of bytes) r (varint_at bytes) → IfOk r (λ found. found.1 ≤ length bytes) → IfOk r (λ found. take found.1 bytes ≡ varint found.0)
front_found bytes (Ok found) fits given le =
    let t = varint_takes bytes (rest_of bytes found) fits given in
    let parts : bytes ≡ varint found.0 ++ drop found.1 bytes = t.0.parts in
    let len : length (varint found.0) ≡ found.1 = omega (arith, ap length parts, length-append (varint found.0) (drop found.1 bytes), length-drop found.1 bytes) in
    ap (take found.1) parts ∙ take_at (varint found.0) (drop found.1 bytes) found.1 len
front_found bytes (Err e) fits given le = tt

pub front_only : (bytes : List ℕ) (r : Result Front WireError) (n : ℕ) (rest : List ℕ) → Gives (rest_of bytes) r (varint_at bytes) → IfOk r (λ found. found.1 ≤ length bytes) → n < 2 ^ 64 → bytes ≡ varint n ++ rest → r ≡ Ok (n, length (varint n))
front_only bytes (Ok found) n rest given le lt parts =
    let both : rest_of bytes found ≡ (n, rest) = ok_is {E = WireError} (rest_of bytes found) (n, rest) (sym given ∙ ap varint_at parts ∙ varint_again n rest lt) in
    let number : found.0 ≡ n = ap (λ (x : ℕ × List ℕ). x.0) both in
    let others : drop found.1 bytes ≡ rest = ap (λ (x : ℕ × List ℕ). x.1) both in
    let len : found.1 ≡ length (varint n) = omega (arith, ap length parts, length-append (varint n) rest, ap length others, length-drop found.1 bytes) in
    same_front found.0 n found.1 (length (varint n)) number len
front_only bytes (Err e) n rest given le lt parts = let no = sym given ∙ ap varint_at parts ∙ varint_again n rest lt in absurd cc

pub front_fault : (bytes : List ℕ) (r : Result Front WireError) → Gives (rest_of bytes) r (varint_at bytes) → IfErr r (λ e. HasVarintFault e bytes)
front_fault bytes (Ok found) given = tt
front_fault bytes (Err e) given = varint_faulty bytes e given
