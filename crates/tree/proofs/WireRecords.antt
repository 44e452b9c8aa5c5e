-- One spelling is that of one list of records.
use Rattle.std.proofs.Common.{◌≡◌, ℕ, zero, suc, ◌+◌, ◌*◌, ◌/◌, ◌%◌, List, [], ◌∷◌, ◌++◌, length, refl, sym, ◌∙◌, arith, append_assoc, Bool, true, false, cond}
use Rattle.std.specs.Prelude.{nat_lt}
use Rattle.std.specs.List.{AllByRecursion}
use borrow.Author.Tests.{ltb-true}
use Rattle.wire.specs.Record.{Value, Varint, Eight, Bytes, Four, Record}
use Rattle.wire.specs.Varint.{groups, varint}
use Rattle.wire.specs.Spelling.{wire_type, value_text, record_text, spelling, HasFixedSize}

-- no varint begins another
groups_split : (count m n : ℕ) (x y : List ℕ) (a b : Bool) → nat_lt m 128 ≡ a → nat_lt n 128 ≡ b
    → (groups count (m / 128) ++ x ≡ groups count (n / 128) ++ y → (m / 128 ≡ n / 128) × (x ≡ y))
    → cond a (m ∷ []) ((m % 128 + 128) ∷ groups count (m / 128)) ++ x ≡ cond b (n ∷ []) ((n % 128 + 128) ∷ groups count (n / 128)) ++ y
    → (m ≡ n) × (x ≡ y)
groups_split count m n x y true true p q ih e = (cc, cc)
groups_split count m n x y true false p q ih e = let h : m ≡ n % 128 + 128 = cc in absurd (omega (arith, ltb-true _ _ p))
groups_split count m n x y false true p q ih e = let h : m % 128 + 128 ≡ n = cc in absurd (omega (arith, ltb-true _ _ q))
groups_split count m n x y false false p q ih e =
    let heads : m % 128 + 128 ≡ n % 128 + 128 = cc in
    let tails : groups count (m / 128) ++ x ≡ groups count (n / 128) ++ y = cc in
    let rest = ih tails in
    (omega (arith, rest.0), rest.1)

groups_first : (count m n : ℕ) (x y : List ℕ) → groups count m ++ x ≡ groups count n ++ y → (m ≡ n) × (x ≡ y)
unfolding groups
groups_first zero m n x y e = (cc, cc)
groups_first (suc count) m n x y e = groups_split count m n x y _ _ refl refl (groups_first count (m / 128) (n / 128) x y) e

varint_first : (m n : ℕ) (x y : List ℕ) → varint m ++ x ≡ varint n ++ y → (m ≡ n) × (x ≡ y)
unfolding varint
varint_first m n x y e = groups_first 9 m n x y e

-- lists of one length that begin one list are one
same_front : (a b : List ℕ) (x y : List ℕ) → length a ≡ length b → a ++ x ≡ b ++ y → (a ≡ b) × (x ≡ y)
same_front [] [] x y l e = (refl, e)
same_front [] (b ∷ bs) x y l e = absurd (omega arith)
same_front (a ∷ aa) [] x y l e = absurd (omega arith)
same_front (a ∷ aa) (b ∷ bs) x y l e =
    let heads : a ≡ b = cc in
    let tails : aa ++ x ≡ bs ++ y = cc in
    let rest = same_front aa bs x y (omega arith) tails in
    (λ i. heads i ∷ rest.0 i, rest.1)

-- no record begins another
value_first : (f g : ℕ) (p q : Value) (x y : List ℕ) → HasFixedSize p → HasFixedSize q → f * 8 + wire_type p ≡ g * 8 + wire_type q → value_text p ++ x ≡ value_text q ++ y
    → (◌≡◌ {A = Record} (record { number = f; value = p }) (record { number = g; value = q })) × (x ≡ y)
value_first f g (Varint m) (Varint n) x y h k t e =
    let v = varint_first m n x y e in
    let fields : f ≡ g = omega arith in
    (λ i. record { number = fields i; value = Varint (v.0 i) }, v.1)
value_first f g (Bytes a) (Bytes b) x y h k t e =
    let v = varint_first (length a) (length b) (a ++ x) (b ++ y) (sym (append_assoc (varint (length a)) a x) ∙ e ∙ append_assoc (varint (length b)) b y) in
    let w = same_front a b x y v.0 v.1 in
    let fields : f ≡ g = omega arith in
    (λ i. record { number = fields i; value = Bytes (w.0 i) }, w.1)
value_first f g (Eight a) (Eight b) x y h k t e =
    let w = same_front a b x y (h ∙ sym k) e in
    let fields : f ≡ g = omega arith in
    (λ i. record { number = fields i; value = Eight (w.0 i) }, w.1)
value_first f g (Four a) (Four b) x y h k t e =
    let w = same_front a b x y (h ∙ sym k) e in
    let fields : f ≡ g = omega arith in
    (λ i. record { number = fields i; value = Four (w.0 i) }, w.1)
value_first f g (Varint m) (Eight b) x y h k t e = absurd (omega arith)
value_first f g (Varint m) (Bytes b) x y h k t e = absurd (omega arith)
value_first f g (Varint m) (Four b) x y h k t e = absurd (omega arith)
value_first f g (Eight a) (Varint n) x y h k t e = absurd (omega arith)
value_first f g (Eight a) (Bytes b) x y h k t e = absurd (omega arith)
value_first f g (Eight a) (Four b) x y h k t e = absurd (omega arith)
value_first f g (Bytes a) (Varint n) x y h k t e = absurd (omega arith)
value_first f g (Bytes a) (Eight b) x y h k t e = absurd (omega arith)
value_first f g (Bytes a) (Four b) x y h k t e = absurd (omega arith)
value_first f g (Four a) (Varint n) x y h k t e = absurd (omega arith)
value_first f g (Four a) (Eight b) x y h k t e = absurd (omega arith)
value_first f g (Four a) (Bytes b) x y h k t e = absurd (omega arith)

record_first : (r s : Record) (x y : List ℕ) → HasFixedSize r.value → HasFixedSize s.value → record_text r ++ x ≡ record_text s ++ y → (r ≡ s) × (x ≡ y)
record_first r s x y h k e =
    let v = varint_first (r.number * 8 + wire_type r.value) (s.number * 8 + wire_type s.value) (value_text r.value ++ x) (value_text s.value ++ y)
    (sym (append_assoc (varint (r.number * 8 + wire_type r.value)) (value_text r.value) x) ∙ e ∙ append_assoc (varint (s.number * 8 + wire_type s.value)) (value_text s.value) y) in
    value_first r.number s.number r.value s.value x y h k v.0 v.1

groups_some : (count n : ℕ) (x : List ℕ) → groups count n ++ x ≡ [] → ⊥
unfolding groups
groups_some zero n x e = cc
groups_some (suc count) n x e = some (nat_lt n 128) e
  where
    some : (b : Bool) → cond b (n ∷ []) ((n % 128 + 128) ∷ groups count (n / 128)) ++ x ≡ [] → ⊥
    some true e = cc
    some false e = cc

varint_some : (n : ℕ) (x : List ℕ) → varint n ++ x ≡ [] → ⊥
unfolding varint
varint_some n x e = groups_some 9 n x e

record_some : (r : Record) (x : List ℕ) → record_text r ++ x ≡ [] → ⊥
record_some r x e = varint_some (r.number * 8 + wire_type r.value) (value_text r.value ++ x) (sym (append_assoc (varint (r.number * 8 + wire_type r.value)) (value_text r.value) x) ∙ e)

abbrev pub AreFixed : List Record → Type 0
AreFixed rs = AllByRecursion (λ r. HasFixedSize r.value) rs

-- one spelling is that of one list of records
pub spelling_injective : (rs ss : List Record) → AreFixed rs → AreFixed ss → spelling rs ≡ spelling ss → rs ≡ ss
spelling_injective [] [] h k e = refl
spelling_injective [] (s ∷ ss) h k e = absurd (record_some s (spelling ss) (sym e))
spelling_injective (r ∷ rs) [] h k e = absurd (record_some r (spelling rs) e)
spelling_injective (r ∷ rs) (s ∷ ss) h k e =
    let v = record_first r s (spelling rs) (spelling ss) h.0 k.0 e in
    let rest = spelling_injective rs ss h.1 k.1 v.1 in
    λ i. v.0 i ∷ rest i
