-- A message is spelled by one list of fields.
use Rattle.std.proofs.Common.{◌≡◌, ℕ, zero, suc, ◌<◌, Bool, true, false, List, [], ◌∷◌, ◌++◌, map, Option, Some, None, refl, ap, arith, append_assoc}
use Rattle.std.specs.List.{AllByRecursion}
use Rattle.wire.specs.Record.{Varint, Bytes, Record, record_with}
use Rattle.wire.specs.Spelling.{spelling, HasFixedSize}
use Rattle.canonical.specs.Fields.{bytes_field, number_field, bool_field, message_field, element_fields}
use Rattle.tree.proofs.WireRecords.{AreFixed, spelling_injective}

-- ---- the fields of a message, one after another

-- the records of one field
abbrev pub AreRecords : ℕ → List Record → Type 0
AreRecords f rs = AllByRecursion (λ r. (r.number ≡ f) × HasFixedSize r.value) rs

abbrev AreOver : ℕ → List Record → Type 0
AreOver n rs = AllByRecursion (λ r. n < r.number) rs

-- fields of ascending numbers above n, the last of the number g
abbrev pub AreFields : ℕ → List ℕ → ℕ → List (List Record) → List Record → Type 0
AreFields n [] g [] last = (n < g) × AreRecords g last
AreFields n [] g (p ∷ ps) last = ⊥
AreFields n (f ∷ fs) g [] last = ⊥
AreFields n (f ∷ fs) g (p ∷ ps) last = (n < f) × AreRecords f p × AreFields f fs g ps last

abbrev pub together : List (List Record) → List Record → List Record
together [] last = last
together (p ∷ ps) last = p ++ together ps last

over_more : (n f : ℕ) (rs : List Record) → n < f → AreOver f rs → AreOver n rs
over_more n f [] lt h = tt
over_more n f (r ∷ rs) lt h = (omega (arith, lt, h.0), over_more n f rs lt h.1)

over_front : (n f : ℕ) (p rs : List Record) → n < f → AreRecords f p → AreOver f rs → AreOver n (p ++ rs)
over_front n f [] rs lt h k = over_more n f rs lt k
over_front n f (r ∷ p) rs lt h k = (omega (arith, lt, h.0.0), over_front n f p rs lt h.1 k)

over_last : (n f : ℕ) (p : List Record) → n < f → AreRecords f p → AreOver n p
over_last n f [] lt h = tt
over_last n f (r ∷ p) lt h = (omega (arith, lt, h.0.0), over_last n f p lt h.1)

over : (n : ℕ) (fs : List ℕ) (g : ℕ) (ps : List (List Record)) (last : List Record) → AreFields n fs g ps last → AreOver n (together ps last)
over n [] g [] last h = over_last n g last h.0 h.1
over n [] g (p ∷ ps) last h = elim h [ ]
over n (f ∷ fs) g [] last h = elim h [ ]
over n (f ∷ fs) g (p ∷ ps) last h = over_front n f p (together ps last) h.0 h.1 (over f fs g ps last h.2)

fixed_front : (f : ℕ) (p rs : List Record) → AreRecords f p → AreFixed rs → AreFixed (p ++ rs)
fixed_front f [] rs h k = k
fixed_front f (r ∷ p) rs h k = (h.0.1, fixed_front f p rs h.1 k)

fixed_last : (f : ℕ) (p : List Record) → AreRecords f p → AreFixed p
fixed_last f [] h = tt
fixed_last f (r ∷ p) h = (h.0.1, fixed_last f p h.1)

fixed : (n : ℕ) (fs : List ℕ) (g : ℕ) (ps : List (List Record)) (last : List Record) → AreFields n fs g ps last → AreFixed (together ps last)
fixed n [] g [] last h = fixed_last g last h.1
fixed n [] g (p ∷ ps) last h = elim h [ ]
fixed n (f ∷ fs) g [] last h = elim h [ ]
fixed n (f ∷ fs) g (p ∷ ps) last h = fixed_front f p (together ps last) h.1 (fixed f fs g ps last h.2)

-- a field is read off the front
front : (f : ℕ) (p q rs ss : List Record) → AreRecords f p → AreRecords f q → AreOver f rs → AreOver f ss → p ++ rs ≡ q ++ ss → (p ≡ q) × (rs ≡ ss)
front f [] [] rs ss h k m n e = (refl, e)
front f [] (y ∷ q) [] ss h k m n e = absurd cc
front f [] (y ∷ q) (r ∷ rs) ss h k m n e =
    let first : r ≡ y = cc in
    let number : r.number ≡ y.number = ap (λ (x : Record). x.number) first in
    absurd (omega (arith, number, m.0, k.0.0))
front f (x ∷ p) [] rs [] h k m n e = absurd cc
front f (x ∷ p) [] rs (s ∷ ss) h k m n e =
    let first : x ≡ s = cc in
    let number : x.number ≡ s.number = ap (λ (x : Record). x.number) first in
    absurd (omega (arith, number, n.0, h.0.0))
front f (x ∷ p) (y ∷ q) rs ss h k m n e =
    let heads : x ≡ y = cc in
    let tails : p ++ rs ≡ q ++ ss = cc in
    let rest = front f p q rs ss h.1 k.1 m n tails in
    (λ i. heads i ∷ rest.0 i, rest.1)

same_fields : (n : ℕ) (fs : List ℕ) (g : ℕ) (ps qs : List (List Record)) (last end : List Record) → AreFields n fs g ps last → AreFields n fs g qs end → together ps last ≡ together qs end → (ps ≡ qs) × (last ≡ end)
same_fields n [] g [] [] last end h k e = (refl, e)
same_fields n [] g (p ∷ ps) qs last end h k e = elim h [ ]
same_fields n [] g [] (q ∷ qs) last end h k e = elim k [ ]
same_fields n (f ∷ fs) g [] qs last end h k e = elim h [ ]
same_fields n (f ∷ fs) g (p ∷ ps) [] last end h k e = elim k [ ]
same_fields n (f ∷ fs) g (p ∷ ps) (q ∷ qs) last end h k e =
    let here = front f p q (together ps last) (together qs end) h.1 k.1 (over f fs g ps last h.2) (over f fs g qs end k.2) e in
    let rest = same_fields f fs g ps qs last end h.2 k.2 here.1 in
    (λ i. here.0 i ∷ rest.0 i, rest.1)

-- one spelling is that of the same fields
pub spelled_fields : (fs : List ℕ) (g : ℕ) (ps qs : List (List Record)) (last end : List Record) → AreFields 0 fs g ps last → AreFields 0 fs g qs end → spelling (together ps last) ≡ spelling (together qs end) → (ps ≡ qs) × (last ≡ end)
spelled_fields fs g ps qs last end h k e =
    same_fields 0 fs g ps qs last end h k (spelling_injective (together ps last) (together qs end) (fixed 0 fs g ps last h) (fixed 0 fs g qs end k) e)

pub four : (a b c d : List Record) → a ++ (b ++ (c ++ d)) ≡ a ++ b ++ c ++ d
four a b c d = simp append_assoc

pub five : (a b c d e : List Record) → a ++ (b ++ (c ++ (d ++ e))) ≡ a ++ b ++ c ++ d ++ e
five a b c d e = simp append_assoc

-- ---- fields of each kind

pub bytes_are : (f : ℕ) (bytes : List ℕ) → AreRecords f (bytes_field f bytes)
bytes_are f [] = tt
bytes_are f (b ∷ bytes) = ((refl, tt), tt)

pub number_is : (f n : ℕ) → AreRecords f (number_field f n)
number_is f zero = tt
number_is f (suc n) = ((refl, tt), tt)

pub bool_is : (f : ℕ) (b : Bool) → AreRecords f (bool_field f b)
bool_is f true = ((refl, tt), tt)
bool_is f false = tt

pub message_is : (f : ℕ) (o : Option (List ℕ)) → AreRecords f (message_field f o)
message_is f None = tt
message_is f (Some bytes) = ((refl, tt), tt)

pub elements_are : (f : ℕ) (xs : List (List ℕ)) → AreRecords f (element_fields f xs)
elements_are f [] = tt
elements_are f (x ∷ xs) = ((refl, tt), elements_are f xs)

bytes_value : (f : ℕ) (a b : List ℕ) (rs ss : List Record) → record_with f (Bytes a) ∷ rs ≡ record_with f (Bytes b) ∷ ss → (a ≡ b) × (rs ≡ ss)
bytes_value f a b rs ss e =
    let first : ◌≡◌ {A = Record} (record_with f (Bytes a)) (record_with f (Bytes b)) = cc in
    let values = ap (λ r. r.value) first in
    (cc, cc)

pub bytes_once : (f : ℕ) (a b : List ℕ) → bytes_field f a ≡ bytes_field f b → a ≡ b
bytes_once f [] [] e = refl
bytes_once f [] (b ∷ bs) e = absurd cc
bytes_once f (a ∷ aa) [] e = absurd cc
bytes_once f (a ∷ aa) (b ∷ bs) e = let same = bytes_value f (a ∷ aa) (b ∷ bs) [] [] e in same.0

pub number_once : (f a b : ℕ) → number_field f a ≡ number_field f b → a ≡ b
number_once f zero zero e = refl
number_once f zero (suc b) e = absurd cc
number_once f (suc a) zero e = absurd cc
number_once f (suc a) (suc b) e =
    let first : ◌≡◌ {A = Record} (record_with f (Varint (suc a))) (record_with f (Varint (suc b))) = cc in
    let values = ap (λ r. r.value) first in
    cc

pub bool_once : (f : ℕ) (a b : Bool) → bool_field f a ≡ bool_field f b → a ≡ b
bool_once f true true e = refl
bool_once f true false e = absurd cc
bool_once f false true e = absurd cc
bool_once f false false e = refl

pub message_once : (f : ℕ) (o p : Option (List ℕ)) → message_field f o ≡ message_field f p → o ≡ p
message_once f None None e = refl
message_once f None (Some y) e = absurd cc
message_once f (Some x) None e = absurd cc
message_once f (Some x) (Some y) e = let same = bytes_value f x y [] [] e in ap Some same.0

pub given_once : (f : ℕ) (x y : List ℕ) → message_field f (Some x) ≡ message_field f (Some y) → x ≡ y
given_once f x y e = let same = bytes_value f x y [] [] e in same.0

pub elements_once : (f : ℕ) (xs ys : List (List ℕ)) → element_fields f xs ≡ element_fields f ys → xs ≡ ys
elements_once f [] [] e = refl
elements_once f [] (y ∷ ys) e = absurd cc
elements_once f (x ∷ xs) [] e = absurd cc
elements_once f (x ∷ xs) (y ∷ ys) e =
    let same = bytes_value f x y (element_fields f xs) (element_fields f ys) e in
    let rest = elements_once f xs ys same.1 in
    λ i. same.0 i ∷ rest i

pub each_once : {X : Type 0} (text : X → List ℕ) (Keeps : X → Type 0) → ((x y : X) → Keeps x → Keeps y → text x ≡ text y → x ≡ y)
    → (xs ys : List X) → AllByRecursion Keeps xs → AllByRecursion Keeps ys → map text xs ≡ map text ys → xs ≡ ys
each_once text Keeps once [] [] h k e = refl
each_once text Keeps once [] (y ∷ ys) h k e = absurd cc
each_once text Keeps once (x ∷ xs) [] h k e = absurd cc
each_once text Keeps once (x ∷ xs) (y ∷ ys) h k e =
    let heads : text x ≡ text y = cc in
    let tails : map text xs ≡ map text ys = cc in
    let first = once x y h.0 k.0 heads in
    let rest = each_once text Keeps once xs ys h.1 k.1 tails in
    λ i. first i ∷ rest i
