-- No bytes spell two lists of records, in whatever groups their numbers are.
use Rattle.std.proofs.Common.{◌≡◌, ℕ, ◌+◌, ◌*◌, ◌<◌, List, [], ◌∷◌, ◌++◌, length, refl, sym, ap, subst, ◌∙◌, append_assoc, arith, lit<}
use Rattle.wire.specs.Record.{Value, Varint, Eight, Bytes, Four, Record, record_with}
use Rattle.wire.specs.Spelling.{wire_type}
use Rattle.wire.specs.Varint.{group_sum, AreGroups}
use Rattle.wire.specs.AnySpelling.{IsVarint, HasLength, IsValueText, IsRecordText, SpellsAny}

pub groups_once : (a b x y : List ℕ) → AreGroups a → AreGroups b → a ++ x ≡ b ++ y → (a ≡ b) × (x ≡ y)
groups_once [] b x y h k e = absurd h
groups_once (m ∷ a) [] x y h k e = absurd k
groups_once (m ∷ []) (n ∷ []) x y h k e =
    let heads : m ≡ n = cc in
    let tails : x ≡ y = cc in
    (λ i. heads i ∷ [], tails)
groups_once (m ∷ []) (n ∷ o ∷ b) x y h k e = let heads : m ≡ n = cc in absurd (omega (arith, h, k.0, heads))
groups_once (m ∷ l ∷ a) (n ∷ []) x y h k e = let heads : m ≡ n = cc in absurd (omega (arith, k, h.0, heads))
groups_once (m ∷ l ∷ a) (n ∷ o ∷ b) x y h k e =
    let heads : m ≡ n = cc in
    let tails : (l ∷ a) ++ x ≡ (o ∷ b) ++ y = cc in
    let rest = groups_once (l ∷ a) (o ∷ b) x y h.1 k.1 tails in
    (λ i. heads i ∷ rest.0 i, rest.1)

varint_once : (m n : ℕ) (a b x y : List ℕ) → IsVarint m a → IsVarint n b → a ++ x ≡ b ++ y → (m ≡ n) × (x ≡ y)
varint_once m n a b x y h k e =
    let g = groups_once a b x y h.form k.form e in
    (sym h.sum ∙ ap group_sum g.0 ∙ k.sum, g.1)

front_once : (a b x y : List ℕ) → length a ≡ length b → a ++ x ≡ b ++ y → (a ≡ b) × (x ≡ y)
front_once [] [] x y l e = (refl, e)
front_once [] (n ∷ b) x y l e = absurd (omega (arith, l))
front_once (m ∷ a) [] x y l e = absurd (omega (arith, l))
front_once (m ∷ a) (n ∷ b) x y l e =
    let heads : m ≡ n = cc in
    let tails : a ++ x ≡ b ++ y = cc in
    let rest = front_once a b x y (omega (arith, l)) tails in
    (λ i. heads i ∷ rest.0 i, rest.1)

bytes_once : (a b t u x y : List ℕ) → HasLength a t → HasLength b u → t ++ x ≡ u ++ y → (a ≡ b) × (x ≡ y)
bytes_once a b t u x y h k e =
    let left : t ++ x ≡ h.len ++ (a ++ x) = ap (λ (l : List ℕ). l ++ x) h.parts ∙ append_assoc h.len a x in
    let right : u ++ y ≡ k.len ++ (b ++ y) = ap (λ (l : List ℕ). l ++ y) k.parts ∙ append_assoc k.len b y in
    let v = varint_once (length a) (length b) h.len k.len (a ++ x) (b ++ y) h.counts k.counts (sym left ∙ e ∙ right) in
    front_once a b x y v.0 v.1

fixed_once : (n : ℕ) (a b t u x y : List ℕ) → length a ≡ n → t ≡ a → length b ≡ n → u ≡ b → t ++ x ≡ u ++ y → (a ≡ b) × (x ≡ y)
fixed_once n a b t u x y la ta lb ub e = front_once a b x y (la ∙ sym lb) (ap (λ (l : List ℕ). l ++ x) (sym ta) ∙ e ∙ ap (λ (l : List ℕ). l ++ y) ub)

value_once : (v w : Value) (t u x y : List ℕ) → wire_type v ≡ wire_type w → IsValueText v t → IsValueText w u → t ++ x ≡ u ++ y → (v ≡ w) × (x ≡ y)
value_once (Varint m) (Varint n) t u x y k h i e = let o = varint_once m n t u x y h i e in (ap Varint o.0, o.1)
value_once (Eight a) (Eight b) t u x y k h i e = let o = fixed_once 8 a b t u x y h.0 h.1 i.0 i.1 e in (ap Eight o.0, o.1)
value_once (Bytes a) (Bytes b) t u x y k h i e = let o = bytes_once a b t u x y h i e in (ap Bytes o.0, o.1)
value_once (Four a) (Four b) t u x y k h i e = let o = fixed_once 4 a b t u x y h.0 h.1 i.0 i.1 e in (ap Four o.0, o.1)
value_once (Varint m) (Eight b) t u x y k h i e = absurd (omega (arith, k))
value_once (Varint m) (Bytes b) t u x y k h i e = absurd (omega (arith, k))
value_once (Varint m) (Four b) t u x y k h i e = absurd (omega (arith, k))
value_once (Eight a) (Varint n) t u x y k h i e = absurd (omega (arith, k))
value_once (Eight a) (Bytes b) t u x y k h i e = absurd (omega (arith, k))
value_once (Eight a) (Four b) t u x y k h i e = absurd (omega (arith, k))
value_once (Bytes a) (Varint n) t u x y k h i e = absurd (omega (arith, k))
value_once (Bytes a) (Eight b) t u x y k h i e = absurd (omega (arith, k))
value_once (Bytes a) (Four b) t u x y k h i e = absurd (omega (arith, k))
value_once (Four a) (Varint n) t u x y k h i e = absurd (omega (arith, k))
value_once (Four a) (Eight b) t u x y k h i e = absurd (omega (arith, k))
value_once (Four a) (Bytes b) t u x y k h i e = absurd (omega (arith, k))

wire_type_low : (value : Value) → wire_type value < 8
wire_type_low (Varint n) = lit< tt
wire_type_low (Eight bytes) = lit< tt
wire_type_low (Bytes bytes) = lit< tt
wire_type_low (Four bytes) = lit< tt

-- records with the same fields
same_record : (r s : Record) → r.number ≡ s.number → r.value ≡ s.value → r ≡ s
same_record r s n v = λ i. record_with (n i) (v i)

record_once : (r s : Record) (t u x y : List ℕ) → IsRecordText r t → IsRecordText s u → t ++ x ≡ u ++ y → (r ≡ s) × (x ≡ y)
record_once r s t u x y h k e =
    let left : t ++ x ≡ h.tag ++ (h.payload ++ x) = ap (λ (l : List ℕ). l ++ x) h.parts ∙ append_assoc h.tag h.payload x in
    let right : u ++ y ≡ k.tag ++ (k.payload ++ y) = ap (λ (l : List ℕ). l ++ y) k.parts ∙ append_assoc k.tag k.payload y in
    let tags = varint_once (r.number * 8 + wire_type r.value) (s.number * 8 + wire_type s.value) h.tag k.tag (h.payload ++ x) (k.payload ++ y) h.tagged k.tagged (sym left ∙ e ∙ right) in
    let low = wire_type_low r.value in
    let small = wire_type_low s.value in
    let number : r.number ≡ s.number = omega (arith, tags.0, low, small) in
    let kind : wire_type r.value ≡ wire_type s.value = omega (arith, tags.0, low, small) in
    let values = value_once r.value s.value h.payload k.payload x y kind h.spelled k.spelled tags.1 in
    (same_record r s number values.0, values.1)

record_some : (r : Record) (t x : List ℕ) → IsRecordText r t → t ++ x ≡ [] → ⊥
record_some r t x h e = by h.tag h.payload h.tagged.form (ap (λ (l : List ℕ). l ++ x) (sym h.parts) ∙ e)
  where
    by : (tag payload : List ℕ) → AreGroups tag → (tag ++ payload) ++ x ≡ [] → ⊥
    by [] payload g is = absurd g
    by (b ∷ tag) payload g is = absurd cc

pub any_once : (bytes : List ℕ) (rs ss : List Record) → SpellsAny bytes rs → SpellsAny bytes ss → rs ≡ ss
any_once bytes [] [] h k = refl
any_once bytes [] (s ∷ ss) h (text, rest, is, spelled, others) = absurd (record_some s text rest spelled (sym is ∙ h))
any_once bytes (r ∷ rs) [] (text, rest, is, spelled, others) k = absurd (record_some r text rest spelled (sym is ∙ k))
any_once bytes (r ∷ rs) (s ∷ ss) (t, x, is, spelled, others) (u, y, also, same, more) =
    let heads = record_once r s t u x y spelled same (sym is ∙ also) in
    let tails = any_once x rs ss others (subst (λ (l : List ℕ). SpellsAny l ss) (sym heads.1) more) in
    λ i. heads.0 i ∷ tails i
